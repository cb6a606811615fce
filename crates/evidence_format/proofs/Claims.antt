-- Claims that have a text are well formed, and are no more than its bytes; and every claim that is well formed has one.
use Rattle.std.proofs.Common.{inl, inr, ℕ, ◌+◌, ◌^◌, ◌<◌, ◌≤◌, List, ◌++◌, [], ◌∷◌, length, refl, ap, subst, sym, length-append, arith}
use Rattle.std.specs.List.{All, AllByRecursion, concat, flat_map}
use Rattle.std.proofs.lemmas.List.Elements.{All-nil, All-cons, All-append}
use Rattle.line_texts.specs.Lines.{Lines, last_line}
use Rattle.evidence_format.specs.Evidence.{PlainEvidence, IsWellFormed, body_lines}
use Rattle.evidence_format.specs.Bundles.{AreClaims, IsBundleText, IsClaimText, IsCount, IsTextOfEither, bundle_lines}
use Rattle.evidence_format.proofs.BodyLaws.{body_is}
use Rattle.evidence_format.proofs.BundleLaws.{HasEither, one_claim}
use Rattle.line_texts.proofs.LineLaws.{IsLine}
use Rattle.evidence_format.proofs.LineLaws.{either_is}
use Rattle.evidence_format.proofs.Reading.{from_text}

-- this number can stand in a text
pub count_of : (es : List PlainEvidence) (text : List ℕ) → IsTextOfEither es text → IsCount (length es)
count_of es text (inl h) = h.0.1
count_of es text (inr h) = subst (λ (es : List PlainEvidence). IsCount (length es)) (sym h.1) one_claim

-- what is true of a claim is true of each of one
pub all_of_one : (P : PlainEvidence → Type 0) (e : PlainEvidence) → P e → All P (e ∷ [])
all_of_one P e holds = All-cons P e [] holds (All-nil P)

-- each is well formed
pub well_formed_claims : (es : List PlainEvidence) (text : List ℕ) → IsTextOfEither es text → All IsWellFormed es
well_formed_claims es text (inl h) = h.0.0
well_formed_claims es text (inr h) = subst (All IsWellFormed) (sym h.1) (all_of_one IsWellFormed h.0 h.2.0)

-- each claim has a line of its own
few_bodies : (es : List PlainEvidence) → length es ≤ length (flat_map body_lines es)
few_bodies [] = omega arith
few_bodies (e ∷ es) = omega (arith, few_bodies es, length-append (body_lines e) (flat_map body_lines es), ap length (body_is e))

-- there are no more claims than lines
few_lines : (es : List PlainEvidence) (ls : Lines) → HasEither es ls → length es ≤ length ls
few_lines es ls (inl h) = omega (arith, few_bodies es, ap length h.1, length-append (flat_map body_lines es) (last_line ∷ []))
few_lines es ls (inr h) = omega (arith, ap length h.1, ap length h.2.1)

-- there are no more whole lines than bytes
few_bytes : (ls : Lines) → AllByRecursion IsLine ls → length ls ≤ length (concat ls)
few_bytes [] h = omega arith
few_bytes (l ∷ ls) h = omega (arith, few_bytes ls h.1, length-append l (concat ls), ap length h.0.2, length-append h.0.0 (10 ∷ []))

-- there are no more claims than bytes
pub few_claims : (es : List PlainEvidence) (text : List ℕ) → IsTextOfEither es text → length es ≤ length text
few_claims es text h =
    let f = from_text es text h in
    omega (arith, few_lines es f.0 f.1, few_bytes f.0 (either_is es f.0 f.1), ap length f.2)

-- the text of one claim, as it is written
abbrev pub claim_text : PlainEvidence → List ℕ
claim_text e = concat (bundle_lines (e ∷ []))

-- one claim that is well formed has a text
pub has_claim_text : (e : PlainEvidence) → IsWellFormed e → IsClaimText e (claim_text e)
has_claim_text e well = ((all_of_one IsWellFormed e well, one_claim), refl)

-- claims that have a text
pub are_claims : (es : List PlainEvidence) (text : List ℕ) → IsTextOfEither es text → AreClaims es
are_claims es text h = (well_formed_claims es text h, count_of es text h)

-- claims that have a text have one of version 2
pub has_text : (es : List PlainEvidence) (text : List ℕ) → IsTextOfEither es text → IsBundleText es (concat (bundle_lines es))
has_text es text h = (are_claims es text h, refl)

-- claims and others after them, where they are not too many
pub both_are_claims : (es ds : List PlainEvidence) → AreClaims es → AreClaims ds → length es + length ds < 2 ^ 32 → AreClaims (es ++ ds)
both_are_claims es ds h k few =
    let count = h.1 in
    (All-append IsWellFormed es ds h.0 k.0, (omega (arith, length-append es ds, count.0), omega (arith, length-append es ds, few)))

-- claims of two texts together have one
pub both_have_text : (es ds : List PlainEvidence) (text other : List ℕ) → IsTextOfEither es text → IsTextOfEither ds other → length text + length other < 2 ^ 32 → IsBundleText (es ++ ds) (concat (bundle_lines (es ++ ds)))
both_have_text es ds text other h k short =
    (both_are_claims es ds (are_claims es text h) (are_claims ds other k) (omega (arith, few_claims es text h, few_claims ds other k, short)), refl)
