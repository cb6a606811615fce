-- Claims of a text that are read one after another.
use Rattle.std.proofs.Common.{◌≡◌, ℕ, suc, ◌-◌, ◌<◌, List, [], ◌∷◌, ◌++◌, Ok, Err, refl, sym, ap, ◌∙◌, append_assoc, arith}
use Rattle.std.proofs.lemmas.List.{append-nil}
use Rattle.line_texts.specs.declared.stop.Stop.{Stop}
use Rattle.line_texts.specs.declared.stop.Stop.TheVariants as stop
use Rattle.line_texts.specs.Lines.{Lines, lines_of}
use Rattle.evidence_format.specs.Evidence.{PlainEvidence, IsWellFormed}
use Rattle.line_texts.specs.Given.{ReadingStopsAt}
use Rattle.evidence_format.specs.OneByOne.{all_of}
use Rattle.line_texts.specs.Reading.{Read, ◌>>=◌, many_at, end_at}
use Rattle.evidence_format.specs.Readers.{body_at, opening_at, bundle_at}
use Rattle.evidence_format.proofs.BodyLaws.{exact_body}

-- ---- before the first claim

-- after the lines before the bodies all claims are still to be read
pub none_read : (text rest : Lines) (n : ℕ) → opening_at text ≡ Ok (n, rest) → all_of [] (many_at body_at n rest) ≡ bundle_at text
unfolding bundle_at
none_read text rest n opening = rw opening refl

-- without these lines no claims are read
pub none_begun : (e : Stop) (text : Lines) → ReadingStopsAt e (opening_at text) → ReadingStopsAt e (bundle_at text)
unfolding bundle_at
none_begun stop.Memory text h = tt
none_begun (stop.BadLine rest) text h = rw h refl

-- ---- a claim

-- a claim that is read comes to those before
regroup : (es : List PlainEvidence) (e : PlainEvidence) (read : Read (List PlainEvidence)) → all_of es (read >>= λ x. Ok (e ∷ x.0, x.1)) ≡ all_of (es ++ e ∷ []) read
regroup es e (Ok x) = ap (λ (all : List PlainEvidence). end_at x.1 >>= λ end. Ok all) (sym (append_assoc es (e ∷ []) x.0))
regroup es e (Err rest) = refl

-- a claim was read: it comes to those before
pub one_read : (es : List PlainEvidence) (e : PlainEvidence) (left : ℕ) (ls after text : Lines) → 0 < left → body_at ls ≡ Ok (e, after)
    → all_of es (many_at body_at left ls) ≡ bundle_at text → all_of (es ++ e ∷ []) (many_at body_at (left - 1) after) ≡ bundle_at text
unfolding many_at
one_read es e left ls after text some read so_far =
    let k : left ≡ suc (left - 1) = omega arith in
    let one : all_of es (many_at body_at (suc (left - 1)) ls) ≡ all_of (es ++ e ∷ []) (many_at body_at (left - 1) after) = rw read (regroup es e (many_at body_at (left - 1) after)) in
    sym one ∙ ap (λ (n : ℕ). all_of es (many_at body_at n ls)) (sym k) ∙ so_far

-- no claim was read: so no claims are
pub none_follows : (e : Stop) (es : List PlainEvidence) (left : ℕ) (ls text : Lines) → 0 < left → ReadingStopsAt e (body_at ls) → all_of es (many_at body_at left ls) ≡ bundle_at text → ReadingStopsAt e (bundle_at text)
unfolding many_at
none_follows stop.Memory es left ls text some h so_far = tt
none_follows (stop.BadLine rest) es left ls text some h so_far =
    let k : left ≡ suc (left - 1) = omega arith in
    let one : all_of es (many_at body_at left ls) ≡ Err (lines_of rest.now) = rw (k, h) refl in
    sym so_far ∙ one

-- a claim that is read is well formed
pub good_claim : (ls after : Lines) (e : PlainEvidence) → body_at ls ≡ Ok (e, after) → IsWellFormed e
good_claim ls after e read = (exact_body.found ls after e read).1.0

-- ---- after the last claim

-- with the last line, the claims that were read are all
pub all_read : (es : List PlainEvidence) (left : ℕ) (ls text : Lines) → left ≡ 0 → end_at ls ≡ Ok tt → all_of es (many_at body_at left ls) ≡ bundle_at text → bundle_at text ≡ Ok es
unfolding many_at
all_read es left ls text none end so_far =
    let one : all_of es (many_at body_at left ls) ≡ Ok es = rw (none, end) (ap (λ (all : List PlainEvidence). Ok all) (append-nil es)) in
    sym so_far ∙ one

-- without it, no claims are read
pub no_end : (e : Stop) (es : List PlainEvidence) (left : ℕ) (ls text : Lines) → left ≡ 0 → ReadingStopsAt e (end_at ls) → all_of es (many_at body_at left ls) ≡ bundle_at text → ReadingStopsAt e (bundle_at text)
unfolding many_at
no_end stop.Memory es left ls text none h so_far = tt
no_end (stop.BadLine rest) es left ls text none h so_far =
    let one : all_of es (many_at body_at left ls) ≡ Err (lines_of rest.now) = rw (none, h) refl in
    sym so_far ∙ one
