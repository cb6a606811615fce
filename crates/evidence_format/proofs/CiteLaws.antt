-- The reader of cites is exact.
use Rattle.std.proofs.Common.{◌≡◌, ℕ, zero, suc, ◌+◌, ◌^◌, ◌<◌, ◌≤◌, true, cond, leb, ltb, ◌&&◌, List, [], ◌∷◌, ◌++◌, length, map, Some, None, Ok, Err, refl, sym, ap, subst, ◌∙◌, arith}
use Rattle.std.specs.Prelude.{codes}
use Rattle.std.proofs.lemmas.Bool.{lt-ltb}
use Rattle.std.proofs.lemmas.Bool.Decides.{nat_tests}
use Rattle.std.proofs.lemmas.List.{append-nil}
use Rattle.std.proofs.lemmas.Option.{cond_some}
use Rattle.line_texts.specs.declared.stop.Stop.{Stop}
use Rattle.line_texts.specs.declared.stop.Stop.TheVariants as stop
use Rattle.line_texts.specs.Lines.{Lines, lines_of}
use Rattle.line_texts.specs.Reading.{Read, ◌>>=◌, line_at}
use Rattle.line_texts.specs.Grammar.{Then}
use Rattle.line_texts.specs.Numbers.{IsNumber}
use Rattle.evidence_format.specs.Evidence.{AreCites, cite_line}
use Rattle.line_texts.specs.Words.{one_of}
use Rattle.evidence_format.specs.Forms.{cite_of}
use Rattle.evidence_format.specs.Readers.{cites_at}
use Rattle.line_texts.specs.Given.{ReadingStopsAt}
use Rattle.line_texts.proofs.Exact.{Exact, exact_then, exact_give, exact_same}
use Rattle.line_texts.proofs.Numbers.{some_bind}
use Rattle.line_texts.proofs.WordLaws.{IsForm, one_form}
use Rattle.evidence_format.proofs.Rising.{IsCite, Rise, rise_from_cites, cites_from_rise}
use Rattle.line_texts.proofs.ReaderLaws.{Has, exact_form, exact_map}
use Rattle.line_texts.proofs.Loops.{with_prefix, regroup}

-- ---- one cite

-- lines of cites
cite_form : (left least : ℕ) → IsForm cite_line (IsCite left least) (cite_of left least)
unfolding cite_of
cite_form left least = record {
  again = λ link h.
      let small : IsNumber link = omega (arith, h.1) in
      let le : leb least link ≡ true = grind (arith, nat_tests, h.0) in
      let lt : ltb (link + left) (2 ^ 32) ≡ true = lt-ltb (link + left) (2 ^ 32) h.1 in
      rw ((one_form (codes "cite ")).again link small, le, lt) refl;
  found = λ l link e.
      let a = some_bind (one_of (codes "cite ") l) (λ n. cond (leb least n && ltb (n + left) (2 ^ 32)) (Some n) None) link e in
      let g = cond_some (leb least a.0 && ltb (a.0 + left) (2 ^ 32)) a.0 link a.2 in
      let f = (one_form (codes "cite ")).found l a.0 a.1 in
      let le : least ≤ a.0 = grind (arith, nat_tests, g.0) in
      let lt : a.0 + left < 2 ^ 32 = grind (arith, nat_tests, g.0) in
      subst (λ (n : ℕ). (cite_line n ≡ l) × IsCite left least n) g.1 (f.0, (le, lt));
}

-- ---- this number of cites

-- this number of numbers that rise, by their lines
abbrev AreRising : ℕ → ℕ → List ℕ → Lines → Type 0
AreRising n least ks ls = Rise n least ks × (length ks ≡ n) × (ls ≡ map cite_line ks)

-- no numbers have no lines
nil_rising : (least : ℕ) (ks : List ℕ) (ls : Lines) → AreRising 0 least ks ls → (ks ≡ []) × (ls ≡ [])
nil_rising least [] ls h = (refl, h.2)
nil_rising least (k ∷ ks) ls h = absurd h.0

-- the numbers after one of them
abbrev MoreRising : ℕ → ℕ → List ℕ → Lines → Type 0
MoreRising left k ks ls = (more : List ℕ) × AreRising left (k + 1) more ls × (ks ≡ k ∷ more)

-- of one number more, the first has the first line
cons_rising : (left least : ℕ) (ks : List ℕ) (ls : Lines) → AreRising (suc left) least ks ls → Then (Has (IsCite left least) (λ k. cite_line k ∷ [])) (MoreRising left) ks ls
cons_rising left least [] ls h = absurd (let len = h.1 in omega arith)
cons_rising left least (k ∷ ks) ls h = (k, cite_line k ∷ [], map cite_line ks, (h.0.0, refl), (ks, (h.0.1, (let len = h.1 in omega arith), refl), refl), h.2)

-- this number of numbers that rise
exact_rising : (n least : ℕ) → least + n ≤ 2 ^ 32 → Exact (AreRising n least) (cites_at n least)
unfolding cites_at
exact_rising zero least room =
    exact_same (λ ks ls. (ks ≡ []) × (ls ≡ [])) (AreRising 0 least) (λ ls. Ok ([], ls))
    (λ ks ls h. rw (h.0, h.1) (tt, refl, refl)) (nil_rising least) (exact_give [])
exact_rising (suc left) least room =
    let G = Has (IsCite left least) (λ k. cite_line k ∷ []) in
    exact_same (Then G (MoreRising left)) (AreRising (suc left) least) (λ ls. line_at (cite_of left least) ls >>= λ k. cites_at left (k.0 + 1) k.1 >>= λ more. Ok (k.0 ∷ more.0, more.1))
    (λ ks ls t.
    let m = t.4 in
    let whole : ls ≡ map cite_line (t.0 ∷ m.0) = t.5 ∙ ap (λ (x : Lines). x ++ t.2) t.3.1 ∙ ap (λ (x : Lines). cite_line t.0 ∷ x) m.1.2 in
    subst (λ (ks : List ℕ). AreRising (suc left) least ks ls) (sym m.2) ((t.3.0, m.1.0), ap suc m.1.1, whole))
    (cons_rising left least)
    (exact_then G (MoreRising left) (line_at (cite_of left least)) (λ k ls. cites_at left (k + 1) ls >>= λ more. Ok (k ∷ more.0, more.1))
    (exact_form cite_line (IsCite left least) (cite_of left least) least (omega arith, omega arith) (cite_form left least))
    (λ k prefix g. exact_map (λ more. k ∷ more) (AreRising left (k + 1)) (cites_at left (k + 1)) (exact_rising left (k + 1) (omega (arith, g.0.1)))))

-- this number of cites, by their lines
abbrev pub HasCites : ℕ → List ℕ → Lines → Type 0
HasCites n cites ls = AreCites cites × (length cites ≡ n) × (ls ≡ map cite_line cites)

-- this number of cites
pub exact_cites : (n : ℕ) → IsNumber n → Exact (HasCites n) (cites_at n 0)
exact_cites n small =
    exact_same (AreRising n 0) (HasCites n) (cites_at n 0)
    (λ cites ls h. (cites_from_rise n cites small h.1 h.0, h.1, h.2))
    (λ cites ls h. (subst (λ n. Rise n 0 cites) h.1 (rise_from_cites cites h.0), h.1, h.2))
    (exact_rising n 0 (omega arith))

-- ---- cites, as a loop reads them

-- a cite was read: it comes to those before
pub cites_go_on : (prefix : List ℕ) (n left least : ℕ) (ls : Lines) (link : ℕ) (after : Lines) (total : Read (List ℕ)) → n ≡ suc left → line_at (cite_of left least) ls ≡ Ok (link, after)
    → with_prefix prefix (cites_at n least ls) ≡ total → with_prefix (prefix ++ link ∷ []) (cites_at left (link + 1) after) ≡ total
unfolding cites_at
cites_go_on prefix n left least ls link after total k read so_far =
    let one : with_prefix prefix (cites_at n least ls) ≡ with_prefix (prefix ++ link ∷ []) (cites_at left (link + 1) after) = rw (k, read) (regroup prefix link (cites_at left (link + 1) after)) in
    sym one ∙ so_far

-- no cite was read: so all of them are not
pub cites_end : (e : Stop) (prefix : List ℕ) (n left least : ℕ) (ls : Lines) (total : Read (List ℕ)) → n ≡ suc left → ReadingStopsAt e (line_at (cite_of left least) ls)
    → with_prefix prefix (cites_at n least ls) ≡ total → ReadingStopsAt e total
unfolding cites_at
cites_end stop.Memory prefix n left least ls total k read so_far = tt
cites_end (stop.BadLine rest) prefix n left least ls total k read so_far =
    let one : with_prefix prefix (cites_at n least ls) ≡ Err (lines_of rest.now) = rw (k, read) refl in
    sym so_far ∙ one

-- no cite is still to be read: all of them are
pub cites_done : (prefix : List ℕ) (n least : ℕ) (ls : Lines) (total : Read (List ℕ)) → n ≡ 0 → with_prefix prefix (cites_at n least ls) ≡ total → total ≡ Ok (prefix, ls)
unfolding cites_at
cites_done prefix n least ls total none so_far =
    let one : with_prefix prefix (cites_at n least ls) ≡ Ok (prefix, ls) = rw none (ap (λ (ks : List ℕ). Ok (ks, ls)) (append-nil prefix)) in
    sym so_far ∙ one
