use Rattle.std.proofs.Common.{◌≡◌, ◌+◌, ◌-◌, ◌≤◌, ◌∙◌, ℕ, List, take, drop, subst, true≢false, length, sym, refl, arith, inl, inr}
use Rattle.std.proofs.lemmas.Bool.{cases_lt}
use Rattle.std.proofs.lemmas.List.{length-drop, length-take, take_all}
use Rattle.memchr.specs.Find.{Nowhere, Passes, is_byte}
use Rattle.tml_span.proofs.Closings.{ends_occurs, none_ends, occurs_ends}
use Rattle.tml_span.proofs.enclosed.find_closing.Goals as goal

-- all that is left from a place on
all_left : (bytes : List ℕ) (end : ℕ) → take (length bytes - end) (drop end bytes) ≡ drop end bytes
all_left bytes end = take_all (length bytes - end) (drop end bytes) (omega (arith, length-drop end bytes))

pub returns-then-ends_with : goal.returns-then-ends_with
returns-then-ends_with c =
    let bytes = c.args.bytes.now in
    let close = c.args.close.now in
    let at = c.loop-ahead in
    let found = c.in-Some.ensures.0 in
    let ends : at.end + (c.in-Some.ahead + 1) ≤ length bytes = omega (arith, found.high) in
    let fits = c.if-ends_with.ensures.bound refl in
    let none = none_ends bytes close at.end c.in-Some.ahead 62 c.requires.some c.requires.last at.invariant.none (subst (λ (left : List ℕ). Nowhere (Passes (is_byte 62) left) 0 c.in-Some.ahead) (all_left bytes at.end) found.before) in (
      record { low = omega arith; high = omega arith; before = λ k low lt. none k (omega arith) },
      ends_occurs bytes close (at.end + (c.in-Some.ahead + 1)) ends (omega (arith, fits, length-take (at.end + (c.in-Some.ahead + 1)) bytes)) (sym c.if-ends_with.ensures.value),
    )

pub loop-ahead-preserved : goal.loop-ahead-preserved
loop-ahead-preserved c =
    let bytes = c.args.bytes.now in
    let close = c.args.close.now in
    let at = c.loop-ahead in
    let found = c.in-Some.ensures.0 in
    let end = at.end + (c.in-Some.ahead + 1) in
    let before = none_ends bytes close at.end c.in-Some.ahead 62 c.requires.some c.requires.last at.invariant.none (subst (λ (left : List ℕ). Nowhere (Passes (is_byte 62) left) 0 c.in-Some.ahead) (all_left bytes at.end) found.before) in
    record {
      within = omega (arith, found.high);
      none = λ k fits o. elim (cases_lt (k + length close) end) [
        | inl short ↦ before k (omega arith) o
        | inr here ↦ absurd (true≢false (sym (occurs_ends bytes close k end o (omega arith)) ∙ sym c.if-ends_with.ensures.value))
      ];
    }

pub returns : goal.returns
returns c =
    let bytes = c.args.bytes.now in
    let at = c.loop-ahead in
    let nowhere = subst (λ (left : List ℕ). Nowhere (Passes (is_byte 62) left) 0 (length left)) (all_left bytes at.end) c.in_default.ensures in
    λ k low lt o. none_ends bytes c.args.close.now at.end (length (drop at.end bytes)) 62 c.requires.some c.requires.last at.invariant.none nowhere k (omega (arith, o.fits, length-drop at.end bytes)) o
