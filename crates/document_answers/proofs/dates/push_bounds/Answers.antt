use Rattle.std.proofs.Common.{◌≡◌, ◌∙◌, ◌++◌, ℤ, append_assoc, codes, refl, subst, rules, w64, to_z, of_z}
use Rattle.std.proofs.lemmas.Result.{on_ok_weaker}
use Rattle.document_answers.specs.Dates.{EndsText}
use Rattle.document_answers.proofs.dates.push_bounds.Goals as goal

pub returns-in-Exact : goal.returns-in-Exact
returns-in-Exact c =
    let lo : to_z w64 (of_z w64 c.in-Exact.lo) ≡ c.in-Exact.lo = search rules in
    let hi : to_z w64 (of_z w64 c.in-Exact.hi) ≡ c.in-Exact.hi = search rules in
    rw c.in-Exact.is (on_ok_weaker c.push_ends.result (λ e. (codes "exact " ++ e.0, (e.0, subst (λ (p : ℤ × ℤ). EndsText p.0 p.1 e.0) (λ i. (lo i, hi i)) e.1, refl), e.2 ∙ append_assoc c.args.out.now.items (codes "exact ") e.0)) c.push_ends.ensures)

pub returns-in-Within : goal.returns-in-Within
returns-in-Within c =
    let lo : to_z w64 (of_z w64 c.in-Within.lo) ≡ c.in-Within.lo = search rules in
    let hi : to_z w64 (of_z w64 c.in-Within.hi) ≡ c.in-Within.hi = search rules in
    rw c.in-Within.is (on_ok_weaker c.push_ends-in-Within.result (λ e. (codes "within " ++ e.0, (e.0, subst (λ (p : ℤ × ℤ). EndsText p.0 p.1 e.0) (λ i. (lo i, hi i)) e.1, refl), e.2 ∙ append_assoc c.args.out.now.items (codes "within ") e.0)) c.push_ends-in-Within.ensures)
