use Rattle.std.proofs.Common.{◌≡◌, ◌++◌, ℤ, subst, rules, w64, to_z, of_z}
use Rattle.std.proofs.lemmas.Result.{on_ok_weaker}
use Rattle.timex_dates.specs.Printed.{bytes_of}
use Rattle.document_answers.specs.Dates.{IsCivilText, numbers}
use Rattle.document_answers.proofs.Times.{ends_after}
use Rattle.document_answers.proofs.dates.push_ends.Goals as goal

pub returns : goal.returns
returns c =
    let lo : to_z w64 (of_z w64 c.args.lo) ≡ c.args.lo = search rules in
    let hi : to_z w64 (of_z w64 c.args.hi) ≡ c.args.hi = search rules in
    let from = subst (λ (z : ℤ). IsCivilText z (bytes_of c.civil_text-from.result)) lo c.civil_text-from.ensures in
    let to = subst (λ (z : ℤ). IsCivilText z (bytes_of c.civil_text-to.result)) hi c.civil_text-to.ensures in
    let pushed = subst (λ (p : ℤ × ℤ). c.push_numbers.new.out.items ≡ c.extend_from_slice.new.self.items ++ numbers p.0 p.1) (λ i. (lo i, hi i)) c.in_ok-push_numbers.ensures in
    on_ok_weaker c.push_texts.result (λ e.
    ends_after c.args.lo c.args.hi c.as_bytes.result.now c.as_bytes-2.result.now c.args.word.now c.args.out.now.items c.extend_from_slice.new.self.items c.push_numbers.new.out.items c.push_texts.new.out.items
    (rw c.as_bytes.ensures from) (rw c.as_bytes-2.ensures to) c.in_ok-extend_from_slice.ensures.items pushed e) c.push_texts.ensures
