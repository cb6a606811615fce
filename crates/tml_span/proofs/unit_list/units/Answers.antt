use Rattle.std.proofs.Common.{◌≡◌, ◌∷◌, ◌++◌, arith, List, ℕ, [], map, refl, subst, ◌∙◌}
use Rattle.std.specs.List.{AllByRecursion}
use Rattle.std.proofs.lemmas.Grind.{common_steps}
use Rattle.tml_span.specs.Units.{PlainUnit}
use Rattle.tml_span.specs.Reader.{Divides}
use Rattle.tml_span.specs.Slices.{UnitIsIn}
use Rattle.tml_span.specs.View.{unit_of}
use Rattle.tml_span.proofs.Dividing.{all_given}
use Rattle.tml_span.proofs.SlicesIn.{units_are_in}
use Rattle.tml_span.proofs.unit_list.units.Goals as goal

pub loop-unit-preserved : goal.loop-unit-preserved
loop-unit-preserved c =
    let gives = rw c.in-Ok-Some.field-0-is at c.in-Ok-Some.ensures.gives in
    let left = c.loop-unit.invariant.given in
    let next = gives.4 (map unit_of c.loop-unit.units) left.0 left.1 in
    let kept : map unit_of c.loop-unit.units ++ unit_of c.in-Ok-Some.unit ∷ [] ≡ map unit_of c.push.new.self = grind (arith, common_steps, c.push.ensures.ok, c.if-is_err.ensures.value) in
    record { source = gives.0 ∙ c.loop-unit.invariant.source; given = (next.0, subst (λ (us : List PlainUnit). Divides c.pull.new.self us next.0) kept next.2) }

pub returns-in-Ok-None-clause-slices : goal.returns-in-Ok-None-clause-slices
returns-in-Ok-None-clause-slices c =
    let reader = c.loop-unit.reader in
    let units = map unit_of c.loop-unit.units in
    let gives = rw c.in-Ok-None.field-0-is at c.in-Ok-None.ensures.gives in
    let left = c.loop-unit.invariant.given in
    let whole = all_given reader units left.0 (gives.2 units left.0 left.1) left.1 in
    subst (λ (s : List ℕ). AllByRecursion (UnitIsIn s) units) c.loop-unit.invariant.source
    (units_are_in reader.source [] reader.source [] 0 units refl refl whole.1)
