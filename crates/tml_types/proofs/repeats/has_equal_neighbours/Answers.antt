use Rattle.std.proofs.Common.{◌-◌, ◌∙◌, refl, sym, arith}
use Rattle.std.proofs.lemmas.Map.Keys.{apart_from_distinct}
use Rattle.tml_types.specs.Heads.{are_same}
use Rattle.tml_types.proofs.RepeatedNames.{distinct_neighbours}
use Rattle.tml_types.proofs.repeats.has_equal_neighbours.Goals as goal

pub returns-then-eq : goal.returns-then-eq
returns-then-eq c =
    (λ never. absurd (cc), λ h. sym c.if-eq.true ∙ c.eq.ensures ∙ apart_from_distinct are_same c.args.names.now (c.loop-later.later - 1) c.loop-later.later _ h (omega arith) c.loop-later-test.true)

pub returns : goal.returns
returns c = (λ _. distinct_neighbours c.args.names.now c.requires (λ k h. c.loop-later.invariant k (omega arith)), λ _. refl)
