use Rattle.std.proofs.Common.{ℕ, Bor, List, Vec, map, take}
use Rattle.std.specs.declared.alloc.Global.{Global}
use Rattle.order_answers.specs.LineParts.{AreEnds}
use Rattle.order_answers.proofs.relations.line_ends.Given as goal

-- what lines end with that have one of the names so far
abbrev pub invariant-loop-name : goal.invariant-loop-name
invariant-loop-name l = AreEnds (map (λ (name : Bor (List ℕ)). name.now) (take l.name-index l.names)) (map (λ (end : Vec ℕ Global). end.items) l.ends.items)
