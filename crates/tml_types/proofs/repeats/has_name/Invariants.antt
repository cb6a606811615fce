use Rattle.std.proofs.Common.{◌≡◌, map, drop}
use Rattle.tml_span.specs.View.{attribute_of}
use Rattle.tml_types.specs.Rules.{has_name}
use Rattle.tml_types.proofs.repeats.has_name.Given as goal

-- the name is looked for in what is left
abbrev pub invariant-loop-attr : goal.invariant-loop-attr
invariant-loop-attr l = has_name l.name (map attribute_of (drop l.attr-index l.attrs)) ≡ has_name l.name (map attribute_of l.attrs)
