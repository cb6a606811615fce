use Rattle.std.proofs.Common.{◌≡◌, map, drop}
use Rattle.tml_span.specs.View.{attribute_of}
use Rattle.tml_types.specs.Values.{value_of}
use Rattle.tml_types.proofs.attributes.value_in.Given as goal

-- the value is looked for in what is left
abbrev pub invariant-loop-attr : goal.invariant-loop-attr
invariant-loop-attr l = value_of l.name (map attribute_of (drop l.attr-index l.attrs)) ≡ value_of l.name (map attribute_of l.attrs)
