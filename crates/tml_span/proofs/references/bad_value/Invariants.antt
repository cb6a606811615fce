use Rattle.std.proofs.Common.{take, map}
use Rattle.tml_span.specs.References.{IsBadIn, IsNowhere, value_piece}
use Rattle.tml_span.specs.View.{attribute_of}
use Rattle.tml_span.proofs.references.bad_value.Given as goal

-- nothing is bad in the values so far
abbrev pub invariant-loop-attr : goal.invariant-loop-attr
invariant-loop-attr l = IsNowhere (IsBadIn (take l.attr-index (map value_piece (map attribute_of l.attrs))))
