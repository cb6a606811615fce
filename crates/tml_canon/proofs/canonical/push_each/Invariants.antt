use Rattle.std.proofs.Common.{◌≡◌, ◌++◌, map, take}
use Rattle.std.specs.List.{flat_map}
use Rattle.tml_span.specs.View.{attribute_of}
use Rattle.tml_span.specs.Written.{attribute_text}
use Rattle.tml_canon.specs.Canonical.{canonical_attribute}
use Rattle.tml_canon.proofs.canonical.push_each.Given as goal

-- the attributes so far are put last
abbrev pub invariant-loop-attr : goal.invariant-loop-attr
invariant-loop-attr l = l.out.items ≡ l.fn.out.items ++ flat_map attribute_text (map canonical_attribute (map attribute_of (take l.attr-index l.attrs)))
