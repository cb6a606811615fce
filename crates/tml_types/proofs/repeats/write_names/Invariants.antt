use Rattle.std.proofs.Common.{◌≡◌, map, take}
use Rattle.tml_types.specs.Heads.{headed_name}
use Rattle.tml_types.proofs.repeats.write_names.Given as goal

-- the names of the attributes so far
abbrev pub invariant-loop-attr : goal.invariant-loop-attr
invariant-loop-attr l = l.names.items ≡ map headed_name (take l.attr-index l.attrs)
