use Rattle.std.proofs.Common.{◌≡◌, map, take}
use Rattle.tml_types.specs.Heads.{name_head}
use Rattle.tml_types.proofs.repeats.write_heads.Given as goal

-- the first bytes of the names so far
abbrev pub invariant-loop-attr : goal.invariant-loop-attr
invariant-loop-attr l = l.heads.items ≡ map name_head (take l.attr-index l.attrs)
