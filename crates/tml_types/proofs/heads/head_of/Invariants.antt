use Rattle.std.proofs.Common.{◌≡◌, take}
use Rattle.tml_types.specs.Heads.{head_of, number_from}
use Rattle.tml_types.proofs.heads.head_of.Given as goal

-- the bytes that are left complete the number
abbrev pub invariant-loop-byte : goal.invariant-loop-byte
invariant-loop-byte l = number_from l.head (take l.byte-iterator.n l.byte-iterator.iter.rest.now) ≡ head_of l.name
