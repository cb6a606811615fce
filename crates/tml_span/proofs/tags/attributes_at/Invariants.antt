use Rattle.std.proofs.Common.{◌≡◌, ◌+◌, ◌≤◌, List, ℕ, ◌++◌, map, length}
use Rattle.tml_span.specs.Units.{Attribute}
use Rattle.tml_span.specs.Reading.{ReadsAttributes}
use Rattle.tml_span.specs.View.{attribute_of}
use Rattle.tml_span.proofs.tags.attributes_at.Given as goal

-- what is read of the rest goes on with what was read
abbrev pub invariant-loop-attr : goal.invariant-loop-attr
invariant-loop-attr l = record {
  place : l.at + length l.rest ≡ l.fn.place + length l.fn.bytes;
  shorter : length l.rest ≤ length l.fn.bytes;
  reads : (more : List Attribute) (rest : List ℕ) → ReadsAttributes l.at l.rest more rest → ReadsAttributes l.fn.place l.fn.bytes (map attribute_of l.attrs ++ more) rest;
}

abbrev pub decreases-loop-attr : goal.decreases-loop-attr
decreases-loop-attr l = length l.rest
