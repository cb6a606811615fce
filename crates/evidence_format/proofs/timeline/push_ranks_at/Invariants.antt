use Rattle.std.proofs.Common.{◌≡◌, ℕ, ◌-◌, ◌++◌, List}
use Rattle.std.specs.Prelude.{codes}
use Rattle.net_core.specs.Ranks.{ranks_of}
use Rattle.line_texts.specs.Lines.{lines_of}
use Rattle.line_texts.specs.Reading.{line_at, many_at}
use Rattle.line_texts.specs.Words.{two_of}
use Rattle.line_texts.proofs.Loops.{with_prefix}
use Rattle.evidence_format.proofs.timeline.push_ranks_at.Given as goal

-- what was read was appended, and it and what is still read are all
abbrev pub invariant-loop : goal.invariant-loop
invariant-loop l = (pairs : List (ℕ × ℕ)) × (l.ranks ≡ l.initial.ranks ++ ranks_of pairs)
    × (with_prefix pairs (many_at (λ rest. line_at (two_of (codes "at ")) rest) (l.count - l.counter) (lines_of l.rest)) ≡ many_at (λ rest. line_at (two_of (codes "at ")) rest) l.count (lines_of l.text))
