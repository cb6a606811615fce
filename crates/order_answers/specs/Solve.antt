-- The command `solve`: in what order the intervals of a document can lie.
use Rattle.std.specs.Prelude.{◌≡◌, ◌≤◌, ℕ, List, length, [], ◌∷◌, codes}
use Rattle.answers.specs.Documents.{document_rows}
use Rattle.evidence_format.specs.Bundles.{IsClaimText}
use Rattle.evidence_format.specs.Evidence.{timeline}
use Rattle.net_answers.specs.Nets.{ClashIsFree, NetAnswers, of_net}
use Rattle.net_answers.specs.Showing.{ShowsEvidence}
use Rattle.net_core.specs.Limits.{max_printed}
use Rattle.net_core.specs.Nets.{PlainNet}
use Rattle.net_core.specs.Ranks.{pairs_of, timeline_of}
use Rattle.order_closure.specs.Tables.{Keeps, Table}
use Rattle.net_core.specs.Least.{AreLeastRanks, IsLeast}
use Rattle.runs.specs.Rows.{Rows}
use Rattle.runs.specs.declared.status.Status.TheVariants.{Done}
use Rattle.answers.specs.Commands.{Command, command, of_document}

-- the text is that of the least timeline that fits the net
abbrev pub ShowsTimeline : PlainNet → List ℕ → Type 0
ShowsTimeline net text = (ranks : List ℕ) × AreLeastRanks net ranks × ShowsEvidence net (timeline (pairs_of ranks)) text

-- `solve` prints that
abbrev pub OfSolve : NetAnswers
OfSolve contents net Done text = ShowsTimeline net text
OfSolve contents net other text = ⊥

-- the rows of `solve NAME`
abbrev pub solve_rows : List ℕ → Rows
solve_rows name = document_rows (of_net OfSolve) name

-- the text is that of the least ranks that keep the table
abbrev pub IsLeastText : Table → List ℕ → Type 0
IsLeastText table text = (ranks : List ℕ) × (length ranks ≡ table.points) × IsLeast table.points (Keeps table) (timeline_of ranks) × IsClaimText (timeline (pairs_of ranks)) text × (length text ≤ max_printed)

-- the command
abbrev pub solve : Command
solve = command (codes "solve") (codes "DOC" ∷ []) (of_document (λ more. of_net OfSolve) (λ more. ClashIsFree))
