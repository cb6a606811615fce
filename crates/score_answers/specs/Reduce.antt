-- The command `reduce`: the links of a document without those that follow from others.
use Rattle.std.specs.Prelude.{◌≡◌, ℕ, List, [], ◌++◌, codes, length, None, Some, ◌∷◌}
use Rattle.std.specs.List.{flat_map, slice_get}
use Rattle.answers.specs.Documents.{document_rows}
use Rattle.answers.specs.Lines.{link_line}
use Rattle.net_answers.specs.Nets.{ClashIsFree, NetAnswers, of_net}
use Rattle.tml_refs.specs.Documents.{PlainDocument}
use Rattle.runs.specs.Rows.{Rows}
use Rattle.runs.specs.declared.status.Status.TheVariants.{Done}
use Rattle.tml_score.specs.Reduced.{IsReduced}
use Rattle.score_answers.specs.Counts.{of_line}
use Rattle.answers.specs.Commands.{Command, command, of_document}

-- the line of the link of this number
abbrev pub reduced_line : PlainDocument → ℕ → List ℕ
reduced_line contents k = elim (slice_get contents.links k) [ None ↦ [] | Some link ↦ link_line contents.intervals k link ]

-- how many links of a document stay, of how many, and the line of each
abbrev pub reduced_text : PlainDocument → List ℕ → List ℕ
reduced_text contents links = of_line (codes "reduced ") (length links) (length contents.links) ++ flat_map (reduced_line contents) links

-- `reduce` prints the links that stay
abbrev pub OfReduce : NetAnswers
OfReduce contents net Done text = (links : List ℕ) × IsReduced net links × (text ≡ reduced_text contents links)
OfReduce contents net other text = ⊥

-- the rows of `reduce NAME`
abbrev pub reduce_rows : List ℕ → Rows
reduce_rows name = document_rows (of_net OfReduce) name

-- the command
abbrev pub reduce : Command
reduce = command (codes "reduce") (codes "DOC" ∷ []) (of_document (λ more. of_net OfReduce) (λ more. ClashIsFree))
