-- The command `score`: how much of a document follows from a key, and how much of the key from the document.
use Rattle.std.specs.Prelude.{◌≡◌, ◌⊎◌, ℕ, List, ◌++◌, codes, [], ◌∷◌}
use Rattle.answers.specs.Judged.{Judgements, JudgesFirst, judged_rows, of_judged}
use Rattle.answers.specs.Lines.{HasFaultLine}
use Rattle.faults.specs.declared.kind.FaultKind.{FaultKind}
use Rattle.net_answers.specs.Nets.{NetAnswers, of_net}
use Rattle.net_build.specs.Built.{IsNetOf}
use Rattle.net_core.specs.Entailment.{HasNoTimeline, HasTimeline}
use Rattle.net_core.specs.Limits.{max_document}
use Rattle.net_core.specs.Nets.{PlainNet}
use Rattle.tml_accept.specs.Acceptance.{FirstFault, Says}
use Rattle.tml_refs.specs.Documents.{PlainDocument}
use Rattle.runs.specs.Rows.{File, Freedom, Rows}
use Rattle.runs.specs.declared.status.Status.{Status}
use Rattle.runs.specs.declared.status.Status.TheVariants.{Clash, DocFault, Done}
use Rattle.tml_score.specs.Scores.{Annotation, AreScores}
use Rattle.tml_score.specs.declared.scoring.Scores.{Scores}
use Rattle.score_answers.specs.Counts.{of_line}
use Rattle.answers.specs.Commands.{Command, argument, command, of_files}

-- the file of a name that is read as a key
abbrev pub key_file : List ℕ → File
key_file name = record { name = name; word = codes "KEY"; limit = max_document }

-- there is this fault, and the text is its line after the word for the key
abbrev pub HasKeyLine : (FaultKind → ℕ → Type 0) → List ℕ → Type 0
HasKeyLine Fault text = (line : List ℕ) × HasFaultLine Fault line × (text ≡ codes "key " ++ line)

-- the text where no timeline fits the key
abbrev pub key_clash : List ℕ
key_clash = codes "key clash\n"

-- precision, and recall
abbrev pub scores_text : Scores → List ℕ
scores_text scores = of_line (codes "precision ") scores.matched scores.doc_links ++ of_line (codes "recall ") scores.found scores.key_links

-- what is answered by a key, of a document that some timeline fits: none fits the key, or the scores of the document against it are printed
abbrev pub OfAnnotations : Annotation → Annotation → Status → List ℕ → Type 0
OfAnnotations doc key Clash text = HasNoTimeline key.net × (text ≡ key_clash)
OfAnnotations doc key Done text = HasTimeline key.net × (scores : Scores) × AreScores doc key scores × (text ≡ scores_text scores)
OfAnnotations doc key other text = ⊥

-- the same by what the key says
abbrev pub OfKey : PlainDocument → NetAnswers
OfKey key contents net status text = (key_net : PlainNet) × IsNetOf key key_net × OfAnnotations (record { contents = contents; net = net }) (record { contents = key; net = key_net }) status text

-- `score` reports the first fault of the key; or else that no timeline fits the document, or else that none fits the key, or the scores
abbrev pub OfScore : Judgements
OfScore contents bytes status text = ((status ≡ DocFault) × HasKeyLine (FirstFault bytes) text) ⊎ ((key : PlainDocument) × Says bytes key × of_net (OfKey key) contents status text)

-- the rows of `score NAME KEY`
abbrev pub score_rows : List ℕ → List ℕ → Rows
score_rows name key = judged_rows name (key_file key) OfScore

-- which clash is printed is free, where no timeline fits the document
abbrev pub IsFreeScore : PlainDocument → List ℕ → Status → Type 0
IsFreeScore contents bytes status = (status ≡ Clash) × (net : PlainNet) × IsNetOf contents net × HasNoTimeline net

-- the same of what was read
abbrev pub ScoreIsFree : Freedom
ScoreIsFree = of_judged IsFreeScore

-- the law: `score BAD MISSING` is answered by the fault of the document, and the key is not reached
abbrev pub ScoreReadsFirst : Type 0
ScoreReadsFirst = (name key : List ℕ) → JudgesFirst name (score_rows name key)

-- the command
abbrev pub score : Command
score = command (codes "score") (codes "DOC" ∷ codes "KEY" ∷ []) (of_files (max_document ∷ max_document ∷ []) (λ given. score_rows (argument given 0) (argument given 1)) ScoreIsFree)
