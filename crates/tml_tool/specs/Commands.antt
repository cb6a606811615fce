-- The commands of the program, and the form that words have. A further command adds a line to each of the first two tables.
use Rattle.std.specs.Prelude.{ℕ, List, [], ◌∷◌, codes, None, Some}
use Rattle.std.specs.declared.option.Option.{Option}
use Rattle.named.specs.Texts.{named_of}
use Rattle.answers.specs.Commands.{Command, freedom_of, limits_of as limits_of_question, rows_of as rows_of_question}
use Rattle.document_answers.specs.Canon.{canon}
use Rattle.document_answers.specs.Check.{check}
use Rattle.document_answers.specs.Dates.{dates}
use Rattle.document_answers.specs.Spans.{spans}
use Rattle.evidence_answers.specs.Confirmed.{confirm}
use Rattle.evidence_answers.specs.Join.{join}
use Rattle.evidence_answers.specs.Renew.{renew}
use Rattle.evidence_answers.specs.Verify.{verify}
use Rattle.order_answers.specs.Ask.{ask}
use Rattle.order_answers.specs.Drill.{drill}
use Rattle.order_answers.specs.Relations.{relations}
use Rattle.order_answers.specs.Solve.{solve}
use Rattle.possible_answers.specs.Matrix.{matrix}
use Rattle.possible_answers.specs.Possible.{possible}
use Rattle.score_answers.specs.Reduce.{reduce}
use Rattle.score_answers.specs.Score.{score}
use Rattle.seconds_answers.specs.Seconds.{seconds}
use Rattle.runs.specs.Rows.{Freedom, NeverFree, Rows}
use Rattle.runs.specs.Words.{usage_rows}
use Rattle.tml_tool.specs.Forms.{taken_by, usage_of, with_arguments}
use Rattle.tml_tool.specs.declared.commands.Form.{Form}
use Rattle.tml_tool.specs.declared.commands.Form.TheVariants.{Spans, Check, Dates, Solve, Ask, Relations, Canon, Verify, Drill, Renew, Join, Possible, Matrix, Reduce, Score, Seconds, Confirm}

-- in the order of the usage text
abbrev pub all_forms : List Form
all_forms = Spans ∷ Check ∷ Dates ∷ Solve ∷ Ask ∷ Relations ∷ Canon ∷ Verify ∷ Drill ∷ Renew ∷ Join ∷ Possible ∷ Matrix ∷ Reduce ∷ Score ∷ Seconds ∷ Confirm ∷ []

abbrev pub command_of : Form → Command
command_of Spans = spans
command_of Check = check
command_of Dates = dates
command_of Solve = solve
command_of Ask = ask
command_of Relations = relations
command_of Canon = canon
command_of Verify = verify
command_of Drill = drill
command_of Renew = renew
command_of Join = join
command_of Possible = possible
command_of Matrix = matrix
command_of Reduce = reduce
command_of Score = score
command_of Seconds = seconds
command_of Confirm = confirm

-- ---- what follows from the table

abbrev pub word_of : Form → List ℕ
word_of form = (command_of form).word

abbrev pub arguments_of : Form → List (List ℕ)
arguments_of form = (command_of form).arguments

-- the usage text
abbrev pub usage : List ℕ
usage = usage_of word_of all_forms arguments_of

-- the rows of a form, by its arguments
abbrev pub rows_with : Form → List (List ℕ) → Rows
rows_with form given = rows_of_question (command_of form).asks given

-- ---- words

-- a form with this number of arguments, if it takes them
abbrev pub taken_form : Form → List (List ℕ) → Option (Form × List (List ℕ))
taken_form form given = taken_by (λ f. (command_of f).takes) form given

-- The form of some words, with its arguments: no words stand for `spans -`.
abbrev pub form_of : List (List ℕ) → Option (Form × List (List ℕ))
form_of [] = Some (Spans, codes "-" ∷ [])
form_of (word ∷ given) = with_arguments arguments_of (λ f. (command_of f).takes) given (named_of word_of all_forms word)

-- how long the files of a form may be, and none without a form
abbrev pub limits_of : Option (Form × List (List ℕ)) → List ℕ
limits_of None = []
limits_of (Some asked) = limits_of_question (command_of asked.0).asks

-- the rows of a form with its arguments, or of words that have no form
abbrev pub rows_of : Option (Form × List (List ℕ)) → Rows
rows_of None = usage_rows usage
rows_of (Some asked) = rows_with asked.0 asked.1

-- after which contents the text of an answer is free
abbrev pub is_free : Option (Form × List (List ℕ)) → Freedom
is_free None = NeverFree
is_free (Some asked) = freedom_of (command_of asked.0).asks asked.1
