-- What an answer says.
use Rattle.std.specs.Prelude.{List, ℕ}
use Rattle.tml_c.specs.declared.answer.CallAnswer.{CallAnswer}
use Rattle.tml_c.specs.declared.answer.CallAnswer.TheVariants as answers
use Rattle.runs.specs.declared.status.Status.{Status}
use Rattle.runs.specs.declared.status.Status.TheVariants.{Usage}
use Rattle.tml_tool.specs.Commands.{usage}

-- its status and its text
abbrev pub status_of : CallAnswer → Status
status_of answers.Usage = Usage
status_of (answers.Made status text) = status

abbrev pub text_of : CallAnswer → List ℕ
text_of answers.Usage = usage
text_of (answers.Made status text) = text.items
