-- A document and its canonical text: what is asked of what they say has one answer.
use Rattle.std.specs.Prelude.{◌≡◌, ◌↔◌, ◌≤◌, Bool, true, false, ℕ, List, ◌∷◌, length, Some}
use Rattle.answers.specs.Commands.{Question, of_document, of_files}
use Rattle.document_answers.specs.Canon.{HasCanonicalText}
use Rattle.net_core.specs.Limits.{max_document}
use Rattle.tml_io.specs.Files.{Files, held}
use Rattle.runs.specs.OneReply.{is_aborted}
use Rattle.runs.specs.Replies.{Replies}
use Rattle.runs.specs.declared.status.Status.{Status}
use Rattle.tml_tool.specs.Commands.{command_of, rows_with}
use Rattle.tml_tool.specs.declared.commands.Form.{Form}

-- what is asked is answered by what the document says, and not by how it is written
abbrev pub is_of_contents : Question → Bool
is_of_contents (of_document Of IsFree) = true
is_of_contents (of_files limits rows IsFree) = false

-- a file holds a document that is short enough to be read
abbrev pub HoldsDocument : Files → List ℕ → List ℕ → Type 0
HoldsDocument files name doc = (held files name ≡ Some doc) × (length doc ≤ max_document)

-- this number of bytes after which there is this reply
abbrev pub HasReply : Files → Form → List ℕ → List (List ℕ) → Status → List ℕ → Type 0
HasReply files form name arguments status line = (taken : ℕ) × Replies (Some files) (rows_with form (name ∷ arguments)) status line taken

-- A canonical text is its own canonical text; and where a file holds the document and another one its canonical text, what the document says decides alike: each reply over the one that is not aborted is one over the other. A canonical text can be longer than its document, and is not read where it is too long.
pub record IsAlike (doc text : List ℕ) : Type 0 where
  pub itself : HasCanonicalText text text
  pub alike : (files : Files) (form : Form) (name other : List ℕ) (arguments : List (List ℕ)) (status : Status) (line : List ℕ)
      → is_of_contents (command_of form).asks ≡ true → HoldsDocument files name doc → HoldsDocument files other text → is_aborted status ≡ false
      → HasReply files form name arguments status line ↔ HasReply files form other arguments status line

abbrev pub CanonicalIsAlike : Type 0
CanonicalIsAlike = (doc text : List ℕ) → HasCanonicalText doc text → IsAlike doc text
