-- Commands, each as one record in the crate that answers it. Nothing here knows which there are.
use Rattle.std.specs.Prelude.{Bool, true, ℕ, List, [], ◌∷◌}
use Rattle.std.specs.List.{slice_index_or}
use Rattle.answers.specs.Documents.{Contents, document_rows}
use Rattle.net_core.specs.Limits.{max_document}
use Rattle.runs.specs.Rows.{Freedom, Rows}

-- the argument of this number
abbrev pub argument : List (List ℕ) → ℕ → List ℕ
argument given k = slice_index_or given k []

-- the arguments after the first
abbrev pub after_first : List (List ℕ) → List (List ℕ)
after_first [] = []
after_first (first ∷ more) = more

-- What a command reads and answers, by its arguments, and which texts are free: the first argument names a document, and what it says is answered, by the other arguments; or other files are read, of at most these lengths, in the order of reading.
pub data Question : Type 1 where
  of_document : (List (List ℕ) → Contents) → (List (List ℕ) → Freedom) → Question
  of_files : List ℕ → (List (List ℕ) → Rows) → Freedom → Question

abbrev pub rows_of : Question → List (List ℕ) → Rows
rows_of (of_document Of IsFree) given = document_rows (Of (after_first given)) (argument given 0)
rows_of (of_files limits rows IsFree) given = rows given

abbrev pub limits_of : Question → List ℕ
limits_of (of_document Of IsFree) = max_document ∷ []
limits_of (of_files limits rows IsFree) = limits

abbrev pub freedom_of : Question → List (List ℕ) → Freedom
freedom_of (of_document Of IsFree) given = IsFree (after_first given)
freedom_of (of_files limits rows IsFree) given = IsFree

-- a command: its word, the names of its arguments, which texts it takes as arguments if there are as many, and what it answers to them
pub record Command : Type 1 where
  pub word : List ℕ
  pub arguments : List (List ℕ)
  pub takes : List (List ℕ) → Bool
  pub asks : Question

-- a command that takes any texts as arguments
abbrev pub command : List ℕ → List (List ℕ) → Question → Command
command word arguments asks = record { word = word; arguments = arguments; takes = λ given. true; asks = asks }
