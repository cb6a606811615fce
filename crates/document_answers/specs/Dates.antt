-- The command `dates`: when the times of a document are by the calendar.
use Rattle.std.specs.Prelude.{◌≡◌, ℕ, ℤ, List, [], ◌∷◌, ◌++◌, codes}
use Rattle.std.specs.Fmt.{signed_decimal}
use Rattle.net_core.specs.declared.bounds.Bounds.{Bounds}
use Rattle.net_core.specs.declared.bounds.Bounds.TheVariants.{Exact, Within, Free}
use Rattle.net_build.specs.Built.{IntervalBounds}
use Rattle.answers.specs.Documents.{Contents, document_rows}
use Rattle.runs.specs.Rows.{NeverFree, Rows}
use Rattle.runs.specs.declared.status.Status.TheVariants.{Done}
pub use Rattle.timex_dates.specs.Printed.{IsCivilText}
use Rattle.tml_refs.specs.Documents.{PlainInterval, instance, time}
use Rattle.answers.specs.Commands.{Command, command, of_document}

-- two numbers, each followed by a space
abbrev pub numbers : ℤ → ℤ → List ℕ
numbers lo hi = signed_decimal lo ++ codes " " ++ signed_decimal hi ++ codes " "

-- the two ends of an interval, as numbers and then as civil texts
abbrev pub EndsText : ℤ → ℤ → List ℕ → Type 0
EndsText lo hi text =
    (from : List ℕ) × (to : List ℕ) × IsCivilText lo from × IsCivilText hi to
    × (text ≡ numbers lo hi ++ from ++ codes " " ++ to)

-- a text of a kind was appended
abbrev pub AddsText : (List ℕ → Type 0) → List ℕ → List ℕ → Type 0
AddsText IsText old new = (text : List ℕ) × IsText text × (new ≡ old ++ text)

abbrev pub BoundsText : Bounds → List ℕ → Type 0
BoundsText (Exact lo hi) text = (ends : List ℕ) × EndsText lo hi ends × (text ≡ codes "exact " ++ ends)
BoundsText (Within lo hi) text = (ends : List ℕ) × EndsText lo hi ends × (text ≡ codes "within " ++ ends)
BoundsText Free text = text ≡ codes "free"

-- the line of a time is its name and its bounds; an instance has none
abbrev pub DateLine : PlainInterval → List ℕ → Type 0
DateLine (instance name) line = line ≡ []
DateLine (time t) line =
    (bounds : Bounds) × (text : List ℕ) × IntervalBounds (time t) bounds × BoundsText bounds text
    × (line ≡ t.name ++ codes " " ++ text ++ codes "\n")

-- the lines of intervals, one after another
abbrev pub DateLines : List PlainInterval → List ℕ → Type 0
DateLines [] out = out ≡ []
DateLines (interval ∷ intervals) out = (line : List ℕ) × (rest : List ℕ) × DateLine interval line × DateLines intervals rest × (out ≡ line ++ rest)

-- `dates` prints the lines of the times
abbrev pub OfDates : Contents
OfDates contents Done text = DateLines contents.intervals text
OfDates contents other text = ⊥

-- the rows of `dates NAME`
abbrev pub dates_rows : List ℕ → Rows
dates_rows name = document_rows OfDates name

-- the command
abbrev pub dates : Command
dates = command (codes "dates") (codes "DOC" ∷ []) (of_document (λ more. OfDates) (λ more. NeverFree))
