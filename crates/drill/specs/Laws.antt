-- What is true of every drill.
use Rattle.std.specs.Prelude.{ℕ, ◌≤◌, List, length}
use Rattle.std.specs.List.{range_with_len}
use Rattle.net_core.specs.Fits.{Fits}
use Rattle.net_core.specs.Limits.{max_document, max_intervals}
use Rattle.net_core.specs.Nets.{PlainNet}
use Rattle.net_build.specs.Built.{IsNetOf}
use Rattle.tml_accept.specs.Acceptance.{Says}
use Rattle.drill.specs.Numbers.{hidden_timeline}
use Rattle.drill.specs.Texts.{drill_contents, drill_document}

-- there are drills of one interval to the most that a document may have
abbrev pub IsDrill : ℕ → Type 0
IsDrill n = (1 ≤ n) × (n ≤ max_intervals)

-- their numbers
abbrev pub drill_numbers : List ℕ
drill_numbers = range_with_len 1 max_intervals

-- the document of a drill breaks no rule, and says what was drawn
abbrev pub DrillIsAccepted : Type 0
DrillIsAccepted = (n : ℕ) → IsDrill n → Says (drill_document n) (drill_contents n)

-- it has no more bytes than a document may have
abbrev pub DrillIsShort : Type 0
DrillIsShort = (n : ℕ) → IsDrill n → length (drill_document n) ≤ max_document

-- the hidden intervals fit: so some timeline always does
abbrev pub HiddenIntervalsFit : Type 0
HiddenIntervalsFit = (n : ℕ) (net : PlainNet) → IsDrill n → IsNetOf (drill_contents n) net → Fits net (hidden_timeline n)
