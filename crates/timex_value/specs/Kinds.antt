-- The texts of the kinds of times and of their modifiers.
use Rattle.std.specs.Prelude.{ℕ, List, [], ◌∷◌, codes}
use Rattle.timex_value.specs.declared.kinds.TimexKind.{TimexKind}
use Rattle.timex_value.specs.declared.kinds.TimexKind.TheVariants as kind
use Rattle.timex_value.specs.declared.kinds.Modifier.{Modifier}
use Rattle.timex_value.specs.declared.kinds.Modifier.TheVariants as modifier

-- the values of `type` of TIMEX3
abbrev pub kind_text : TimexKind → List ℕ
kind_text kind.Date = codes "DATE"
kind_text kind.Time = codes "TIME"
kind_text kind.Duration = codes "DURATION"
kind_text kind.Set = codes "SET"

abbrev pub all_kinds : List TimexKind
all_kinds = kind.Date ∷ kind.Time ∷ kind.Duration ∷ kind.Set ∷ []

-- the values of `mod` of TIMEX3
abbrev pub modifier_text : Modifier → List ℕ
modifier_text modifier.Before = codes "BEFORE"
modifier_text modifier.After = codes "AFTER"
modifier_text modifier.OnOrBefore = codes "ON_OR_BEFORE"
modifier_text modifier.OnOrAfter = codes "ON_OR_AFTER"
modifier_text modifier.LessThan = codes "LESS_THAN"
modifier_text modifier.MoreThan = codes "MORE_THAN"
modifier_text modifier.EqualOrLess = codes "EQUAL_OR_LESS"
modifier_text modifier.EqualOrMore = codes "EQUAL_OR_MORE"
modifier_text modifier.Start = codes "START"
modifier_text modifier.Mid = codes "MID"
modifier_text modifier.End = codes "END"
modifier_text modifier.Approx = codes "APPROX"

abbrev pub all_modifiers : List Modifier
all_modifiers =
    modifier.Before ∷ modifier.After ∷ modifier.OnOrBefore ∷ modifier.OnOrAfter ∷ modifier.LessThan
    ∷ modifier.MoreThan ∷ modifier.EqualOrLess ∷ modifier.EqualOrMore ∷ modifier.Start ∷ modifier.Mid
    ∷ modifier.End ∷ modifier.Approx ∷ []
