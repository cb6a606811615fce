-- The kinds of fault: their numbers, which are their order, and their names.
use Rattle.std.specs.Prelude.{ℕ, List, [], ◌∷◌, codes}
use Rattle.faults.specs.declared.kind.FaultKind.{FaultKind}
use Rattle.faults.specs.declared.kind.FaultKind.TheVariants as fault

-- of several faults at one place that with the least number counts
abbrev pub number_of : FaultKind → ℕ
number_of fault.NotUtf8 = 1
number_of fault.BadReference = 2
number_of fault.BadMarkup = 3
number_of fault.UnknownTag = 4
number_of fault.Unbalanced = 5
number_of fault.Unclosed = 6
number_of fault.Misplaced = 7
number_of fault.TooDeep = 8
number_of fault.RepeatedAttribute = 9
number_of fault.MissingAttribute = 10
number_of fault.BadValue = 11
number_of fault.Conflict = 12
number_of fault.BadDate = 13
number_of fault.DuplicateId = 14
number_of fault.UnknownReference = 15
number_of fault.TooManyIntervals = 16
number_of fault.TooManyLinks = 17

-- the name as it is printed
abbrev pub kind_name : FaultKind → List ℕ
kind_name fault.NotUtf8 = codes "NotUtf8"
kind_name fault.BadReference = codes "BadReference"
kind_name fault.BadMarkup = codes "BadMarkup"
kind_name fault.UnknownTag = codes "UnknownTag"
kind_name fault.Unbalanced = codes "Unbalanced"
kind_name fault.Unclosed = codes "Unclosed"
kind_name fault.Misplaced = codes "Misplaced"
kind_name fault.TooDeep = codes "TooDeep"
kind_name fault.RepeatedAttribute = codes "RepeatedAttribute"
kind_name fault.MissingAttribute = codes "MissingAttribute"
kind_name fault.BadValue = codes "BadValue"
kind_name fault.Conflict = codes "Conflict"
kind_name fault.BadDate = codes "BadDate"
kind_name fault.DuplicateId = codes "DuplicateId"
kind_name fault.UnknownReference = codes "UnknownReference"
kind_name fault.TooManyIntervals = codes "TooManyIntervals"
kind_name fault.TooManyLinks = codes "TooManyLinks"

abbrev pub all_kinds : List FaultKind
all_kinds =
    fault.NotUtf8 ∷ fault.BadReference ∷ fault.BadMarkup ∷ fault.UnknownTag
    ∷ fault.Unbalanced ∷ fault.Unclosed ∷ fault.Misplaced ∷ fault.TooDeep
    ∷ fault.RepeatedAttribute ∷ fault.MissingAttribute ∷ fault.BadValue ∷ fault.Conflict
    ∷ fault.BadDate ∷ fault.DuplicateId ∷ fault.UnknownReference ∷ fault.TooManyIntervals
    ∷ fault.TooManyLinks ∷ []
