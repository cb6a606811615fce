-- Serves the code: what the attributes of a tag say, one by one: what the private contracts say of reading them.
use Rattle.std.specs.Prelude.{◌≡◌, ◌⊎◌, ℕ, Bool, true, false, not, ◌&&◌, ◌||◌, List, Option, Some, None, map, option_map}
use Rattle.tml_span.specs.Units.{Attribute}
use Rattle.tml_span.specs.View.{attribute_of}
use Rattle.tml_types.specs.declared.attributes.Attributes.{Attributes}
use Rattle.tml_types.specs.declared.attributes.Pair.{Pair}
use Rattle.tml_types.specs.declared.attributes.Pair.TheVariants.{Instance, Time, Both}
use Rattle.tml_types.specs.declared.typed.TagKind.TheVariants as kind
use Rattle.tml_types.specs.declared.walk.TypeFault.{TypeFault}
use Rattle.tml_types.specs.declared.walk.TypeFault.TheVariants as faults
use Rattle.tml_types.specs.Content.{Reference}
use Rattle.tml_types.specs.Rules.{is_absent, is_unfit}
use Rattle.tml_types.specs.Values.{is_identifier, is_named, value_of}

abbrev pub attrs_of : Attributes → List Attribute
attrs_of a = map attribute_of a.attrs.now

abbrev pub value_at : List ℕ → Attributes → Option (List ℕ)
value_at name a = value_of name (attrs_of a)

-- a value passes a test, where it is there, and this was read of it
abbrev pub IsGood : (List ℕ → Bool) → Option (List ℕ) → Option (List ℕ) → Type 0
IsGood test value read = (value ≡ read) × (is_unfit test value ≡ false)

-- a value is there that fails a test, and the tag at this place is refused
abbrev pub IsBadValue : (List ℕ → Bool) → Option (List ℕ) → ℕ → TypeFault → Type 0
IsBadValue test value place fault = (fault ≡ faults.BadValue place) × (is_unfit test value ≡ true)

-- a value is in a list of texts, where it is there, and this was read of it; or it is not, and the tag at this place is refused
abbrev pub IsListed : {T : Type 0} → (T → List ℕ) → List T → Option (List ℕ) → Option T → Type 0
IsListed text_of all value read = IsGood (is_named text_of all) value (option_map text_of read)

abbrev pub IsUnlisted : {T : Type 0} → (T → List ℕ) → List T → Option (List ℕ) → ℕ → TypeFault → Type 0
IsUnlisted text_of all value place fault = IsBadValue (is_named text_of all) value place fault

-- an attribute that has to be there is absent, and the tag is refused
abbrev pub IsMissing : Attributes → Option (List ℕ) → TypeFault → Type 0
IsMissing a value fault = (fault ≡ faults.MissingAttribute a.place) × (value ≡ None)

-- both of a pair are absent
abbrev pub AreMissing : Attributes → List ℕ → List ℕ → TypeFault → Type 0
AreMissing a name other fault = (fault ≡ faults.MissingAttribute a.place) × (value_at name a ≡ None) × (value_at other a ≡ None)

-- the values of the two attributes of a pair
abbrev pub first_value : Pair → Option (List ℕ)
first_value (Instance name) = Some name.now
first_value (Time name) = None
first_value (Both name other) = Some name.now

abbrev pub second_value : Pair → Option (List ℕ)
second_value (Instance name) = None
second_value (Time name) = Some name.now
second_value (Both name other) = Some other.now

abbrev pub IsPairOf : Attributes → List ℕ → List ℕ → Pair → Type 0
IsPairOf a name other p = (value_at name a ≡ first_value p) × (value_at other a ≡ second_value p)

-- a value of a pair is no identifier
abbrev pub is_bad_pair : Pair → Bool
is_bad_pair p = is_unfit is_identifier (first_value p) || is_unfit is_identifier (second_value p)

-- one of a pair is there, and this is the end that it makes
abbrev pub IsOneOf : Pair → Reference → Type 0
IsOneOf p end =
    ((first_value p ≡ Some end.name) × (second_value p ≡ None) × (end.asked ≡ kind.Instance))
    ⊎ ((first_value p ≡ None) × (second_value p ≡ Some end.name) × (end.asked ≡ kind.Timex))

-- both of a pair are there
abbrev pub is_conflict_pair : Pair → Bool
is_conflict_pair p = not (is_absent (first_value p)) && not (is_absent (second_value p))
