-- Words, and the form that they have. Nothing here knows what forms there are.
use Rattle.std.specs.Prelude.{ℕ, Bool, List, ◌++◌, codes, length, ◌==◌, None, Some, if◌then◌else◌}
use Rattle.std.specs.List.{flat_map}
use Rattle.std.specs.declared.option.Option.{Option}

-- a form with these arguments, if it takes them
abbrev pub taken_by : {F : Type 0} → (F → List (List ℕ) → Bool) → F → List (List ℕ) → Option (F × List (List ℕ))
taken_by takes form arguments = if takes form arguments then Some (form, arguments) else None

-- a form with as many arguments as it has, if it takes them
abbrev pub with_arguments : {F : Type 0} → (F → List (List ℕ)) → (F → List (List ℕ) → Bool) → List (List ℕ) → Option F → Option (F × List (List ℕ))
with_arguments names takes arguments None = None
with_arguments names takes arguments (Some form) = if length arguments == length (names form) then taken_by takes form arguments else None

abbrev pub argument_text : List ℕ → List ℕ
argument_text name = codes " " ++ name

-- the line of a form: its word and its arguments
abbrev pub usage_line : {F : Type 0} → (F → List ℕ) → (F → List (List ℕ)) → F → List ℕ
usage_line word names form = codes "tml " ++ word form ++ flat_map argument_text (names form) ++ codes "\n"

-- the usage text has a line for each form
abbrev pub usage_of : {F : Type 0} → (F → List ℕ) → List F → (F → List (List ℕ)) → List ℕ
usage_of word all names = codes "usage:\n" ++ flat_map (usage_line word names) all
