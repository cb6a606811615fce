-- Rows of the table whose values are as they have to be.
use Rattle.std.proofs.Common.{◌≡◌, ◌⊎◌, inl, inr, ℕ, Bool, false, not, ◌&&◌, ◌||◌, List, refl, ap, ◌∙◌, Option, Some, None}
use Rattle.tml_types.specs.declared.attributes.Pair.{Pair}
use Rattle.tml_types.specs.declared.typed.TagKind.TheVariants as kind
use Rattle.tml_types.specs.Content.{Reference}
use Rattle.tml_types.specs.Reading.{IsOneOf, first_value, is_bad_pair, second_value}
use Rattle.tml_types.specs.Rules.{is_absent, is_unfit}
use Rattle.tml_types.specs.Table.{any_text}
use Rattle.tml_types.specs.Values.{is_identifier, is_of_form}

-- each text is any text
pub any_fits : (value : Option (List ℕ)) → is_unfit (is_of_form any_text) value ≡ false
any_fits None = refl
any_fits (Some text) = refl

-- a value is a text that passes a test
pub fits : (test : List ℕ → Bool) (value text : Option (List ℕ)) → value ≡ text → is_unfit test text ≡ false → is_unfit test value ≡ false
fits test value text e h = ap (is_unfit test) e ∙ h

-- two values are a pair of which one is there, and it is an identifier
pub one_there : (x y : Option (List ℕ)) (p : Pair) (end : Reference) → (x ≡ first_value p) × (y ≡ second_value p) → is_bad_pair p ≡ false → IsOneOf p end →
    ((is_absent x && is_absent y) ≡ false)
    × ((is_unfit is_identifier x || is_unfit is_identifier y) ≡ false)
    × ((not (is_absent x) && not (is_absent y)) ≡ false)
    × (((end.asked ≡ kind.Instance) × (x ≡ Some end.name)) ⊎ ((end.asked ≡ kind.Timex) × (y ≡ Some end.name)))
one_there x y p end h good (inl k) =
    let e : x ≡ Some end.name = h.0 ∙ k.0 in
    let f : y ≡ None = h.1 ∙ k.1 in
    (rw e refl, rw (h.0, h.1) good, rw (e, f) refl, inl (k.2, e))
one_there x y p end h good (inr k) =
    let e : x ≡ None = h.0 ∙ k.0 in
    let f : y ≡ Some end.name = h.1 ∙ k.1 in
    (rw (e, f) refl, rw (h.0, h.1) good, rw e refl, inr (k.2, f))
