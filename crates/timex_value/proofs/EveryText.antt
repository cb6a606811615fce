-- Every text has a value, or is a calendar text without a valid filling.
use Rattle.std.proofs.Common.{inl, inr, ℕ, List}
use Rattle.std.proofs.lemmas.Grind.{merely}
use Rattle.timex_value.specs.declared.value.Value.TheVariants.{Calendar, Duration, Other}
use Rattle.timex_value.specs.Values.{HasValueOrNoFilling}
use Rattle.timex_value.proofs.Filled.{has_filling}
use Rattle.timex_value.proofs.Spelled.{is_spelled}
use Rattle.timex_value.proofs.Lasting.{is_length_of}

pub every_text : (text : List ℕ) → HasValueOrNoFilling text
every_text text = elim (is_spelled text) [
  | yes s ↦ elim (has_filling s.0 s.1) [
    | yes filling ↦ inl (Calendar (record { year = s.0; shape = s.1; written = merely (s.2.0, s.2.1, s.2.3); valid = merely filling }), s.2)
    | no never ↦ inr (s.0, s.1, s.2, never)
  ]
  | no none ↦ elim (is_length_of text) [
    | yes l ↦ inl (Duration l.0, l.1)
    | no no_length ↦ inl (Other, ((λ year shape s. none (year, shape, s)), λ l h. no_length (l, h)))
  ]
]
