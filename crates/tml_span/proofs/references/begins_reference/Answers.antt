use Rattle.std.proofs.Common.{inl, inr, sym, ◌∙◌}
use Rattle.tml_span.proofs.Referring.{named_begins, reference_begins, one_form}
use Rattle.tml_span.proofs.references.begins_reference.Goals.{then-begins_named, else-begins_named}
use Rattle.tml_span.proofs.references.begins_reference.Goals as goal

pub returns-then-begins_decimal : goal.returns-then-begins_decimal
returns-then-begins_decimal c = (
  λ _. elim c.if-begins_named.branch [
    | then-begins_named w ↦ reference_begins _ (inl ((named_begins _ _ c.begins_named.ensures).0 w.if-begins_named.true))
    | else-begins_named w ↦ reference_begins _ (inr (inl (w.begins_decimal.ensures.0 (sym w.value-is ∙ c.if-begins_decimal.true))))
  ],
  λ _. c.if-begins_decimal.true,
)

pub returns-else-begins_decimal : goal.returns-else-begins_decimal
returns-else-begins_decimal c = (
  λ t. reference_begins _ (inr (inr (c.begins_hex.ensures.0 t))),
  λ h. elim c.if-begins_named.branch [
    | then-begins_named w ↦ absurd cc
    | else-begins_named w ↦ elim (one_form _ h) [
      | inl named ↦ let e = (named_begins _ _ c.begins_named.ensures).1 named in absurd cc
      | inr (inl decimal) ↦ let e = w.begins_decimal.ensures.1 decimal in absurd cc
      | inr (inr hex) ↦ c.begins_hex.ensures.1 hex
    ]
  ],
)
