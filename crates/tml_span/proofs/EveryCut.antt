-- Every source has a cut.
use Rattle.std.proofs.Common.{◌≡◌, inl, inr, ℕ, zero, suc, ◌+◌, ◌≤◌, ◌<◌, Bool, true, false, cond, List, [], ◌∷◌, length, refl, sym, ap, subst, arith, length-append}
use Rattle.std.specs.Prelude.{nat_eq, codes}
use Rattle.std.specs.List.{starts_with}
use Rattle.std.proofs.lemmas.Bool.{eqb-true}
use Rattle.tml_span.specs.Units.{PlainUnit, Spelled}
use Rattle.tml_span.specs.Cutting.{CutsFrom}
use Rattle.tml_span.proofs.Leads.{Lead, nothing, plain, ending, comments, doctypes, query, opening, lead_after}
use Rattle.tml_span.proofs.Joining.{empty_stops}
use Rattle.tml_span.proofs.TagCuts.{plain_found, tag_or_none, end_tag_or_none}
use Rattle.tml_span.proofs.ClosedUnits.{FindsOrStops, comment_or_none, declaration_or_none, doctype_or_none}

-- what follows `<` is told apart by its first bytes
abbrev marked_lead : (slash bang dashes mark : Bool) → Lead
marked_lead slash bang dashes mark = cond slash ending (cond bang (cond dashes comments doctypes) (cond mark query opening))

marked_only : (slash bang dashes mark : Bool) → (marked_lead slash bang dashes mark ≡ nothing → ⊥) × (marked_lead slash bang dashes mark ≡ plain → ⊥)
marked_only true bang dashes mark = (λ e. cc, λ e. cc)
marked_only false true true mark = (λ e. cc, λ e. cc)
marked_only false true false mark = (λ e. cc, λ e. cc)
marked_only false false dashes true = (λ e. cc, λ e. cc)
marked_only false false dashes false = (λ e. cc, λ e. cc)

no_other_lead : (bytes : List ℕ) → (lead_after bytes ≡ nothing → ⊥) × (lead_after bytes ≡ plain → ⊥)
no_other_lead [] = (λ e. cc, λ e. cc)
no_other_lead (b ∷ bytes) = marked_only (nat_eq b 47) (nat_eq b 33) (starts_with nat_eq bytes (codes "--")) (nat_eq b 63)

-- only a slash leads an end tag
slash_first : (slash bang dashes mark : Bool) → marked_lead slash bang dashes mark ≡ ending → slash ≡ true
slash_first true bang dashes mark e = refl
slash_first false true true mark e = absurd cc
slash_first false true false mark e = absurd cc
slash_first false false dashes true e = absurd cc
slash_first false false dashes false e = absurd cc

slashed_or_none : (place : ℕ) (bytes : List ℕ) → lead_after bytes ≡ ending → FindsOrStops place (60 ∷ bytes)
slashed_or_none place [] e = absurd cc
slashed_or_none place (b ∷ bytes) e =
    let slash = eqb-true b 47 (slash_first (nat_eq b 47) (nat_eq b 33) (starts_with nat_eq bytes (codes "--")) (nat_eq b 63) e) in
    subst (λ (n : ℕ). FindsOrStops place (60 ∷ n ∷ bytes)) (sym slash) (end_tag_or_none place bytes)

marked_or_none : (place : ℕ) (bytes : List ℕ) (l : Lead) → lead_after bytes ≡ l → FindsOrStops place (60 ∷ bytes)
marked_or_none place bytes nothing e = absurd ((no_other_lead bytes).0 e)
marked_or_none place bytes plain e = absurd ((no_other_lead bytes).1 e)
marked_or_none place bytes ending e = slashed_or_none place bytes e
marked_or_none place bytes comments e = comment_or_none place (60 ∷ bytes) e
marked_or_none place bytes doctypes e = doctype_or_none place (60 ∷ bytes) e
marked_or_none place bytes query e = declaration_or_none place (60 ∷ bytes) e
marked_or_none place bytes opening e = tag_or_none place bytes e

-- the bytes begin with a unit, or no unit begins there
pub unit_or_none : (place : ℕ) (bytes : List ℕ) → FindsOrStops place bytes
unit_or_none place [] = inr (empty_stops place)
unit_or_none place (b ∷ bytes) = elim (nat_eq b 60) as (λ t. nat_eq b 60 ≡ t → FindsOrStops place (b ∷ bytes)) [
  | true ↦ λ e. subst (λ (n : ℕ). FindsOrStops place (n ∷ bytes)) (sym (eqb-true b 60 e)) (marked_or_none place bytes (lead_after bytes) refl)
  | false ↦ λ e. inl (plain_found place b bytes (ap (λ (t : Bool). cond t (lead_after bytes) plain) e))
] refl

-- the spelling of a unit is not empty
pub spelling_some : (place : ℕ) (u : PlainUnit) (prefix : List ℕ) → Spelled place u prefix → 0 < length prefix
spelling_some place u [] h = absurd (empty_stops place u [] [] refl h)
spelling_some place u (b ∷ prefix) h = omega arith

pub every_cut_from : (fuel place : ℕ) (bytes : List ℕ) → length bytes ≤ fuel → (units : List PlainUnit) × ((rest : List ℕ) × CutsFrom place bytes units rest)
every_cut_from zero place [] h = ([], ([], (refl, empty_stops place)))
every_cut_from zero place (b ∷ bytes) h = absurd (omega arith)
every_cut_from (suc fuel) place bytes h = elim (unit_or_none place bytes) [
  | inl found ↦
      let u = found.0 in
      let rest = found.1.0 in
      let finds = found.1.1 in
      let shorter : length rest ≤ fuel = omega (arith, ap length finds.1, length-append finds.0 rest, spelling_some place u finds.0 finds.2) in
      let others = every_cut_from fuel (place + length finds.0) rest shorter in
      (u ∷ others.0, (others.1.0, (finds.0, rest, finds.1, finds.2, finds.3, others.1.1)))
  | inr stops ↦ ([], (bytes, (refl, stops)))
]
