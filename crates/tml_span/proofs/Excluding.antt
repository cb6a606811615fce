-- A source has one fault.
use Rattle.std.proofs.Common.{◌≡◌, ℕ, List, [], length, refl, sym, ap, subst, ◌∙◌, arith}
use Rattle.std.proofs.lemmas.Str.{utf8_valid_len-IsValidUpTo}
use Rattle.std.specs.Str.{IsValidUpTo}
use Rattle.faults.specs.declared.kind.FaultKind.{FaultKind}
use Rattle.faults.specs.declared.kind.FaultKind.TheVariants as fault
use Rattle.tml_span.specs.Units.{PlainUnit}
use Rattle.tml_span.specs.Cutting.{Cuts}
use Rattle.tml_span.specs.Faults.{CutFault, IsNotUtf8, HasBadReference, HasBadMarkup, OneFaults}
use Rattle.tml_span.specs.References.{IsBadInUnits, IsLeastPlace}
use Rattle.tml_span.specs.Whole.{IsWhole}
use Rattle.tml_span.proofs.OneCut.{one_cut_from}

-- a source is valid up to one place
valid_up_to : (source : List ℕ) (place other : ℕ) → IsValidUpTo source place → IsValidUpTo source other → place ≡ other
valid_up_to source place other h k = sym (utf8_valid_len-IsValidUpTo source place h) ∙ utf8_valid_len-IsValidUpTo source other k

-- there is one least place
one_first : (Bad : ℕ → Type 0) (place other : ℕ) → IsLeastPlace Bad place → IsLeastPlace Bad other → place ≡ other
one_first Bad place other h k = omega (arith, h.1 other k.0, k.1 place h.0)

-- units of one source are the same
one_units : (source : List ℕ) (units others : List PlainUnit) (rest after : List ℕ) → Cuts source units rest → Cuts source others after → units ≡ others
one_units source units others rest after h k = (one_cut_from 0 source units others rest after h k).0

whole_or_fault : (source : List ℕ) (units : List PlainUnit) (place : ℕ) (kind : FaultKind) → IsWhole (record { source = source; units = units }) → CutFault source place kind → ⊥
whole_or_fault source units place fault.NotUtf8 h f = f.0 h.0
whole_or_fault source units place fault.BadReference h f =
    let same = one_units source f.1 units f.2 [] f.3 h.1 in
    h.2 place (subst (λ (us : List PlainUnit). IsBadInUnits us place) same f.4.0)
whole_or_fault source units place fault.BadMarkup h f = f.5 (one_cut_from 0 source f.1 units f.2 [] f.3 h.1).1
whole_or_fault source units place kind h f = f

-- where one fault is a bad reference, nothing else is at fault
reference_or_markup : (source : List ℕ) (place other : ℕ) → HasBadReference source place → HasBadMarkup source other → ⊥
reference_or_markup source place other f g =
    let same = one_units source f.1 g.1 f.2 g.2 f.3 g.3 in
    g.4 place (subst (λ (us : List PlainUnit). IsBadInUnits us place) same f.4.0)

one_reference : (source : List ℕ) (place other : ℕ) → HasBadReference source place → HasBadReference source other → place ≡ other
one_reference source place other f g =
    let same = one_units source f.1 g.1 f.2 g.2 f.3 g.3 in
    one_first (IsBadInUnits g.1) place other (subst (λ (us : List PlainUnit). IsLeastPlace (IsBadInUnits us) place) same f.4) g.4

one_markup : (source : List ℕ) (place other : ℕ) → HasBadMarkup source place → HasBadMarkup source other → place ≡ other
one_markup source place other f g =
    let same = (one_cut_from 0 source f.1 g.1 f.2 g.2 f.3 g.3).1 in
    omega (arith, f.6, g.6, ap length same)

with_not_utf8 : (source : List ℕ) (place other : ℕ) (same : FaultKind) → IsNotUtf8 source place → CutFault source other same → (place ≡ other) × (fault.NotUtf8 ≡ same)
with_not_utf8 source place other fault.NotUtf8 f g = (valid_up_to source place other f.1 g.1, refl)
with_not_utf8 source place other fault.BadReference f g = absurd (f.0 g.0)
with_not_utf8 source place other fault.BadMarkup f g = absurd (f.0 g.0)
with_not_utf8 source place other same f g = absurd g

with_reference : (source : List ℕ) (place other : ℕ) (same : FaultKind) → HasBadReference source place → CutFault source other same → (place ≡ other) × (fault.BadReference ≡ same)
with_reference source place other fault.NotUtf8 f g = absurd (g.0 f.0)
with_reference source place other fault.BadReference f g = (one_reference source place other f g, refl)
with_reference source place other fault.BadMarkup f g = absurd (reference_or_markup source place other f g)
with_reference source place other same f g = absurd g

with_markup : (source : List ℕ) (place other : ℕ) (same : FaultKind) → HasBadMarkup source place → CutFault source other same → (place ≡ other) × (fault.BadMarkup ≡ same)
with_markup source place other fault.NotUtf8 f g = absurd (g.0 f.0)
with_markup source place other fault.BadReference f g = absurd (reference_or_markup source other place g f)
with_markup source place other fault.BadMarkup f g = (one_markup source place other f g, refl)
with_markup source place other same f g = absurd g

one_fault : (source : List ℕ) (place other : ℕ) (kind same : FaultKind) → CutFault source place kind → CutFault source other same → (place ≡ other) × (kind ≡ same)
one_fault source place other fault.NotUtf8 same f g = with_not_utf8 source place other same f g
one_fault source place other fault.BadReference same f g = with_reference source place other same f g
one_fault source place other fault.BadMarkup same f g = with_markup source place other same f g
one_fault source place other kind same f g = absurd f

pub one_faults : OneFaults
one_faults = λ source. record { whole_or_fault = whole_or_fault source; one_fault = one_fault source }
