-- A reader whose units are judged one after another.
use Rattle.std.proofs.Common.{◌≡◌, ◌<◌, ◌^◌, ℕ, List, [], ◌∷◌, ◌++◌, append_assoc, length, refl, sym, subst, ◌∙◌, Some, None, IfSome, Ok}
use Rattle.tml_span.specs.declared.unit.Unit.{Unit}
use Rattle.tml_span.specs.Reader.{Reading, Divides, GivesUnit, IsReading}
use Rattle.tml_span.specs.Units.{PlainUnit}
use Rattle.tml_span.specs.View.{unit_of}
use Rattle.tml_span.specs.Whole.{IsWhole}
use Rattle.tml_span.proofs.Dividing.{all_given, none_given}
use Rattle.faults.specs.declared.kind.FaultKind.TheVariants as fault
use Rattle.tml_tree.specs.declared.whole.TreeFault.{TreeFault}
use Rattle.tml_tree.specs.declared.whole.TreeFault.TheVariants as tree
use Rattle.tml_tree.specs.Judging.{HavePassed, Refuses, first_fault}
use Rattle.tml_tree.specs.Nesting.{OpenTag}
use Rattle.tml_tree.specs.Plain.{PlainNode}
use Rattle.tml_tree.specs.Pulled.{LeavesReading}
use Rattle.tml_tree.specs.Rules.{History}
use Rattle.tml_tree.specs.Whole.{FaultOf, HasTreeFault, UnitsFault, UnitsFaultAt, kind_and_place}
use Rattle.tml_tree.proofs.FirstFaults.{has_fault}
use Rattle.tml_tree.proofs.Passing.{refused}

-- a reader that has moved on within its source
still_reading : (old new : Reading) → IsReading old → new.source ≡ old.source → (given left : List PlainUnit) → Divides new given left → IsReading new
still_reading old new reading e given left d = (subst (λ (s : List ℕ). length s < 2 ^ 32) (sym e) reading.0, given, left, d)

-- no unit leaves the root open
never_unclosed : (h : History) (u : PlainUnit) → first_fault h u.kind ≡ Some fault.Unclosed → ⊥
never_unclosed h u e = let here = has_fault h u.kind fault.Unclosed e in absurd cc

-- where a unit is at fault, the reader is left at its end
left_past_unit : (source : List ℕ) (r : Reading) (h : History) (before left : List PlainUnit) (u : PlainUnit) (f : TreeFault) → r.source ≡ source → IsReading r → Divides r (before ++ u ∷ []) left → Refuses h u.kind u.start f
    → LeavesReading source r f
left_past_unit source r h before left u (tree.UnknownTag place) e reading d refuses = (e, before, u, left, d, sym refuses.1)
left_past_unit source r h before left u (tree.Unbalanced place) e reading d refuses = (e, before, u, left, d, sym refuses.1)
left_past_unit source r h before left u (tree.Unclosed place) e reading d refuses = absurd (never_unclosed h u refuses.0)
left_past_unit source r h before left u (tree.Misplaced place) e reading d refuses = (e, before, u, left, d, sym refuses.1)
left_past_unit source r h before left u (tree.TooDeep place) e reading d refuses = (e, before, u, left, d, sym refuses.1)
left_past_unit source r h before left u tree.Memory e reading d refuses = (e, reading)

-- the fault of all units is that of their source
pub units_fault : (source : List ℕ) (units : List PlainUnit) (f : TreeFault) → IsWhole (record { source = source; units = units }) → UnitsFault (length source) units f → HasTreeFault source f
units_fault source units f whole h = elim (kind_and_place f) as (λ o. IfSome o (λ q. FaultOf (length source) units q.1 q.0) → IfSome o (λ q. UnitsFaultAt source q.1 q.0)) [
  | None ↦ λ k. tt
  | Some q ↦ λ k. (units, whole, k)
] h

-- ---- a loop over the units of a reader

-- a reader of this source has given some of its units, and this is known of them
pub record HasGiven (source : List ℕ) (Known : List PlainUnit → Type 0) (r : Reading) : Type 0 where
  pub source_is : r.source ≡ source
  pub given : List PlainUnit
  pub left : List PlainUnit
  pub divides : Divides r given left
  pub known : Known given

-- before the first unit
pub nothing_given : {Known : List PlainUnit → Type 0} (r : Reading) → IsReading r → r.place ≡ 0 → Known [] → HasGiven r.source Known r
nothing_given r reading start known = let none = none_given r reading start in record { source_is = refl; given = []; left = none.0; divides = none.1; known = known }

-- where a pull was refused, or gave none
pub reads_on : {Known : List PlainUnit → Type 0} (first r : Reading) → IsReading first → HasGiven first.source Known r → IsReading r
reads_on first r reading h = still_reading first r reading h.source_is h.given h.left h.divides

-- where no unit is left, this is known of all units
pub all_known : {source : List ℕ} {Known : List PlainUnit → Type 0} {r s : Reading} → HasGiven source Known r → GivesUnit r s (Ok None) → (us : List PlainUnit) × IsWhole (record { source = source; units = us }) × Known us
all_known {source} {Known} {r} h gives =
    let whole = all_given r h.given h.left (gives.2 h.given h.left h.divides) h.divides in
    (h.given, subst (λ (bytes : List ℕ). IsWhole (record { source = bytes; units = h.given })) h.source_is whole, h.known)

module _ {source : List ℕ} {Known : List PlainUnit → Type 0} {r s : Reading} (u : Unit) (h : HasGiven source Known r) (gives : GivesUnit r s (Ok (Some u))) where
  -- one more unit is given
  pub one_more : {More : List PlainUnit → Type 0} → ((given : List PlainUnit) → Known given → More (given ++ unit_of u ∷ [])) → HasGiven source More s
  one_more more =
      let next = gives.4 h.given h.left h.divides in
      record { source_is = gives.0 ∙ h.source_is; given = h.given ++ unit_of u ∷ []; left = next.0; divides = next.2; known = more h.given h.known }

  -- the units given, this one and those that are left are the units of the source
  whole_with : (left : List PlainUnit) → Divides s (h.given ++ unit_of u ∷ []) left → IsWhole (record { source = source; units = h.given ++ unit_of u ∷ left })
  whole_with left d =
      subst (λ (bytes : List ℕ). IsWhole (record { source = bytes; units = h.given ++ unit_of u ∷ left })) (gives.0 ∙ h.source_is)
      (subst (λ (us : List PlainUnit). IsWhole (record { source = s.source; units = us })) (append_assoc h.given (unit_of u ∷ []) left) d.whole)

  -- the fault of this unit is that of the source
  pub source_fault : (history : History) (f : TreeFault) → ((given : List PlainUnit) → Known given → (tags : List OpenTag) × (nodes : List PlainNode) × HavePassed given tags nodes history) → Refuses history (unit_of u).kind (unit_of u).start f
      → HasTreeFault source f
  source_fault history f passed refuses =
      let next = gives.4 h.given h.left h.divides in
      let p = passed h.given h.known in
      units_fault source (h.given ++ unit_of u ∷ next.0) f (whole_with next.0 next.2) (refused (length source) h.given next.0 (unit_of u) p.0 p.1 history _ p.2 refuses)

-- the reader is left at the end of the unit that is at fault
pub left_at_fault : {Known : List PlainUnit → Type 0} (first : Reading) {r s : Reading} (u : Unit) (history : History) (f : TreeFault) → IsReading first → HasGiven first.source Known r → GivesUnit r s (Ok (Some u)) → Refuses history (unit_of u).kind (unit_of u).start f
    → LeavesReading first.source s f
left_at_fault first {r} {s} u history f reading h gives refuses =
    let next = gives.4 h.given h.left h.divides in
    let same = gives.0 ∙ h.source_is in
    left_past_unit first.source s history h.given next.0 (unit_of u) f same (still_reading first s reading same (h.given ++ unit_of u ∷ []) next.0 next.2) next.2 refuses
