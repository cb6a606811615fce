-- The numbers of the kinds of fault.
use Rattle.std.proofs.Common.{◌≡◌, ℕ, ◌-◌, Some, refl, ap, sym, subst, ◌∙◌, Contains}
use Rattle.std.specs.List.{slice_get}
use Rattle.std.proofs.lemmas.List.Elements.{Contains-get_or}
use Rattle.std.proofs.lemmas.Option.{get_or_from_slice_get, same_Some, slice_get_within}
use Rattle.faults.specs.declared.kind.FaultKind.{FaultKind}
use Rattle.faults.specs.declared.kind.FaultKind.TheVariants as fault
use Rattle.faults.specs.First.{AreNumbered}
use Rattle.faults.specs.Kinds.{number_of, all_kinds}

-- a kind stands in the list of all where its number says
numbered_at : (kind : FaultKind) → slice_get all_kinds (number_of kind - 1) ≡ Some kind
numbered_at fault.NotUtf8 = refl
numbered_at fault.BadReference = refl
numbered_at fault.BadMarkup = refl
numbered_at fault.UnknownTag = refl
numbered_at fault.Unbalanced = refl
numbered_at fault.Unclosed = refl
numbered_at fault.Misplaced = refl
numbered_at fault.TooDeep = refl
numbered_at fault.RepeatedAttribute = refl
numbered_at fault.MissingAttribute = refl
numbered_at fault.BadValue = refl
numbered_at fault.Conflict = refl
numbered_at fault.BadDate = refl
numbered_at fault.DuplicateId = refl
numbered_at fault.UnknownReference = refl
numbered_at fault.TooManyIntervals = refl
numbered_at fault.TooManyLinks = refl

pub kinds_are_numbered : AreNumbered number_of
kinds_are_numbered kind other same = same_Some _ _ (sym (numbered_at kind) ∙ ap (λ (n : ℕ). slice_get all_kinds (n - 1)) same ∙ numbered_at other)

-- each kind is one of the list
pub every_kind : (kind : FaultKind) → Contains all_kinds kind
every_kind kind =
    let at = numbered_at kind in
    subst (Contains all_kinds) (get_or_from_slice_get all_kinds (number_of kind - 1) kind kind at)
    (Contains-get_or all_kinds (number_of kind - 1) kind (slice_get_within all_kinds (number_of kind - 1) kind at))
