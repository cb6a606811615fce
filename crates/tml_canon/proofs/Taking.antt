-- The typed tag that a unit begins is taken, if it begins one.
use Rattle.std.proofs.Common.{List, [], ◌++◌, append-nil, map, sym, subst, Option, Some, None, Result, Ok, Err}
use Rattle.std.specs.Prelude.{OnOk}
use Rattle.std.specs.Option.{option_to_list}
use Rattle.tml_types.specs.declared.typed.TypedTag.{TypedTag}
use Rattle.tml_types.specs.Content.{PlainTyped}
use Rattle.tml_types.specs.Places.{HaveRisingPlaces}
use Rattle.tml_types.specs.View.{typed_of}
use Rattle.tml_refs.specs.declared.resolver.Resolver.{Resolver}
use Rattle.tml_refs.specs.Taking.{HasTakenTags}
use Rattle.tml_canon.specs.Taking.{MayTakeTag, TakesTag}

-- a tag after those that were taken
pub may_take : (typed : List PlainTyped) (tag : Option TypedTag) (r : Resolver) → HasTakenTags typed r → HaveRisingPlaces (typed ++ map typed_of (option_to_list tag)) → MayTakeTag r tag
may_take typed (Some t) r h placed = (typed, h, placed)
may_take typed None r h placed = tt

pub tag_taken : (typed : List PlainTyped) (tag : Option TypedTag) (old new : Resolver) → HasTakenTags typed old → HaveRisingPlaces (typed ++ map typed_of (option_to_list tag)) → TakesTag old tag new
    → HasTakenTags (typed ++ map typed_of (option_to_list tag)) new
tag_taken typed (Some t) old new h placed takes = takes typed h placed
tag_taken typed None old new h placed e = subst (HasTakenTags (typed ++ [])) (sym e) (subst (λ (ts : List PlainTyped). HasTakenTags ts old) (sym (append-nil typed)) h)

-- what holds whatever the result holds where it is Ok
pub when_any : {T E P : Type 0} (r : Result T E) → P → OnOk r P
when_any (Ok x) h = h
when_any (Err x) h = tt
