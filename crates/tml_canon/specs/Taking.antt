-- Serves the code: the units of a document that are written, and its typed tags that are taken.
use Rattle.std.specs.Prelude.{◌≡◌, List, ℕ, Option, Some, None, IfSome}
use Rattle.tml_span.specs.Units.{PlainUnit}
use Rattle.tml_tree.specs.Rules.{History}
use Rattle.tml_types.specs.declared.tag_reader.TagReader.{TagReader}
use Rattle.tml_types.specs.declared.typed.TypedTag.{TypedTag}
use Rattle.tml_types.specs.Content.{PlainTyped}
use Rattle.tml_types.specs.TagReader.{HasJudged, OfUnits}
use Rattle.tml_types.specs.View.{typed_of}
use Rattle.tml_types.specs.Whole.{Types}
use Rattle.tml_refs.specs.declared.resolver.Resolver.{Resolver}
use Rattle.tml_refs.specs.Taking.{HasTakenTags, MayTake, Takes}
use Rattle.tml_canon.specs.declared.document.Taken.{Taken}
use Rattle.tml_canon.specs.Writing.{HasWrittenUnits}

-- a typed tag, if there is one, stands after those that were taken
abbrev pub MayTakeTag : Resolver → Option TypedTag → Type 0
MayTakeTag r tag = IfSome tag (λ t. MayTake r (typed_of t))

-- and is taken
abbrev pub TakesTag : Resolver → Option TypedTag → Resolver → Type 0
TakesTag old (Some t) new = Takes old (typed_of t) new
TakesTag old None new = new ≡ old

-- the units that a reader of this source has given are written, and their typed tags were taken
pub record HasTakenUnits (source : List ℕ) (r : TagReader) (t : Taken) : Type 0 where
  pub us : List PlainUnit
  pub typed : List PlainTyped
  pub given : HasJudged source us typed r
  pub taken : HasTakenTags typed t.resolver
  pub written : HasWrittenUnits us r.nesting t.writer

-- all units of a source are written, which make a tree, and all its typed tags were taken, none of which breaks a rule
pub record HasWrittenAll (source : List ℕ) (t : Taken) : Type 0 where
  pub us : List PlainUnit
  pub typed : List PlainTyped
  pub tree : OfUnits source us (λ tags. Types tags typed)
  pub taken : HasTakenTags typed t.resolver
  pub history : History
  pub written : HasWrittenUnits us history t.writer
