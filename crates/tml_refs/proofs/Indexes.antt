-- What the names say of the intervals of a document.
use Rattle.std.proofs.Common.{ℕ, List, Option, Some, None}
use Rattle.std.specs.Option.{IfSome}
use Rattle.tml_types.specs.declared.typed.TagKind.{TagKind}
use Rattle.tml_types.specs.References.{reference}
use Rattle.tml_refs.specs.declared.name_index.Entry.{Entry}
use Rattle.tml_refs.specs.Documents.{IsNamed, PlainInterval}
use Rattle.tml_refs.specs.NameIndex.{HasNumber, IsIndexOf, IsOfIntervals}

module _ (intervals : List PlainInterval) (entries : List Entry) (index : IsIndexOf intervals entries) (name : List ℕ) where
  -- a number that is found is that of an interval of the name
  pub found_named : (k : TagKind) (o : Option ℕ) → IsOfIntervals k → IfSome o (HasNumber entries (reference k name)) → IfSome o (IsNamed intervals name)
  found_named k None of h = tt
  found_named k (Some i) of h = let refers = index.only (reference k name) i (of, h) in (refers.interval, refers.at, refers.name)
