-- The first fault of a document.
use Rattle.std.proofs.Common.{ℕ, List, inl, inr, Option, Some, None, IfSome}
use Rattle.faults.specs.declared.kind.FaultKind.{FaultKind}
use Rattle.tml_span.specs.declared.fault.Cut as cuts
use Rattle.tml_span.specs.declared.fault.Cut.TheVariants as cut
use Rattle.tml_span.specs.Faults.{HasCutFault, cut_kind_and_place}
use Rattle.tml_tree.specs.Plain.{PlainNode}
use Rattle.tml_tree.specs.Walking.{elements}
use Rattle.tml_tree.specs.Whole.{IsTreeOf, UnitsFaultAt, kind_and_place as tree_kind_and_place}
use Rattle.tml_types.specs.declared.tag_reader.SourceFault.{SourceFault}
use Rattle.tml_types.specs.declared.tag_reader.SourceFault.TheVariants.{Cut, Tree, Tag}
use Rattle.tml_types.specs.TagReader.{HasSourceFault, source_kind_and_place}
use Rattle.tml_types.specs.Whole.{TagFaultAt as AttributeFaultAt, kind_and_place}
use Rattle.tml_types.specs.Content.{PlainTyped}
use Rattle.tml_refs.specs.Rules.{ReferenceFaultAt}
use Rattle.tml_accept.specs.Acceptance.{AreTypedTags}
use Rattle.tml_accept.specs.Refusals.{IsRefusal, refusal_of}

-- the fault of its cut
pub of_cut : (doc : List ℕ) (c : cuts.Cut) → HasCutFault doc c → IsRefusal doc (refusal_of (cut_kind_and_place c))
of_cut doc (cut.NotUtf8 place) h = inl (inl h)
of_cut doc (cut.BadReference place) h = inl (inl h)
of_cut doc (cut.BadMarkup place) h = inl (inl h)
of_cut doc cut.Memory h = tt

-- the fault of its units
of_units : (doc : List ℕ) (o : Option (FaultKind × ℕ)) → IfSome o (λ f. UnitsFaultAt doc f.1 f.0) → IsRefusal doc (refusal_of o)
of_units doc None h = tt
of_units doc (Some f) h = inl (inr h)

-- the fault of the tags of its tree
of_tags : (doc : List ℕ) (root : PlainNode) (o : Option (FaultKind × ℕ)) → IsTreeOf doc root → IfSome o (λ f. AttributeFaultAt (elements root) f.1 f.0) → IsRefusal doc (refusal_of o)
of_tags doc root None t h = tt
of_tags doc root (Some f) t h = inr (inl (root, t, h))

-- whichever of the three it is
pub of_source : (doc : List ℕ) (fault : SourceFault) → HasSourceFault doc fault → IsRefusal doc (refusal_of (source_kind_and_place fault))
of_source doc (Cut c) h = of_cut doc c h
of_source doc (Tree fault) h = of_units doc (tree_kind_and_place fault) h
of_source doc (Tag fault) h = of_tags doc h.0 (kind_and_place fault) h.1 h.2

-- the fault of its typed tags
pub of_typed : (doc : List ℕ) (root : PlainNode) (tags : List PlainTyped) (o : Option (FaultKind × ℕ)) → AreTypedTags doc root tags → IfSome o (λ f. ReferenceFaultAt tags f.1 f.0) → IsRefusal doc (refusal_of o)
of_typed doc root tags None typed h = tt
of_typed doc root tags (Some f) typed h = inr (inr (root, tags, typed, h))
