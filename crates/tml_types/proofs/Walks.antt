-- Typed tags and faults of tags one after another.
use Rattle.std.proofs.Common.{◌≡◌, ℕ, suc, ◌+◌, ◌<◌, add-one, drop-cons, drop, get_or, length, List, ◌∷◌, ◌++◌, map, sym, ap, ◌∙◌, append_assoc, Some, None, All, Result, Ok, Err, OnOk, false}
use Rattle.std.specs.Result.{is_err}
use Rattle.std.specs.List.{filter}
use Rattle.std.specs.Option.{IfSome}
use Rattle.std.proofs.lemmas.List.{map-append}
use Rattle.std.proofs.lemmas.List.Elements.{All-append, filter-append}
use Rattle.named.proofs.Pairs.{zip_append}
use Rattle.tml_span.specs.declared.unit.Attr.{Attr}
use Rattle.tml_span.specs.View.{attribute_of}
use Rattle.tml_tree.specs.declared.node.Tag.{Tag}
use Rattle.tml_tree.specs.declared.node.Node.{Node}
use Rattle.tml_tree.specs.Plain.{PlainNode, nodes_of}
use Rattle.tml_tree.specs.View.{node_of, tag_node}
use Rattle.tml_tree.specs.Walking.{PlainTag, elements, all_elements}
use Rattle.tml_tree.proofs.Rows.{element_is}
use Rattle.faults.specs.declared.kind.FaultKind.{FaultKind}
use Rattle.faults.specs.Kinds.{number_of}
use Rattle.faults.proofs.First.{fault_within}
use Rattle.tml_types.specs.declared.typed.TypedTag.{TypedTag}
use Rattle.tml_types.specs.declared.walk.TypeFault.{TypeFault}
use Rattle.tml_types.specs.Content.{PlainTyped}
use Rattle.tml_types.specs.Places.{IsPlaceSmall}
use Rattle.tml_types.specs.Rules.{BreaksTagRule, BreaksNoTagRule}
use Rattle.tml_types.specs.Typing.{TypedAs}
use Rattle.tml_types.specs.View.{typed_of}
use Rattle.tml_types.specs.Walking.{AddsTyped, tag_at}
use Rattle.tml_types.specs.Whole.{TagFaultAt, HasTagFault, Types, has_rows, kind_and_place, place_of}

pub types_append : (tags others : List PlainTag) (ts us : List PlainTyped) → Types tags ts → Types others us → Types (tags ++ others) (ts ++ us)
types_append tags others ts us h k = record {
  sound = All-append BreaksNoTagRule tags others h.sound k.sound;
  typed_tags = rw (filter-append has_rows tags others) (zip_append TypedAs (filter has_rows tags) (filter has_rows others) ts us h.typed_tags k.typed_tags);
}

-- the typed tags of more tags after those of some
pub adds_more : (tags others : List PlainTag) (a b c : List TypedTag) → AddsTyped tags a b → AddsTyped others b c → AddsTyped (tags ++ others) a c
adds_more tags others a b c h k =
    let both : map typed_of (h.0 ++ k.0) ≡ map typed_of h.0 ++ map typed_of k.0 = map-append typed_of h.0 k.0 in
    (h.0 ++ k.0, rw both (types_append tags others (map typed_of h.0) (map typed_of k.0) h.1 k.1), rw both (All-append IsPlaceSmall (map typed_of h.0) (map typed_of k.0) h.2 k.2), k.3 ∙ ap (λ (ts : List TypedTag). ts ++ k.0) h.3 ∙ append_assoc a h.0 k.0)

-- what is said of a result that is no error
pub when_ok : {T E P : Type 0} (r : Result T E) → false ≡ is_err r → OnOk r P → P
when_ok (Ok x) e h = h
when_ok (Err x) e h = absurd cc

-- the first fault of some tags is that of more, where those before them have none
pub fault_of_more : (before tags after all : List PlainTag) (fault : TypeFault) → before ++ tags ++ after ≡ all → All BreaksNoTagRule before → HasTagFault tags fault → HasTagFault all fault
fault_of_more before tags after all fault e sound h =
    rw (← e)
    (elim (kind_and_place fault) as (λ t. IfSome t (λ (f : FaultKind × ℕ). TagFaultAt tags f.1 f.0) → IfSome t (λ (f : FaultKind × ℕ). TagFaultAt (before ++ tags ++ after) f.1 f.0)) [
      | None ↦ λ k. tt
      | Some f ↦ λ k. fault_within BreaksTagRule number_of place_of before tags after f.1 f.0 sound k
    ] h)

-- a tag and those inside it, one after another
pub tag_first : (tag : Tag) (attrs : List Attr) (children : List Node) → attrs ≡ tag.attrs → children ≡ tag.children.items
    → tag_at tag.span.start tag.name (map attribute_of attrs) ∷ all_elements (nodes_of (map node_of children)) ≡ elements (tag_node tag)
tag_first tag attrs children a k = rw (a, k) (sym (ap (λ (n : PlainNode). elements n) (element_is tag)))

-- the elements of what is left are those of the next child and then the others
pub next_child : (done : List PlainTag) (children : List Node) (i : ℕ) (child : Node) (all : List PlainTag) → i < length children → child ≡ get_or children i child
    → done ++ all_elements (nodes_of (map node_of (drop i children))) ≡ all → done ++ elements (node_of child) ++ all_elements (nodes_of (map node_of (drop (i + 1) children))) ≡ all
next_child done children i child all h e k =
    let next : drop i children ≡ child ∷ drop (suc i) children = drop-cons children i child h ∙ ap (λ (n : Node). n ∷ drop (suc i) children) (sym e) in
    rw (add-one i) (append_assoc done (elements (node_of child)) (all_elements (nodes_of (map node_of (drop (suc i) children)))) ∙ rw next at k)
