-- The tags of a drill break no rule of attributes, and what they say.
use Rattle.std.proofs.Common.{◌≡◌, ℕ, ◌+◌, Bool, true, false, ◌||◌, not, List, [], ◌∷◌, ◌++◌, map, refl, ap, subst, ◌∙◌, rules, inl, Option, Some, None}
use Rattle.std.specs.Prelude.{codes}
use Rattle.std.specs.List.{AllByRecursion, AllZip, filter, flat_map}
use Rattle.std.specs.Str.{bytes_eq}
use Rattle.std.proofs.lemmas.Bool.{false≢true}
use Rattle.std.proofs.lemmas.List.{append-nil}
use Rattle.std.proofs.lemmas.List.Elements.{All-nil, All-cons}
use Rattle.net_core.specs.declared.rels.Rel.{Rel}
use Rattle.net_core.specs.Rels.{rel_text, all_rels}
use Rattle.tml_refs.specs.declared.document.DocLink.{DocLink}
use Rattle.tml_span.specs.Units.{Attribute}
use Rattle.tml_span.specs.Written.{tag_attributes}
use Rattle.tml_tree.specs.declared.tag_name.TagName.{TagName}
use Rattle.tml_tree.specs.declared.tag_name.TagName.TheVariants as tag
use Rattle.tml_tree.specs.Plain.{PlainNode, nodes_of}
use Rattle.tml_tree.specs.TagNames.{text_of}
use Rattle.tml_tree.specs.Walking.{PlainTag, elements, all_elements}
use Rattle.tml_tree.specs.Written.{node_at, nodes_at, size_of}
use Rattle.tml_types.specs.declared.listed.EventClass.TheVariants as class
use Rattle.tml_types.specs.declared.typed.TagKind.TheVariants as kind
use Rattle.tml_types.specs.Content.{Content, PlainTyped, event, instance, tlink}
use Rattle.tml_types.specs.References.{kind_of, reference, tag_name}
use Rattle.tml_types.specs.Rules.{BreaksNoTagRule, is_absent, is_unfit}
use Rattle.tml_types.specs.Table.{Row, attribute_rows}
use Rattle.tml_types.specs.Typing.{HasFields, TypedAs}
use Rattle.tml_types.specs.Values.{filled, is_named}
use Rattle.tml_types.specs.Walking.{tag_at}
use Rattle.tml_types.specs.Whole.{Types, has_rows}
use Rattle.tml_types.proofs.KindNames.{names_differ}
use Rattle.tml_types.proofs.OneRule.{rows_known, sound_by}
use Rattle.drill.specs.Texts.{event_name, instance_name}
use Rattle.drill.proofs.AcceptedLists.{after_both}
use Rattle.drill.proofs.AcceptedNames.{event_identifier, instance_identifier}
use Rattle.drill.proofs.AcceptedTree.{line_end, event_node, instance_node, link_node, event_attributes, instance_attributes, link_attributes, interval_nodes, link_nodes, root_of}
use Rattle.drill.proofs.AcceptedWriting.{IsSmall, HasSmallEnds}

-- ---- what the tags say

-- what a tag says, without its place
abbrev pub content_of : PlainTyped → Content
content_of t = t.content

-- what the tag of event i says
abbrev pub event_content : ℕ → Content
event_content i = event (record { eid = event_name i; class = class.Occurrence })

-- what the tag of its instance says
abbrev pub instance_content : ℕ → Content
instance_content i = instance (record { eiid = instance_name i; event = event_name i; signal = None; tense = None; aspect = None; pos = None; polarity = None })

-- what the two tags of an interval say
abbrev pub interval_contents : ℕ → List Content
interval_contents i = event_content i ∷ instance_content i ∷ []

-- what the tag of a link says
abbrev pub link_content : DocLink → Content
link_content link = tlink (record { lid = None; signal = None; left = reference kind.Instance (instance_name link.a); rel = link.rel; right = reference kind.Instance (instance_name link.b) })

-- the same as a list
abbrev pub link_contents : DocLink → List Content
link_contents link = link_content link ∷ []

-- what all tags say
abbrev pub contents_of : List ℕ → List DocLink → List Content
contents_of numbers links = flat_map interval_contents numbers ++ flat_map link_contents links

-- some tags break no rule, and this is what they say, whatever their places
pub record Say (tags : List PlainTag) (contents : List Content) : Type 0 where
  pub typed : List PlainTyped
  pub types : Types tags typed
  pub contents_are : map content_of typed ≡ contents

-- there are rows
abbrev any_row : List Row → Bool
any_row rows = elim rows [ [] ↦ false | row ∷ more ↦ true ]

-- a tag with rows in the table is typed first
typed_first : (t : PlainTag) (tags : List PlainTag) (x : PlainTyped) (typed : List PlainTyped) → has_rows t ≡ true → TypedAs t x → AllZip TypedAs (filter has_rows tags) typed → AllZip TypedAs (filter has_rows (t ∷ tags)) (x ∷ typed)
typed_first t tags x typed e h k = rw e (h, k)

-- another is not
typed_later : (t : PlainTag) (tags : List PlainTag) (typed : List PlainTyped) → has_rows t ≡ false → AllZip TypedAs (filter has_rows tags) typed → AllZip TypedAs (filter has_rows (t ∷ tags)) typed
typed_later t tags typed e k = rw e k

-- no tags say nothing
say_none : Say [] []
say_none = record { typed = []; types = record { sound = All-nil BreaksNoTagRule; typed_tags = tt }; contents_are = refl }

-- a tag more that breaks no rule, and what it says
say_more : (name : TagName) (attrs : List Attribute) (place : ℕ) (c : Content) (tags : List PlainTag) (contents : List Content) → any_row (attribute_rows name) ≡ true → text_of name ≡ tag_name (kind_of c) → HasFields attrs c → BreaksNoTagRule (tag_at place name attrs) → Say tags contents
    → Say (tag_at place name attrs ∷ tags) (c ∷ contents)
say_more name attrs place c tags contents r k f s h =
    let x : PlainTyped = record { place = place; content = c } in record {
      typed = x ∷ h.typed;
      types = record {
        sound = All-cons BreaksNoTagRule (tag_at place name attrs) tags s h.types.sound;
        typed_tags = typed_first (tag_at place name attrs) tags x h.typed (ap any_row (rows_known name) ∙ r) (record { place = refl; name = k; fields = f }) h.types.typed_tags;
      };
      contents_are = ap (λ (cs : List Content). c ∷ cs) h.contents_are;
    }

-- ---- the tags of an interval and of a link

-- the tag of an event breaks no rule
event_sound : (place i : ℕ) → IsSmall i → BreaksNoTagRule (tag_at place tag.Event (tag_attributes place (codes "EVENT") (event_attributes i)))
event_sound place i small =
    sound_by tag.Event (tag_attributes place (codes "EVENT") (event_attributes i)) place refl refl
    (ap (λ (b : Bool). not b || false) (event_identifier i small)) refl (λ b. names_differ kind.Event kind.Timex refl b.0)

-- nor does that of an instance
instance_sound : (place i : ℕ) → IsSmall i → BreaksNoTagRule (tag_at place tag.MakeInstance (tag_attributes place (codes "MAKEINSTANCE") (instance_attributes i)))
instance_sound place i small =
    sound_by tag.MakeInstance (tag_attributes place (codes "MAKEINSTANCE") (instance_attributes i)) place refl refl
    (ap (λ (b : Bool × Bool). not b.0 || (not b.1 || false)) (λ k. (instance_identifier i small k, event_identifier i small k))) refl (λ b. names_differ kind.Instance kind.Timex refl b.0)

-- the text of a relation is not empty
relation_filled : (r : Rel) → filled (rel_text r) ≡ Some (rel_text r)
relation_filled r = search rules

-- and it is that of a relation
relation_named : (r : Rel) → is_named rel_text all_rels (rel_text r) ≡ true
relation_named r = search rules

-- nor does the tag of a link
link_sound : (place : ℕ) (link : DocLink) → HasSmallEnds link → BreaksNoTagRule (tag_at place tag.Tlink (tag_attributes place (codes "TLINK") (link_attributes link)))
link_sound place link ends =
    sound_by tag.Tlink (tag_attributes place (codes "TLINK") (link_attributes link)) place refl
    (ap (λ (o : Option (List ℕ)). is_absent o || false) (relation_filled link.rel))
    (ap (λ (p : Option (List ℕ) × Bool × Bool). is_unfit (is_named rel_text all_rels) p.0 || ((not p.1 || false) || ((not p.2 || false) || false))) (λ k. (relation_filled link.rel k, instance_identifier link.a ends.0 k, instance_identifier link.b ends.1 k)) ∙ ap (λ (b : Bool). not b || false) (relation_named link.rel))
    refl (λ b. names_differ kind.Tlink kind.Timex refl b.0)

-- ---- all tags

-- the elements of these nodes, wherever they stand, say this
abbrev NodesSay : List PlainNode → List Content → Type 0
NodesSay nodes contents = (place : ℕ) → Say (all_elements (nodes_at place (nodes_of nodes))) contents

-- before some nodes stand those of an interval
interval_says : (i : ℕ) (nodes : List PlainNode) (contents : List Content) → IsSmall i → NodesSay nodes contents → NodesSay (interval_nodes i ++ nodes) (interval_contents i ++ contents)
interval_says i nodes contents small h = λ place.
    let second = place + size_of (event_node i) + size_of line_end in
    let rest = second + size_of (instance_node i) + size_of line_end in
    say_more tag.Event (tag_attributes place (codes "EVENT") (event_attributes i)) place (event_content i) _ (instance_content i ∷ contents) refl refl (refl, refl) (event_sound place i small)
    (say_more tag.MakeInstance (tag_attributes second (codes "MAKEINSTANCE") (instance_attributes i)) second (instance_content i) _ contents refl refl (refl, refl, refl, refl, refl, refl, refl) (instance_sound second i small) (h rest))

-- or those of a link
link_says : (link : DocLink) (nodes : List PlainNode) (contents : List Content) → HasSmallEnds link → NodesSay nodes contents → NodesSay (link_nodes link ++ nodes) (link_contents link ++ contents)
link_says link nodes contents ends h = λ place.
    let rest = place + size_of (link_node link) + size_of line_end in
    say_more tag.Tlink (tag_attributes place (codes "TLINK") (link_attributes link)) place (link_content link) _ contents refl refl
    (refl, refl, inl (refl, refl), relation_filled link.rel, inl (refl, refl)) (link_sound place link ends) (h rest)

-- the tag of the root says nothing
root_says : (place : ℕ) (tags : List PlainTag) (contents : List Content) → Say tags contents → Say (tag_at place tag.TimeMl [] ∷ tags) contents
root_says place tags contents h = record {
  typed = h.typed;
  types = record {
    sound = All-cons BreaksNoTagRule (tag_at place tag.TimeMl []) tags (sound_by tag.TimeMl [] place refl refl refl refl (λ b. false≢true (ap (λ (n : List ℕ). bytes_eq n (codes "TIMEX3")) b.0))) h.types.sound;
    typed_tags = typed_later (tag_at place tag.TimeMl []) tags h.typed (ap any_row (rows_known tag.TimeMl)) h.types.typed_tags;
  };
  contents_are = h.contents_are;
}

-- all tags of the tree break no rule, and this is what they say
pub tree_says : (numbers : List ℕ) (links : List DocLink) → AllByRecursion IsSmall numbers → AllByRecursion HasSmallEnds links → Say (elements (node_at 0 (root_of numbers links))) (contents_of numbers links)
tree_says numbers links small ends =
    let last : NodesSay [] [] = λ place. say_none in
    let later = after_both NodesSay HasSmallEnds link_nodes link_contents link_says links [] [] ends last in
    let whole = subst (λ (p : List PlainNode × List Content). NodesSay p.0 p.1) (λ k. (append-nil (flat_map link_nodes links) k, append-nil (flat_map link_contents links) k)) later in
    let inside = after_both NodesSay IsSmall interval_nodes interval_contents interval_says numbers (flat_map link_nodes links) (flat_map link_contents links) small whole in
    root_says 0 _ (contents_of numbers links) (inside _)
