-- What a typed tag says of a tag.
use Rattle.std.specs.Prelude.{◌≡◌, ◌⊎◌, ℕ, List, codes, Option, Some, None, option_map}
use Rattle.net_core.specs.Rels.{rel_text}
use Rattle.timex_value.specs.Kinds.{kind_text, modifier_text}
use Rattle.timex_value.specs.Values.{ValueOf}
use Rattle.timex_value.specs.declared.value.Value.{Value}
use Rattle.tml_span.specs.Units.{Attribute}
use Rattle.tml_tree.specs.Walking.{PlainTag}
use Rattle.tml_types.specs.declared.typed.TagKind.TheVariants as kind
use Rattle.tml_types.specs.Content.{Content, PlainTyped, Reference, event, instance, timex, signal, tlink, alink, slink}
use Rattle.tml_types.specs.Listed as listed
use Rattle.tml_types.specs.References.{kind_of, tag_name}
use Rattle.tml_types.specs.Values.{truth_text, value_of}

-- of a pair of attributes one is there, and refers to an instance or to a time
abbrev pub EndOf : List Attribute → List ℕ → List ℕ → Reference → Type 0
EndOf attrs name other end =
    ((end.asked ≡ kind.Instance) × (value_of name attrs ≡ Some end.name))
    ⊎ ((end.asked ≡ kind.Timex) × (value_of other attrs ≡ Some end.name))

-- the value of a time is what its text stands for, and none where that is absent
abbrev pub IsValueOf : Option (List ℕ) → Option Value → Type 0
IsValueOf None None = Unit {0}
IsValueOf (Some text) (Some value) = ValueOf text value
IsValueOf text value = ⊥

-- each field is the value of its attribute, and none where that is absent
abbrev pub HasFields : List Attribute → Content → Type 0
HasFields attrs (event e) =
    (value_of (codes "eid") attrs ≡ Some e.eid)
    × (value_of (codes "class") attrs ≡ Some (listed.class_text e.class))
HasFields attrs (instance i) =
    (value_of (codes "eiid") attrs ≡ Some i.eiid)
    × (value_of (codes "eventID") attrs ≡ Some i.event)
    × (value_of (codes "signalID") attrs ≡ i.signal)
    × (value_of (codes "tense") attrs ≡ option_map listed.tense_text i.tense)
    × (value_of (codes "aspect") attrs ≡ option_map listed.aspect_text i.aspect)
    × (value_of (codes "pos") attrs ≡ option_map listed.pos_text i.pos)
    × (value_of (codes "polarity") attrs ≡ option_map listed.polarity_text i.polarity)
HasFields attrs (timex t) =
    (value_of (codes "tid") attrs ≡ Some t.tid)
    × (value_of (codes "type") attrs ≡ Some (kind_text t.kind))
    × IsValueOf (value_of (codes "value") attrs) t.value
    × (value_of (codes "mod") attrs ≡ option_map modifier_text t.modifier)
    × (value_of (codes "functionInDocument") attrs ≡ option_map listed.function_text t.function)
    × (value_of (codes "temporalFunction") attrs ≡ option_map truth_text t.temporal)
    × (value_of (codes "anchorTimeID") attrs ≡ t.anchor)
    × (value_of (codes "beginPoint") attrs ≡ t.begin)
    × (value_of (codes "endPoint") attrs ≡ t.finish)
HasFields attrs (signal s) = value_of (codes "sid") attrs ≡ Some s.sid
HasFields attrs (tlink l) =
    (value_of (codes "lid") attrs ≡ l.lid)
    × (value_of (codes "signalID") attrs ≡ l.signal)
    × EndOf attrs (codes "eventInstanceID") (codes "timeID") l.left
    × (value_of (codes "relType") attrs ≡ Some (rel_text l.rel))
    × EndOf attrs (codes "relatedToEventInstance") (codes "relatedToTime") l.right
HasFields attrs (alink l) =
    (value_of (codes "lid") attrs ≡ l.lid)
    × (value_of (codes "signalID") attrs ≡ l.signal)
    × (value_of (codes "eventInstanceID") attrs ≡ Some l.event)
    × (value_of (codes "relatedToEventInstance") attrs ≡ Some l.related)
    × (value_of (codes "relType") attrs ≡ Some (listed.aspect_rel_text l.rel))
HasFields attrs (slink l) =
    (value_of (codes "lid") attrs ≡ l.lid)
    × (value_of (codes "signalID") attrs ≡ l.signal)
    × (value_of (codes "eventInstanceID") attrs ≡ l.event)
    × (value_of (codes "subordinatedEventInstance") attrs ≡ Some l.subordinated)
    × (value_of (codes "relType") attrs ≡ Some (listed.sub_rel_text l.rel))

-- a typed tag stands where the tag begins, has its kind, and says what its attributes say
pub record TypedAs (tag : PlainTag) (t : PlainTyped) : Type 0 where
  pub place : t.place ≡ tag.place
  pub name : tag.name ≡ tag_name (kind_of t.content)
  pub fields : HasFields tag.attrs t.content
