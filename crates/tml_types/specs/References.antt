-- The kind, the identifier and the references of what a tag says.
use Rattle.std.specs.Prelude.{ℕ, Bool, true, false, List, [], ◌∷◌, ◌++◌, codes, Option, Some, map}
use Rattle.std.specs.Option.{option_to_list}
use Rattle.tml_types.specs.declared.typed.TagKind.{TagKind}
use Rattle.tml_types.specs.declared.typed.TagKind.TheVariants as kind
use Rattle.tml_types.specs.Content.{Content, Reference, event, instance, timex, signal, tlink, alink, slink}

abbrev pub kind_of : Content → TagKind
kind_of (event e) = kind.Event
kind_of (instance i) = kind.Instance
kind_of (timex t) = kind.Timex
kind_of (signal s) = kind.Signal
kind_of (tlink l) = kind.Tlink
kind_of (alink l) = kind.Alink
kind_of (slink l) = kind.Slink

-- the name of the tags of a kind
abbrev pub tag_name : TagKind → List ℕ
tag_name kind.Event = codes "EVENT"
tag_name kind.Instance = codes "MAKEINSTANCE"
tag_name kind.Timex = codes "TIMEX3"
tag_name kind.Signal = codes "SIGNAL"
tag_name kind.Tlink = codes "TLINK"
tag_name kind.Alink = codes "ALINK"
tag_name kind.Slink = codes "SLINK"

-- the kinds in their order
abbrev pub rank_of : TagKind → ℕ
rank_of kind.Event = 0
rank_of kind.Instance = 1
rank_of kind.Timex = 2
rank_of kind.Signal = 3
rank_of kind.Tlink = 4
rank_of kind.Alink = 5
rank_of kind.Slink = 6

-- a tag is of this kind
abbrev pub is_of_kind : TagKind → Content → Bool
is_of_kind kind.Event (event e) = true
is_of_kind kind.Instance (instance i) = true
is_of_kind kind.Timex (timex t) = true
is_of_kind kind.Signal (signal s) = true
is_of_kind kind.Tlink (tlink l) = true
is_of_kind kind.Alink (alink l) = true
is_of_kind kind.Slink (slink l) = true
is_of_kind kind content = false

-- the identifier of a tag, where it has one
abbrev pub id_of : Content → Option (List ℕ)
id_of (event e) = Some e.eid
id_of (instance i) = Some i.eiid
id_of (timex t) = Some t.tid
id_of (signal s) = Some s.sid
id_of (tlink l) = l.lid
id_of (alink l) = l.lid
id_of (slink l) = l.lid

abbrev pub reference : TagKind → List ℕ → Reference
reference asked name = record { asked = asked; name = name }

-- a reference that a tag may leave out
abbrev pub optional_reference : TagKind → Option (List ℕ) → List Reference
optional_reference asked name = map (reference asked) (option_to_list name)

-- the references of a tag
abbrev pub references_of : Content → List Reference
references_of (event e) = []
references_of (instance i) = reference kind.Event i.event ∷ optional_reference kind.Signal i.signal
references_of (timex t) = optional_reference kind.Timex t.anchor ++ optional_reference kind.Timex t.begin ++ optional_reference kind.Timex t.finish
references_of (signal s) = []
references_of (tlink l) = l.left ∷ l.right ∷ optional_reference kind.Signal l.signal
references_of (alink l) = reference kind.Instance l.event ∷ reference kind.Instance l.related ∷ optional_reference kind.Signal l.signal
references_of (slink l) = reference kind.Instance l.subordinated ∷ optional_reference kind.Instance l.event ++ optional_reference kind.Signal l.signal
