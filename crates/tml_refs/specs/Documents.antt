-- A document as a plain value, and what it says of its typed tags.
use Rattle.std.specs.Prelude.{◌≡◌, ◌≤◌, ◌<◌, ℕ, List, length, Option, Some, None}
use Rattle.std.specs.List.{AllZip, All, filter, filter_map, slice_get, count_by}
use Rattle.faults.specs.First.{NoneBreaks}
use Rattle.net_core.specs.Limits.{max_intervals, max_links}
use Rattle.timex_value.specs.declared.kinds.TimexKind.{TimexKind}
use Rattle.timex_value.specs.declared.kinds.Modifier.{Modifier}
use Rattle.timex_value.specs.declared.value.Value.{Value}
use Rattle.tml_types.specs.declared.typed.TagKind.{TagKind}
use Rattle.tml_types.specs.declared.typed.TagKind.TheVariants as kind
use Rattle.tml_types.specs.Content as content
use Rattle.tml_types.specs.Content.{PlainTyped, Reference}
use Rattle.tml_types.specs.References.{is_of_kind}
use Rattle.tml_refs.specs.declared.document.Counts.{Counts}
use Rattle.tml_refs.specs.declared.document.DocLink.{DocLink}
use Rattle.tml_refs.specs.Rules.{BreaksReferenceRule, is_tlink}

-- a time, by what its calendar interval depends on
pub record Time : Type 0 where
  pub name : List ℕ
  pub kind : TimexKind
  pub modifier : Option Modifier
  pub value : Option Value

-- an interval of time: an event instance, by its name, or a time
pub data PlainInterval : Type 0 where
  instance : List ℕ → PlainInterval
  time : Time → PlainInterval

-- a document: how many tags of each kind it has, its intervals and its links
pub record PlainDocument : Type 0 where
  pub counts : Counts
  pub intervals : List PlainInterval
  pub links : List DocLink

abbrev pub interval_name : PlainInterval → List ℕ
interval_name (instance name) = name
interval_name (time t) = t.name

-- the kind of tag that an interval is
abbrev pub kind_of : PlainInterval → TagKind
kind_of (instance name) = kind.Instance
kind_of (time t) = kind.Timex

-- the interval that a tag stands for
abbrev pub interval_of : PlainTyped → Option PlainInterval
interval_of t = elim t.content [
  | content.instance i ↦ Some (instance i.eiid)
  | content.timex x ↦ Some (time (record { name = x.tid; kind = x.kind; modifier = x.modifier; value = x.value }))
  | _ ↦ None
]

-- the intervals of some tags, in their order
abbrev pub intervals_of : List PlainTyped → List PlainInterval
intervals_of tags = filter_map interval_of tags

-- the interval of this number is what a reference asks for
pub record RefersTo (intervals : List PlainInterval) (r : Reference) (i : ℕ) : Type 0 where
  pub interval : PlainInterval
  pub at : slice_get intervals i ≡ Some interval
  pub kind : kind_of interval ≡ r.asked
  pub name : interval_name interval ≡ r.name

-- a link has the relation of a TLINK, between the intervals that the TLINK names
abbrev pub IsLinkOf : List PlainInterval → PlainTyped → DocLink → Type 0
IsLinkOf intervals t link = elim t.content [
  | content.tlink l ↦ RefersTo intervals l.left link.a × (link.rel ≡ l.rel) × RefersTo intervals l.right link.b
  | _ ↦ ⊥
]

-- how many tags there are of each kind
abbrev pub count_of : TagKind → List PlainTyped → ℕ
count_of k tags = count_by (λ (t : PlainTyped). is_of_kind k t.content) tags

abbrev pub counts_of : List PlainTyped → Counts
counts_of tags = record {
  events = count_of kind.Event tags;
  instances = count_of kind.Instance tags;
  timex = count_of kind.Timex tags;
  signals = count_of kind.Signal tags;
  tlinks = count_of kind.Tlink tags;
  alinks = count_of kind.Alink tags;
  slinks = count_of kind.Slink tags;
}

-- No tag of a document breaks a rule, and it has the intervals of its tags in order, a link for each TLINK in order, and the number of tags of each kind.
pub record Resolved (tags : List PlainTyped) (doc : PlainDocument) : Type 0 where
  pub sound : NoneBreaks (BreaksReferenceRule tags) tags
  pub intervals : doc.intervals ≡ intervals_of tags
  pub links : AllZip (IsLinkOf doc.intervals) (filter is_tlink tags) doc.links
  pub counts : doc.counts ≡ counts_of tags

-- the interval of this number has this name
abbrev pub IsNamed : List PlainInterval → List ℕ → ℕ → Type 0
IsNamed intervals name i = (v : PlainInterval) × (slice_get intervals i ≡ Some v) × (interval_name v ≡ name)

-- No two intervals have one name, the ends of links are intervals, and there are no more of both than the limits allow.
pub record IsDocument (doc : PlainDocument) : Type 0 where
  pub few_intervals : length doc.intervals ≤ max_intervals
  pub few_links : length doc.links ≤ max_links
  pub distinct : (name : List ℕ) (i j : ℕ) → IsNamed doc.intervals name i → IsNamed doc.intervals name j → i ≡ j
  pub ends : All (λ (l : DocLink). (l.a < length doc.intervals) × (l.b < length doc.intervals)) doc.links
