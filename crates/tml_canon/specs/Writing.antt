-- Serves the code: the canonical text of a document that is written unit by unit.
use Rattle.std.specs.Prelude.{◌≡◌, ◌≤◌, ℕ, Bool, true, false, List, [], ◌∷◌, ◌++◌, length, Some}
use Rattle.std.specs.List.{filter}
use Rattle.tml_span.specs.Units.{Kind, PlainUnit, start_tag}
use Rattle.tml_span.specs.Written.{unit_text, written}
use Rattle.tml_tree.specs.Judging.{HavePassed}
use Rattle.tml_tree.specs.Nesting.{OpenTag, is_element}
use Rattle.tml_tree.specs.Plain.{PlainNode, nodes_of, unit}
use Rattle.tml_tree.specs.Rules.{History}
use Rattle.tml_tree.specs.Stage.{Stage, step}
use Rattle.tml_tree.specs.Trees.{Document}
use Rattle.tml_tree.specs.Written.{all_kinds}
use Rattle.tml_canon.specs.declared.writer.Writer.{Writer}
use Rattle.tml_canon.specs.Canonical.{canonical_attributes, canonical_nodes, canonical_text, opening}

-- the canonical text of nodes that follow each other
abbrev pub canonical_nodes_text : List PlainNode → List ℕ
canonical_nodes_text nodes = written (all_kinds (canonical_nodes (nodes_of nodes)))

-- What is open, as far as it is written when something follows: the elements outside all tags, and for each open tag its start tag and the nodes after it.
abbrev pub open_text : List OpenTag → List PlainNode → List ℕ
open_text [] nodes = canonical_nodes_text (filter is_element nodes)
open_text (t ∷ tags) nodes = open_text tags t.before ++ unit_text (start_tag t.name (canonical_attributes t.attrs)) ++ canonical_nodes_text nodes

-- nothing follows the innermost open tag
abbrev pub ends_bare : List OpenTag → List PlainNode → Bool
ends_bare [] nodes = false
ends_bare (t ∷ tags) [] = true
ends_bare (t ∷ tags) (n ∷ nodes) = false

-- What is open, as far as it is written: a start tag that nothing follows has no `>`, since it may yet be an empty tag.
abbrev pub text_so_far : List OpenTag → List PlainNode → List ℕ
text_so_far [] nodes = open_text [] nodes
text_so_far (t ∷ tags) [] = open_text tags t.before ++ opening t.name (canonical_attributes t.attrs)
text_so_far (t ∷ tags) (n ∷ nodes) = open_text (t ∷ tags) (n ∷ nodes)

-- these open tags and nodes are written
pub record HasWritten (tags : List OpenTag) (nodes : List PlainNode) (w : Writer) : Type 0 where
  pub text : w.text.items ≡ text_so_far tags nodes
  pub depth : w.depth ≡ length tags
  pub is_bare : w.is_bare ≡ ends_bare tags nodes

-- the same where something follows
pub record HasClosedStart (tags : List OpenTag) (nodes : List PlainNode) (w : Writer) : Type 0 where
  pub text : w.text.items ≡ open_text tags nodes
  pub depth : w.depth ≡ length tags
  pub is_bare : w.is_bare ≡ false

-- where open tags and nodes are written, something may follow
abbrev pub Closes : Writer → Writer → Type 0
Closes old new = (tags : List OpenTag) (nodes : List PlainNode) → HasWritten tags nodes old → HasClosedStart tags nodes new

-- where open tags and nodes are written, those after one more unit are
abbrev pub Writes : Writer → Kind → Writer → Type 0
Writes old kind new = (tags : List OpenTag) (nodes : List PlainNode) (start end : ℕ) (s : Stage) → length s.tags ≤ 32 → step tags nodes (unit start end kind) ≡ Some s → HasWritten tags nodes old → HasWritten s.tags s.nodes new

-- units of which none breaks a rule, and of which this is known, are written
pub record HasWrittenUnits (us : List PlainUnit) (h : History) (w : Writer) : Type 0 where
  pub tags : List OpenTag
  pub nodes : List PlainNode
  pub passed : HavePassed us tags nodes h
  pub few : length tags ≤ 32
  pub written : HasWritten tags nodes w

-- where the units of a document are written, this is its canonical text
abbrev pub GivesText : Writer → List ℕ → Type 0
GivesText w text = (us : List PlainUnit) (h : History) (root : PlainNode) → HasWrittenUnits us h w → Document root us → text ≡ canonical_text root
