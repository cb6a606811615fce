-- What is true of canonical texts.
use Rattle.std.specs.Prelude.{◌≡◌, ◌↔◌, List, ℕ}
use Rattle.tml_accept.specs.Acceptance.{TreeSays}
use Rattle.tml_refs.specs.Documents.{PlainDocument}
use Rattle.tml_tree.specs.Plain.{PlainNode}
use Rattle.tml_tree.specs.Whole.{IsTreeOf}
use Rattle.tml_tree.specs.Written.{node_at}
use Rattle.tml_canon.specs.Canonical.{canonical, canonical_text}
use Rattle.tml_canon.specs.Same.{Same}

-- the tree of the canonical text of a root
abbrev pub canonical_tree : PlainNode → PlainNode
canonical_tree root = node_at 0 (canonical root)

-- the canonical text of the tree of a source has no fault of the cut and none of nesting, and this tree
abbrev pub CanonicalIsRead : Type 0
CanonicalIsRead = (source : List ℕ) (root : PlainNode) → IsTreeOf source root → IsTreeOf (canonical_text root) (canonical_tree root)

-- that tree is the same as the one that was written
abbrev pub CanonicalIsSame : Type 0
CanonicalIsSame = (root : PlainNode) → Same root (canonical_tree root)

-- a canonical text is its own canonical text
abbrev pub CanonicalIsItself : Type 0
CanonicalIsItself = (root : PlainNode) → canonical_text (canonical_tree root) ≡ canonical_text root

-- where those of a tree break no rule, those of its canonical text break none, and say the same
abbrev pub CanonicalSaysTheSame : Type 0
CanonicalSaysTheSame = (root : PlainNode) (contents : PlainDocument) → TreeSays root contents → TreeSays (canonical_tree root) contents

-- two trees whose attributes and references break no rule have one canonical text exactly where they are the same
abbrev pub OneCanonicalText : Type 0
OneCanonicalText = (source other : List ℕ) (root tree : PlainNode) (contents says : PlainDocument)
    → IsTreeOf source root → IsTreeOf other tree → TreeSays root contents → TreeSays tree says
    → (canonical_text root ≡ canonical_text tree) ↔ Same root tree
