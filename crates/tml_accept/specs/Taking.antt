-- Serves the code: a resolver that has taken the tags of a document.
use Rattle.std.specs.Prelude.{List, ℕ}
use Rattle.tml_tree.specs.Plain.{PlainNode}
use Rattle.tml_types.specs.Content.{PlainTyped}
use Rattle.tml_refs.specs.declared.resolver.Resolver.{Resolver}
use Rattle.tml_refs.specs.Taking.{HasTakenTags}
use Rattle.tml_accept.specs.Acceptance.{AreTypedTags}

-- all typed tags of a document were taken, none of which breaks a rule
abbrev pub HasTakenAll : List ℕ → Resolver → Type 0
HasTakenAll source r = (root : PlainNode) × (tags : List PlainTyped) × AreTypedTags source root tags × HasTakenTags tags r
