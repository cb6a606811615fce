-- Every document is accepted or has a first fault.
use Rattle.std.proofs.Common.{inl, inr, ℕ, List}
use Rattle.tml_tree.specs.Plain.{PlainNode}
use Rattle.tml_tree.specs.Walking.{elements}
use Rattle.tml_tree.specs.Whole.{IsTreeOf}
use Rattle.tml_tree.proofs.Judged.{every_source}
use Rattle.tml_types.specs.Answers.{TypedOrFault}
use Rattle.tml_types.proofs.TypedOrFault.{typed_or_fault}
use Rattle.tml_refs.proofs.DocumentOrFault.{all_are_resolved}
use Rattle.tml_accept.specs.Acceptance.{AcceptedOrFault}

-- a document that has a tree
of_tree : (doc : List ℕ) (root : PlainNode) → IsTreeOf doc root → TypedOrFault (elements root) → AcceptedOrFault doc
of_tree doc root tree (inr fault) = inr (fault.1, fault.0, inr (inl (root, tree, fault.2)))
of_tree doc root tree (inl typed) = elim (all_are_resolved (elements root) typed.0 typed.1) [
  | inl contents ↦ inl (contents.0, (root, (tree, (typed.0, typed.1, contents.1))))
  | inr fault ↦ inr (fault.1, fault.0, inr (inr (root, typed.0, (tree, typed.1), fault.2)))
]

pub every_document : (doc : List ℕ) → AcceptedOrFault doc
every_document doc = elim (every_source doc) [
  | inl tree ↦ of_tree doc tree.0 tree.1 (typed_or_fault (elements tree.0))
  | inr fault ↦ inr (fault.1, fault.0, inl fault.2)
]
