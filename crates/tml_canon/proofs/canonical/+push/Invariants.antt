use Rattle.std.proofs.Common.{◌≡◌, ◌++◌, drop}
use Rattle.std.specs.Prelude.{codes}
use Rattle.tml_canon.proofs.Pushing.{children_text, tag_opening}
use Rattle.tml_canon.proofs.canonical.+push.Given as goal

-- the children that are left are still to be put last
abbrev pub invariant-push_tag-loop-node : goal.invariant-push_tag-loop-node
invariant-push_tag-loop-node l = l.out.items ++ children_text (drop l.node-index l.children) ≡ (l.fn.out.items ++ tag_opening l.tag ++ codes ">") ++ children_text l.children
