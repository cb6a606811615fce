-- The document of a drill is accepted.
use Rattle.std.proofs.Common.{ℕ, ◌<◌, List, subst, arith}
use Rattle.std.specs.List.{range_with_len}
use Rattle.named.proofs.Lists.{each_weaker}
use Rattle.net_core.specs.Limits.{max_intervals}
use Rattle.tml_tree.specs.Whole.{IsTreeOf}
use Rattle.tml_tree.specs.Written.{node_at}
use Rattle.tml_tree.proofs.WrittenTrees.{written_is_read}
use Rattle.tml_accept.specs.Acceptance.{Says}
use Rattle.drill.specs.Laws.{DrillIsAccepted, IsDrill}
use Rattle.drill.specs.Numbers.{links_of}
use Rattle.drill.specs.Texts.{drill_contents, drill_document}
use Rattle.drill.proofs.AcceptedLinks.{HasEnds, links_end}
use Rattle.drill.proofs.AcceptedResolved.{resolved}
use Rattle.drill.proofs.AcceptedTags.{tree_says}
use Rattle.drill.proofs.AcceptedTree.{root_of, text_is}
use Rattle.drill.proofs.AcceptedWriting.{HasSmallEnds, root_stands, root_writable}
use Rattle.drill.proofs.Links.{few_links}
use Rattle.drill.proofs.Lists.{all_range}

-- it has a tree, its tags break no rule, and they say what was drawn
accepted : (n : ℕ) → IsDrill n → Says (drill_document n) (drill_contents n)
accepted n drill =
    let numbers = range_with_len 0 n in
    let links = links_of n in
    let ends = links_end n in
    let small = all_range (λ (i : ℕ). i < max_intervals) 0 n (λ i from below. omega arith) in
    let small_ends = each_weaker (HasEnds n) HasSmallEnds (λ l h. (omega arith, omega arith)) links ends in
    let says = tree_says numbers links small small_ends in
    let tree = subst (λ (bytes : List ℕ). IsTreeOf bytes (node_at 0 (root_of numbers links))) (text_is numbers links) (written_is_read (root_of numbers links) (root_stands numbers links) (root_writable numbers links small small_ends)) in (
      node_at 0 (root_of numbers links),
      (tree, (says.typed, says.types, resolved n links says.typed says.contents_are drill.1 (omega (arith, few_links n)) ends)),
    )

-- for each number of intervals
pub drill_is_accepted : DrillIsAccepted
drill_is_accepted = accepted
