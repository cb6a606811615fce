use Rattle.std.proofs.Common.{◌≡◌, Option, Some, None, List, [], map, length, IfSome, IsNone, MatchOption, arith}
use Rattle.std.specs.List.{filter}
use Rattle.std.proofs.lemmas.Grind.{common_steps}
use Rattle.tml_tree.specs.declared.builder.Builder.{Builder}
use Rattle.tml_tree.specs.declared.node.Tag.{Tag}
use Rattle.tml_span.specs.Units.{PlainUnit}
use Rattle.tml_tree.specs.Nesting.{is_element}
use Rattle.tml_tree.specs.Roots.{EndsIn}
use Rattle.tml_tree.specs.Taking.{HasBuilt}
use Rattle.tml_tree.specs.Trees.{Document, Unclosed}
use Rattle.tml_tree.specs.View.{node_of, tag_node}
use Rattle.tml_tree.proofs.Taken.{ends_open, ends_none, ends_whole}
use Rattle.tml_tree.proofs.builder.Builder.finish.Goals as goal

found : (o : Option Tag) (b : Builder) → length b.frames.items ≡ 0 → MatchOption o (filter is_element (map node_of b.nodes.items) ≡ []) (λ t. EndsIn (tag_node t) (filter is_element (map node_of b.nodes.items)))
    → IfSome o (λ t. (us : List PlainUnit) → HasBuilt us b → Document (tag_node t) us)
found None b e h = tt
found (Some t) b e h = λ us s. ends_whole us b (tag_node t) s e h

missed : (o : Option Tag) (b : Builder) → length b.frames.items ≡ 0 → MatchOption o (filter is_element (map node_of b.nodes.items) ≡ []) (λ t. EndsIn (tag_node t) (filter is_element (map node_of b.nodes.items)))
    → IsNone o → (us : List PlainUnit) → HasBuilt us b → Unclosed us
missed None b e h n = λ us s. ends_none us b s e h
missed (Some t) b e h n = absurd cc

pub returns-then-not-is_empty-clause-none : goal.returns-then-not-is_empty-clause-none
returns-then-not-is_empty-clause-none c = λ n us s. ends_open us c.args.self s (λ z. grind (arith, common_steps))

pub returns-clause-none : goal.returns-clause-none
returns-clause-none c = missed c.root_of.result c.args.self (grind (arith, common_steps)) c.root_of.ensures

pub returns-clause-some : goal.returns-clause-some
returns-clause-some c = found c.root_of.result c.args.self (grind (arith, common_steps)) c.root_of.ensures
