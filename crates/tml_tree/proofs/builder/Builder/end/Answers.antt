use Rattle.std.proofs.Common.{◌≡◌, ◌∷◌, ◌++◌, [], ap, ◌∙◌, arith}
use Rattle.std.proofs.lemmas.Grind.{common_steps}
use Rattle.tml_tree.specs.Building.{names_of}
use Rattle.tml_tree.proofs.Endings.{closed_is, ends_innermost}
use Rattle.tml_tree.proofs.Stacks.{frame_names_more}
use Rattle.tml_tree.proofs.builder.Builder.end.Goals as goal

pub returns-clause-ok : goal.returns-clause-ok
returns-clause-ok c =
    let frame = c.in-Some.frame in
    let rest = c.pop.new.self.items in
    let old : c.args.self.now.frames.items ≡ rest ++ frame ∷ [] = grind (arith, common_steps) in
    let names = c.requires ∙ ap names_of old ∙ frame_names_more rest frame in
    let passes = c.in_ok-end.ensures.ok in
    let same = ends_innermost c.args.self.now.nesting (names_of rest) _ c.args.name.now names passes.0 in
    (passes, closed_is _ rest frame _ _ _ _ old same (grind (arith, common_steps)))
