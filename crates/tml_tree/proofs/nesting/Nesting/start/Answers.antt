use Rattle.std.proofs.Common.{◌≡◌, false, [], ◌∷◌, ◌++◌, List, ℕ, sym, ap, subst, ◌∙◌, arith}
use Rattle.std.specs.List.{list_any}
use Rattle.std.proofs.lemmas.Grind.{common_steps}
use Rattle.tml_tree.specs.Judging.{OnlyInnermost, names_in}
use Rattle.tml_tree.specs.Rules.{History}
use Rattle.tml_tree.specs.TagNames.{is_link}
use Rattle.tml_tree.proofs.LinkTags.{outside}
use Rattle.tml_tree.proofs.Stacks.{names_more}
use Rattle.tml_tree.proofs.nesting.Nesting.start.Goals as goal

pub invariant_of-self-2 : goal.invariant_of-self-2
invariant_of-self-2 c =
    let items : c.push.new.self.items ≡ c.self.inside.open.items ++ c.in_ok-tag.tag ∷ [] = grind (arith, common_steps) in
    let no_link = subst (λ (h : History). list_any is_link h.names ≡ false) (sym c.self.view_is) (outside c.args.self.now c.args.name.now c.in_ok-tag.ensures.0) in
    subst (λ (ns : List (List ℕ)). OnlyInnermost ns) (sym (ap names_in items ∙ names_more c.self.inside.open.items c.in_ok-tag.tag)) no_link
