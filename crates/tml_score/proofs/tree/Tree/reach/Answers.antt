use Rattle.std.proofs.Common.{◌<◌, ℕ, IfSome, sym, subst, ◌∙◌, arith}
use Rattle.tml_score.specs.Search.{basis_of}
use Rattle.tml_score.proofs.Spreading.{marked_link}
use Rattle.tml_score.proofs.TieLaws.{far_within}
use Rattle.tml_score.proofs.TreeLaws.{taken_tree}
use Rattle.tml_score.proofs.tree.Tree.reach.Goals as goal

pub take-requires-clause-far : goal.take-requires-clause-far
take-requires-clause-far c = omega (arith, far_within (basis_of c.args.kept.now) c.requires.ready c.args.self.now.near c.args.order.now c.requires.order, c.requires.tree.turns)

pub take-requires-clause-link : goal.take-requires-clause-link
take-requires-clause-link c = subst (λ (n : ℕ). IfSome c.args.order.now.link (λ k. k < n)) (c.requires.ready.marks ∙ sym c.requires.tree.in_use) (marked_link (basis_of c.args.kept.now) c.requires.ready c.args.order.now c.requires.order)

pub returns : goal.returns
returns c =
    let basis = basis_of c.args.kept.now in
    let old = c.args.self.now in
    let o = c.args.order.now in
    let link = subst (λ (n : ℕ). IfSome o.link (λ k. k < n)) (c.requires.ready.marks ∙ sym c.requires.tree.in_use) (marked_link basis c.requires.ready o c.requires.order) in
    taken_tree basis c.args.ties.now.roots.items old.near old c.take.new.self o c.requires.tree c.if-not-leads_on.ensures c.requires.order link c.in_ok-take.ensures.near c.in_ok-take.ensures.turns c.in_ok-take.ensures.orders c.in_ok-take.ensures.in_use
