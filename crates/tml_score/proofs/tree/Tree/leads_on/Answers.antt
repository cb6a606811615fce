use Rattle.std.proofs.Common.{◌≡◌, ◌∙◌, length, slice_index, sym, subst, arith}
use Rattle.std.proofs.lemmas.Bool.{OnTrue_at, OnTrue_from}
use Rattle.tml_score.specs.Ends.{far_end_of}
use Rattle.tml_score.specs.Search.{basis_of}
use Rattle.tml_score.specs.Tree.{IsCovered, LeadsOn}
use Rattle.tml_score.proofs.Spreading.{marked_link}
use Rattle.tml_score.proofs.TieLaws.{far_within, near_within}
use Rattle.tml_score.proofs.TreeLaws.{covered_by_all}
use Rattle.tml_score.proofs.tree.Tree.leads_on.Goals as goal

pub root-requires : goal.root-requires
root-requires c = omega (arith, near_within (basis_of c.args.kept.now) c.requires.ready c.args.self.now.near c.args.order.now c.requires.order, c.point-near.ensures, c.requires.ties.roots)

pub root-requires-2 : goal.root-requires-2
root-requires-2 c = omega (arith, far_within (basis_of c.args.kept.now) c.requires.ready c.args.self.now.near c.args.order.now c.requires.order, c.across-far.ensures, c.requires.ties.roots)

pub has-requires : goal.has-requires
has-requires c = marked_link (basis_of c.args.kept.now) c.requires.ready c.args.order.now c.requires.order

pub covers-requires-clause-turns : goal.covers-requires-clause-turns
covers-requires-clause-turns c = omega (arith, far_within (basis_of c.args.kept.now) c.requires.ready c.args.self.now.near c.args.order.now c.requires.order, c.across-far.ensures, c.requires.tree.turns)

pub covers-requires-clause-roots : goal.covers-requires-clause-roots
covers-requires-clause-roots c = omega (arith, far_within (basis_of c.args.kept.now) c.requires.ready c.args.self.now.near c.args.order.now c.requires.order, c.across-far.ensures, c.requires.ties.roots)

pub covers-requires-2-clause-turns : goal.covers-requires-2-clause-turns
covers-requires-2-clause-turns c = omega (arith, near_within (basis_of c.args.kept.now) c.requires.ready c.args.self.now.near c.args.order.now c.requires.order, c.point-near.ensures, c.requires.tree.turns)

pub covers-requires-2-clause-roots : goal.covers-requires-2-clause-roots
covers-requires-2-clause-roots c = omega (arith, near_within (basis_of c.args.kept.now) c.requires.ready c.args.self.now.near c.args.order.now c.requires.order, c.point-near.ensures, c.requires.ties.roots)

pub returns : goal.returns
returns c =
    let basis = basis_of c.args.kept.now in
    let roots = c.args.ties.now.roots.items in
    let tree = c.args.self.now in
    let o = c.args.order.now in
    let same : slice_index roots c.point-near.result ≡ slice_index roots c.across-far.result = sym c.root.ensures ∙ c.if-root.false ∙ c.root-2.ensures in
    OnTrue_from _ (LeadsOn basis roots tree o) (λ is. record {
      covered = subst (IsCovered roots tree (length tree.orders.items)) c.point-near.ensures (covered_by_all roots tree c.len-turns.result c.point-near.result (OnTrue_at is c.covers-2.ensures));
      one_root = subst (λ x. slice_index roots x ≡ slice_index roots (far_end_of tree.near o)) c.point-near.ensures (subst (λ y. slice_index roots c.point-near.result ≡ slice_index roots y) c.across-far.ensures same);
      kept = sym c.has.ensures ∙ c.if-not-has.false;
    })
