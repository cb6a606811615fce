use Rattle.std.proofs.Common.{◌≡◌, ◌*◌, ℕ, Err, Ok, length, subst, arith}
use Rattle.net_core.specs.Atoms.{atoms_in}
use Rattle.net_core.specs.Fits.{KeepsLink}
use Rattle.net_core.specs.Nets.{intervals}
use Rattle.net_core.specs.Relations.{Timeline}
use Rattle.order_closure.specs.Counting.{before_count}
use Rattle.order_closure.specs.Tables.{AreInRange, SatisfiesAll, cell_at}
use Rattle.order_closure.proofs.Ranking.{counts_kept}
use Rattle.net_orders.specs.Steps.{AddsToTable}
use Rattle.net_orders.proofs.LinkAtoms.{link_said}
use Rattle.net_orders.proofs.Steps.{Below, adds_more, answer_same}
use Rattle.net_orders.proofs.links.add_links.Goals as goal

pub prove-unreachable-requires : goal.prove-unreachable-requires
prove-unreachable-requires c =
    c.if-prove.true (omega (arith, c.points.ensures.points, c.intervals.ensures.count, c.loop-link.invariant.so_far.0, c.requires))

pub add_atoms-requires : goal.add_atoms-requires
add_atoms-requires c =
    let same : 2 * intervals c.args.net.now ≡ c.loop-link.table.points = omega (arith, c.loop-link.invariant.so_far.0, c.requires) in
    subst (λ (n : ℕ). AreInRange n (atoms_in c.atoms_of_link.result)) same c.atoms_of_link.ensures.in_range

pub returns-in-Err-clause-err : goal.returns-in-Err-clause-err
returns-in-Err-clause-err c =
    let net = c.args.net.now in
    let now = c.loop-link.table in
    let k = c.loop-link.link in
    let Keeps = λ (j : ℕ) (t : Timeline). KeepsLink net t j in
    let t = before_count now.points (cell_at now) in
    let kept = (c.loop-link.invariant.so_far.1 t).0 (counts_kept now.points (cell_at now) c.points.ensures.closed) in
    record {
      link = omega (arith, c.loop-link-test.true, c.loop-link.invariant.end);
      before = (t, kept.0, kept.1);
      excluded = λ u kept before holds.
          answer_same (SatisfiesAll (atoms_in c.atoms_of_link.result)) (Keeps k) (link_said net k _ c.atoms_of_link.ensures.atoms) now c.add_atoms.new.table (Err c.in-Err.field-0) c.in-Err.ensures
          u ((c.loop-link.invariant.so_far.1 u).1 (kept, before)) holds;
    }

pub loop-link-preserved : goal.loop-link-preserved
loop-link-preserved c =
    let net = c.args.net.now in
    let Keeps = λ (j : ℕ) (t : Timeline). KeepsLink net t j in
    record {
      end = c.loop-link.invariant.end;
      so_far = adds_more Keeps c.loop-link.link c.args.table.now c.loop-link.table c.add_atoms.new.table c.loop-link.invariant.so_far
          (answer_same (SatisfiesAll (atoms_in c.atoms_of_link.result)) (Keeps c.loop-link.link) (link_said net c.loop-link.link _ c.atoms_of_link.ensures.atoms)
          c.loop-link.table c.add_atoms.new.table (Ok tt) c.in-Ok.ensures);
    }

pub returns-clause-ok : goal.returns-clause-ok
returns-clause-ok c =
    let end : c.loop-link.link ≡ length c.args.net.now.links = omega (arith, c.loop-link.invariant.end) in
    subst (λ (n : ℕ). AddsToTable (Below (λ k t. KeepsLink c.args.net.now t k) n) c.args.table.now c.loop-link.table) end c.loop-link.invariant.so_far
