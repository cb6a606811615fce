use Rattle.std.proofs.Common.{◌≡◌, List, length, sym, subst, arith}
use Rattle.net_core.specs.Atoms.{atoms_in}
use Rattle.net_core.specs.Nets.{points}
use Rattle.net_core.specs.declared.atom.Atom.{Atom}
use Rattle.order_closure.specs.Tables.{AreInRange, SatisfiesAll}
use Rattle.net_orders.proofs.LinkAtoms.{link_said}
use Rattle.net_orders.proofs.Ordered.{link_more}
use Rattle.net_orders.proofs.orders.all_orders.Goals as goal

pub loop-link-init : goal.loop-link-init
loop-link-init c =
    let net = c.args.net.now in
    let same = c.in_ok-orders.ensures.items in
    record {
      end = c.links-link-end.ensures.count;
      in_range = subst (AreInRange (points net)) (sym same) c.requires.in_range;
      exact = λ t. (
        λ all. (subst (λ (xs : List Atom). SatisfiesAll xs t) same all, λ j lt. absurd (omega arith)),
        λ both. subst (λ (xs : List Atom). SatisfiesAll xs t) (sym same) both.0,
      );
    }

pub loop-link-preserved : goal.loop-link-preserved
loop-link-preserved c =
    let net = c.args.net.now in
    let atoms = atoms_in c.atoms_of_link.result in
    let both = link_more net (points net) c.loop-link.link c.args.fixed.now c.loop-link.orders.items atoms c.push_atoms.new.orders.items c.in_ok-push_atoms.ensures c.atoms_of_link.ensures.in_range
    (link_said net c.loop-link.link atoms c.atoms_of_link.ensures.atoms) c.loop-link.invariant.in_range c.loop-link.invariant.exact in
    record { end = c.loop-link.invariant.end; in_range = both.0; exact = both.1 }

pub returns-clause-exact : goal.returns-clause-exact
returns-clause-exact c t =
    let net = c.args.net.now in
    let end : c.loop-link.link ≡ length net.links = omega (arith, c.loop-link.invariant.end, c.loop-link-test.false) in
    let exact = c.loop-link.invariant.exact t in
    let fixed = c.requires.exact t in (
      λ all.
          let both = exact.0 all in
          let first = fixed.0 both.0 in
          record { order = first.0; links = λ k lt any. both.1 k (omega arith); calendar = first.1 },
      λ fits. exact.1 (fixed.1 (fits.order, fits.calendar), λ k lt. fits.links k (omega arith) tt),
    )
