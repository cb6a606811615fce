use Rattle.std.proofs.Common.{◌≡◌, ℕ, true, false, List, get_or, sym, subst, arith, inl, inr}
use Rattle.std.specs.List.{Contains}
use Rattle.std.proofs.lemmas.Bool.{cases_lt}
use Rattle.std.proofs.lemmas.List.Elements.{All-contains}
use Rattle.std.proofs.lemmas.Option.{get_or_from_slice_get, slice_get_within}
use Rattle.net_orders.proofs.LinkAtoms.{link_said}
use Rattle.net_core.specs.Atoms.{Satisfies, atoms_in}
use Rattle.net_core.specs.declared.atom.Atom.{Atom}
use Rattle.tml_score.specs.Search.{Decides, basis_of}
use Rattle.tml_score.specs.declared.search.AskedOrder.{AskedOrder}
use Rattle.tml_score.proofs.reducing.link_follows.Goals as goal

pub loop-number-init : goal.loop-number-init
loop-number-init c = record { end = c.count-number-end.ensures.count; trees = c.in_ok-refresh.ensures; room = c.requires.room; hold = λ t fits k d lt. absurd (omega arith) }

pub order_follows-requires : goal.order_follows-requires
order_follows-requires c =
    let atoms = atoms_in c.atoms_of_link-atoms.result in
    let order = c.nth_order-order.result in
    let at : get_or atoms c.loop-number.number order ≡ order = get_or_from_slice_get atoms c.loop-number.number order order c.nth_order-order.ensures in
    let among : Contains atoms order = (c.loop-number.number, slice_get_within atoms c.loop-number.number order c.nth_order-order.ensures, at) in
    record {
      ready = c.requires.ready;
      asked = record { link = c.requires.link; kept = c.requires.kept; order = subst (λ (xs : List Atom). Contains xs order) c.atoms_of_link-atoms.ensures.atoms among };
      trees = c.loop-number.invariant.trees;
      room = c.loop-number.invariant.room;
    }

pub loop-number-preserved : goal.loop-number-preserved
loop-number-preserved c =
    let atoms = atoms_in c.atoms_of_link-atoms.result in
    let i = c.loop-number.number in
    let order = c.nth_order-order.result in
    let asked : AskedOrder = record { link = c.args.link; order = order } in
    let decides : Decides (basis_of c.args.kept.now) asked true = subst (Decides (basis_of c.args.kept.now) asked) c.if-not-branch.false c.in_ok-order_follows.ensures.decides in
    record {
      end = c.loop-number.invariant.end;
      trees = c.in_ok-order_follows.ensures.trees;
      room = c.in_ok-order_follows.ensures.room;
      hold = λ t fits k d less. elim (cases_lt k i) [
        | inl before ↦ c.loop-number.invariant.hold t fits k d before
        | inr last ↦
            let same : i ≡ k = omega (arith, last, less) in
            let at : get_or atoms i d ≡ order = get_or_from_slice_get atoms i order d c.nth_order-order.ensures in
            subst (λ (j : ℕ). Satisfies t (get_or atoms j d)) same (subst (Satisfies t) (sym at) (decides t fits))
      ];
    }

pub returns-then-not-branch : goal.returns-then-not-branch
returns-then-not-branch c =
    let net = c.args.kept.now.net.now in
    let link = c.args.link in
    let atoms = atoms_in c.atoms_of_link-atoms.result in
    let order = c.nth_order-order.result in
    let asked : AskedOrder = record { link = link; order = order } in
    let decides : Decides (basis_of c.args.kept.now) asked false = subst (Decides (basis_of c.args.kept.now) asked) c.if-not-branch.true c.in_ok-order_follows.ensures.decides in
    let at : get_or atoms c.loop-number.number order ≡ order = get_or_from_slice_get atoms c.loop-number.number order order c.nth_order-order.ensures in
    let among : Contains atoms order = (c.loop-number.number, slice_get_within atoms c.loop-number.number order c.nth_order-order.ensures, at) in
    record {
      decides = (
        decides.0,
        decides.1,
        λ holds. decides.2 (All-contains (Satisfies decides.0) atoms order ((link_said net link atoms c.atoms_of_link-atoms.ensures.atoms decides.0).1 holds) among),
      );
      trees = c.in_ok-order_follows.ensures.trees;
      room = c.in_ok-order_follows.ensures.room;
    }

pub returns : goal.returns
returns c =
    let atoms = atoms_in c.atoms_of_link-atoms.result in
    record {
      decides = λ t fits. (link_said c.args.kept.now.net.now c.args.link atoms c.atoms_of_link-atoms.ensures.atoms t).0
          (λ k d lt. c.loop-number.invariant.hold t fits k d (omega (arith, lt, c.loop-number.invariant.end, c.loop-number-test.false)));
      trees = c.loop-number.invariant.trees;
      room = c.loop-number.invariant.room;
    }
