use Rattle.std.proofs.Common.{◌≡◌, List, Some, length, take, ap, sym, subst, ◌∙◌, arith}
use Rattle.std.specs.List.{AllByRecursion, slice_get}
use Rattle.std.proofs.lemmas.List.{take_all}
use Rattle.net_core.specs.Atoms.{Satisfies, atoms_of}
use Rattle.net_core.specs.declared.atom.Atom.{Atom}
use Rattle.net_core.proofs.AtomLaws.{atoms_say_the_relation}
use Rattle.tml_possible.proofs.Lists.{all_at, all_first, all_further}
use Rattle.tml_possible.proofs.timelines.raise.Goals as goal

pub unreachable-requires-in_default-add : goal.unreachable-requires-in_default-add
unreachable-requires-in_default-add c =
    let (t, kept, holds) = c.requires.can in
    let all = (atoms_say_the_relation t c.args.rel c.args.a c.args.b).0 holds in
    let atoms = atoms_of c.args.a c.args.rel c.args.b in
    let at : slice_get atoms c.loop-k.k ≡ Some c.in-Some.atom = subst (λ (orders : List Atom). slice_get orders c.loop-k.k ≡ Some c.in-Some.atom) c.loop-k.invariant.orders (sym c.atom.ensures ∙ c.in-Some.is) in
    c.in_default-add.ensures.denied t ((c.loop-k.invariant.kept t).1 (kept, all_first (Satisfies t) atoms c.loop-k.k all)) (all_at (Satisfies t) atoms c.loop-k.k c.in-Some.atom at all)

pub loop-k-preserved : goal.loop-k-preserved
loop-k-preserved c =
    let atoms = atoms_of c.args.a c.args.rel c.args.b in
    let k = c.loop-k.k in
    let atom = c.in-Some.atom in
    let at : slice_get atoms k ≡ Some atom = subst (λ (orders : List Atom). slice_get orders k ≡ Some atom) c.loop-k.invariant.orders (sym c.atom.ensures ∙ c.in-Some.is) in record {
      orders = c.loop-k.invariant.orders;
      points = c.add.ensures.points ∙ c.loop-k.invariant.points;
      kept = λ t.
          let more = all_further (Satisfies t) atoms k atom at in
          let here = c.in-Ok.ensures.kept t in
          let before = c.loop-k.invariant.kept t in (
            λ h. let both = here.0 h in let old = before.0 both.0 in (old.0, more.1 (old.1, both.1)),
            λ h. let both = more.0 h.1 in here.1 (before.1 (h.0, both.0), both.1),
          );
    }

pub returns-clause-kept : goal.returns-clause-kept
returns-clause-kept c = λ t.
    let atoms = atoms_of c.args.a c.args.rel c.args.b in
    let says = atoms_say_the_relation t c.args.rel c.args.a c.args.b in
    let kept = c.loop-k.invariant.kept t in
    let all : take c.loop-k.k atoms ≡ atoms = take_all c.loop-k.k atoms (omega (arith, c.loop-k-test.false, c.count-k-end.ensures.count, ap length c.loop-k.invariant.orders)) in (
      λ h. let both = kept.0 h in (both.0, says.1 (subst (AllByRecursion (Satisfies t)) all both.1)),
      λ h. kept.1 (h.0, subst (AllByRecursion (Satisfies t)) (sym all) (says.0 h.1)),
    )
