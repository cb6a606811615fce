use Rattle.std.proofs.Common.{◌≡◌, ℕ, List, Option, Some, true, sym, subst, ◌∙◌, arith, inl, inr}
use Rattle.std.specs.List.{slice_get}
use Rattle.std.specs.Option.{IfNone}
use Rattle.std.proofs.lemmas.Bool.{cases_lt}
use Rattle.std.proofs.lemmas.Option.{slice_get_within}
use Rattle.net_core.specs.Walks.{HasWalk, Kept}
use Rattle.net_core.specs.declared.atom.Atom.{Atom}
use Rattle.net_core.specs.declared.walk.Walk.{Walk}
use Rattle.clash.proofs.ClosedWalks.{orders_of_link, closed_walk_through}
use Rattle.clash.proofs.closed_walk.closed_walk_over.Goals as goal

pub loop-number-preserved : goal.loop-number-preserved
loop-number-preserved c =
    let net = c.args.net.now in
    let orders = orders_of_link net c.args.link in
    let Goes = λ (a : Atom). HasWalk net (Kept c.args.keep.now) a.from a.from true in
    let k = c.loop-number.number in
    let here : slice_get orders k ≡ Some c.nth_order-point.result = subst (λ (atoms : List Atom). slice_get atoms k ≡ Some c.nth_order-point.result) c.atoms_of_link-atoms.ensures.atoms c.nth_order-point.ensures in
    let not : Goes c.nth_order-point.result → ⊥ = subst (λ (o : Option Walk). IfNone o (Goes c.nth_order-point.result → ⊥)) c.in_default.is c.in_ok-steps.ensures.none in
    record {
      end = c.loop-number.invariant.end;
      none = λ i a below at goes. elim (cases_lt i k) [
        | inl less ↦ c.loop-number.invariant.none i a less at goes
        | inr last ↦
            let same : i ≡ k = omega (arith, below, last) in
            let is : a ≡ c.nth_order-point.result = let e = sym at ∙ (subst (λ (n : ℕ). slice_get orders n ≡ Some c.nth_order-point.result) (sym same) here) in cc in
            not (subst Goes is goes)
      ];
    }

pub returns-clause-none : goal.returns-clause-none
returns-clause-none c steps closed over =
    let net = c.args.net.now in
    let begun = closed_walk_through net (Kept c.args.keep.now) c.args.link steps closed over in
    let within = slice_get_within (orders_of_link net c.args.link) begun.0 begun.1 begun.2 in
    c.loop-number.invariant.none begun.0 begun.1 (omega (arith, within, c.loop-number-test.false, c.loop-number.invariant.end)) begun.2 begun.3
