use Rattle.std.proofs.Common.{◌≡◌, ℕ, ◌+◌, ◌<◌, Bool, true, false, slice_index_or, subst, sym, ◌∙◌, arith, inl, inr}
use Rattle.std.proofs.lemmas.Bool.{cases_lt}
use Rattle.net_core.specs.Nets.{PlainNet}
use Rattle.net_core.specs.Walks.{Kept}
use Rattle.clash.specs.Minimal.{IsMarkedWalk, IsSpared}
use Rattle.clash.specs.declared.closed_walk.ClosedWalk.{ClosedWalk}
use Rattle.clash.proofs.ClosedWalks.{kept_below, spared_fewer}
use Rattle.clash.proofs.closed_walk.thin.Goals as goal
use Rattle.clash.proofs.closed_walk.thin.Goals.{then-link-needed+then-index+in_ok-leave_out, else-link-needed, else-link-needed-via-then-link-needed+else-index, else-link-needed-via-else-link-needed}

-- a closed walk, a link that it needs, and those below n that it goes over and needs
abbrev Thinned : PlainNet → ℕ → ℕ → ClosedWalk → Type 0
Thinned net needed n closed =
    IsMarkedWalk net closed × IsSpared net (Kept closed.over.items) needed × ((k : ℕ) → k < n → Kept closed.over.items k → IsSpared net (Kept closed.over.items) k)

-- one link more, which is needed, or which the walk does not go over
one_more : (net : PlainNet) (needed n : ℕ) (closed : ClosedWalk) → Thinned net needed n closed → (Kept closed.over.items n → IsSpared net (Kept closed.over.items) n) → Thinned net needed (n + 1) closed
one_more net needed n closed thinned last = (
  thinned.0,
  thinned.1,
  λ k below kept. elim (cases_lt k n) [
    | inl less ↦ thinned.2 k less kept
    | inr here ↦
        let same : n ≡ k = omega (arith, below, here) in
        subst (IsSpared net (Kept closed.over.items)) same (last (subst (Kept closed.over.items) (sym same) kept))
  ],
)

pub loop-link-preserved : goal.loop-link-preserved
loop-link-preserved c =
    let net = c.args.net.now in
    let n = c.loop-link.link in
    let old = c.loop-link.invariant in
    let more : Thinned net c.args.needed (n + 1) c.if-link-needed.closed = elim c.if-link-needed.branch [
      | then-link-needed+then-index+in_ok-leave_out w ↦
          let new = w.leave_out.new.self in
          let fewer = w.in_ok-leave_out.ensures.fewer in
          let still = λ (k : ℕ). spared_fewer net (Kept c.loop-link.closed.over.items) (Kept new.over.items) k fewer in
          subst (Thinned net c.args.needed (n + 1)) (sym w.closed-is) (one_more net c.args.needed n new
          (w.in_ok-leave_out.ensures.closed, still c.args.needed old.spared, λ k less kept. still k (old.so_far k less (fewer k kept))) w.in_ok-leave_out.ensures.spared)
      | else-link-needed w ↦ subst (Thinned net c.args.needed (n + 1)) (sym w.closed-is) (elim w.else-link-needed.branch [
        | else-link-needed-via-then-link-needed+else-index w' ↦
            one_more net c.args.needed n c.loop-link.closed (old.closed, old.spared, old.so_far)
            (λ kept. absurd (let not = subst (λ (b : Bool). b ≡ slice_index_or c.loop-link.closed.over.items n b) w'.if-index.false w'.index.ensures in let both : false ≡ true = not ∙ kept in cc))
        | else-link-needed-via-else-link-needed w' ↦
            one_more net c.args.needed n c.loop-link.closed (old.closed, old.spared, old.so_far)
            (λ kept. subst (IsSpared net (Kept c.loop-link.closed.over.items)) (sym w'.if-link-needed.false) old.spared)
      ])
    ] in
    record { end = old.end; closed = more.0; spared = more.1; so_far = more.2 }

pub returns-clause-spared : goal.returns-clause-spared
returns-clause-spared c k kept =
    c.loop-link.invariant.so_far k (omega (arith, kept_below c.args.net.now c.loop-link.closed c.loop-link.invariant.closed k kept, c.loop-link-test.false, c.loop-link.invariant.end)) kept
