-- Closed walks, and sets of links that they clash by.
use Rattle.std.proofs.Common.{◌≡◌, ◌↔◌, inl, inr, ℕ, zero, suc, ◌<◌, ◌≤◌, Bool, true, false, List, [], ◌∷◌, length, Some, slice_index_or, slice_set, refl, sym, ap, subst, arith}
use Rattle.std.specs.List.{Contains, slice_get}
use Rattle.std.proofs.lemmas.Bool.{cases_lt}
use Rattle.std.proofs.lemmas.Option.{get_or_from_slice_get, option_and_then_some}
use Rattle.net_core.specs.Atoms.{atoms_of}
use Rattle.net_core.specs.Clashes.{Clashes, Others}
use Rattle.net_core.specs.Fits.{EveryLink}
use Rattle.net_core.specs.Nets.{IsNet, PlainNet, link_at}
use Rattle.net_core.specs.Steps.{atom_of, link_of}
use Rattle.net_core.specs.Walks.{GoesOver, IsClosedWalk, HasWalk, Kept}
use Rattle.net_core.specs.declared.atom.Atom.{Atom}
use Rattle.net_core.specs.declared.net.NetLink.{NetLink}
use Rattle.net_core.specs.declared.rels.Rel.TheVariants as rel
use Rattle.net_core.specs.declared.step.Step.{Step}
use Rattle.net_core.specs.declared.step.Step.TheVariants.{Link, Span, Calendar}
use Rattle.net_core.proofs.StepLaws.{fits_fewer}
use Rattle.net_core.proofs.WalkLaws.{over_chosen, over_links, over_or_not, closed_walk_clashes, closed_walk_from, closed_walk_over, step_goes}
use Rattle.net_core.specs.Entailment.{HasTimelineWith}
use Rattle.clash.specs.Minimal.{Before, IsFirstClash, IsMarkedWalk, IsSpared, UpTo}
use Rattle.clash.specs.declared.closed_walk.ClosedWalk.{ClosedWalk}
use Rattle.clash.proofs.Complete.{fits_or_closed_walk}
use Rattle.clash.proofs.MarkedLinks.{kept_within}

-- ---- sets of links

pub spared_fewer : (net : PlainNet) (Chosen Fewer : ℕ → Type 0) (k : ℕ) → ((j : ℕ) → Fewer j → Chosen j) → IsSpared net Chosen k → IsSpared net Fewer k
spared_fewer net Chosen Fewer k fewer spared = (spared.0, fits_fewer net (Others Chosen k) (Others Fewer k) spared.0 (λ j lt other. (fewer j other.0, other.1)) spared.1)

-- ---- closed walks

-- a closed walk goes over a link where the others of its links do not clash
pub goes_over : (net : PlainNet) (Chosen : ℕ → Type 0) (k : ℕ) (steps : List Step) → IsSpared net Chosen k → IsClosedWalk net Chosen steps → GoesOver steps k
goes_over net Chosen k steps spared closed = elim (over_or_not steps k) [
  | inl over ↦ over
  | inr not ↦
      let others = closed_walk_over net Chosen (Others Chosen k) steps (λ j over. (over_chosen net Chosen steps closed.0 closed.0 j closed.1.0 over, λ e. not (subst (GoesOver steps) e over))) closed in
      absurd (closed_walk_clashes net (Others Chosen k) steps others spared.0 spared.1)
]

-- where no walk is closed over a link that is needed some timeline fits
pub no_closed_walk : (net : PlainNet) (keep : List Bool) (needed : ℕ) → IsNet net → IsSpared net (Kept keep) needed
    → ((steps : List Step) → IsClosedWalk net (Kept keep) steps → GoesOver steps needed → ⊥) → HasTimelineWith net (Kept keep)
no_closed_walk net keep needed is spared none = elim (fits_or_closed_walk net (λ k. slice_index_or keep k false) is) [
  | inl fits ↦ (fits.0, fits.1)
  | inr closed ↦ absurd (none closed.0 closed.1 (goes_over net (Kept keep) needed closed.0 spared closed.1))
]

-- where links clash, some walk is closed over one that is needed
pub not_none_closed_walk : (net : PlainNet) (keep : List Bool) (needed : ℕ) → IsNet net → IsSpared net (Kept keep) needed → Clashes net (Kept keep)
    → ((steps : List Step) → IsClosedWalk net (Kept keep) steps → GoesOver steps needed → ⊥) → ⊥
not_none_closed_walk net keep needed is spared clashes none = let fits = no_closed_walk net keep needed is spared none in clashes fits.0 fits.1

-- the orders that a link is
abbrev pub orders_of_link : PlainNet → ℕ → List Atom
orders_of_link net k = let link = link_at net k in atoms_of link.a link.rel link.b

-- a closed walk over a link can begin with one of its orders
pub closed_walk_through : (net : PlainNet) (Chosen : ℕ → Type 0) (k : ℕ) (steps : List Step) → IsClosedWalk net Chosen steps → GoesOver steps k
    → (i : ℕ) × (a : Atom) × (slice_get (orders_of_link net k) i ≡ Some a) × HasWalk net Chosen a.from a.from true
closed_walk_through net Chosen k steps closed (step, has, is) =
    let goes = step_goes net Chosen steps closed.0 closed.0 step closed.1.0 has in
    by_step step goes.0 goes.1.0 has is
  where
    by_step : (step : Step) (a : Atom) → atom_of net step ≡ Some a → Contains steps step → link_of step ≡ Some k
        → (i : ℕ) × (b : Atom) × (slice_get (orders_of_link net k) i ≡ Some b) × HasWalk net Chosen b.from b.from true
    by_step (Link j i) a at has is =
        let same : j ≡ k = cc in
        let here : slice_get (orders_of_link net j) i ≡ Some a =
        option_and_then_some (λ (l : NetLink). slice_get (atoms_of l.a l.rel l.b) i) (slice_get net.links j) a at (λ l found here.
        subst (λ (x : NetLink). slice_get (atoms_of x.a x.rel x.b) i ≡ Some a) (sym (get_or_from_slice_get net.links j l (record { a = 0; rel = rel.Before; b = 0 }) found)) here) in
        (i, a, subst (λ (n : ℕ). slice_get (orders_of_link net n) i ≡ Some a) same here, closed_walk_from net Chosen steps (Link j i) a closed has at)
    by_step (Span i) a at has is = absurd cc
    by_step (Calendar p q) a at has is = absurd cc

-- ---- closed walks with marks

module _ (net : PlainNet) where
  -- a walk is closed over the links that are marked, where those are the links that it goes over
  pub goes_from_marks : (walk : List Step) (marks : List Bool) → IsClosedWalk net EveryLink walk → ((k : ℕ) → k < length net.links → Kept marks k ↔ GoesOver walk k) → IsClosedWalk net (Kept marks) walk
  goes_from_marks walk marks goes over =
      closed_walk_over net EveryLink (Kept marks) walk (λ k gone. (over k (over_links net EveryLink walk goes.0 goes.0 k goes.1.0 gone)).1 gone) goes

  -- a mark is that of a link
  pub kept_below : (closed : ClosedWalk) → IsMarkedWalk net closed → (k : ℕ) → Kept closed.over.items k → k < length net.links
  kept_below closed whole k kept = omega (arith, kept_within closed.over.items k kept, whole.size)

  -- a marked link is one that the walk goes over, and so one of any set that the walk goes over
  pub marked_chosen : (Chosen : ℕ → Type 0) (closed : ClosedWalk) → IsMarkedWalk net closed → IsClosedWalk net Chosen closed.walk → (k : ℕ) → Kept closed.over.items k → Chosen k
  marked_chosen Chosen closed whole goes k kept = over_chosen net Chosen closed.walk goes.0 goes.0 k goes.1.0 ((whole.over k (kept_below closed whole k kept)).0 kept)

-- a mark that is taken away and set again is as it was
pub set_again : (marks : List Bool) (k : ℕ) → Kept marks k → slice_set (slice_set marks k false) k true ≡ marks
set_again [] k kept = absurd cc
set_again (mark ∷ marks) zero kept = ap (λ (b : Bool). b ∷ marks) (sym kept)
set_again (mark ∷ marks) (suc k) kept = ap (λ (more : List Bool). mark ∷ more) (set_again marks k kept)

-- the others are marked where one mark is taken away
pub set_others : (marks : List Bool) (k j : ℕ) → Kept (slice_set marks k false) j → Others (Kept marks) k j
set_others [] k j kept = absurd cc
set_others (mark ∷ marks) zero zero kept = absurd cc
set_others (mark ∷ marks) zero (suc j) kept = (kept, λ e. cc)
set_others (mark ∷ marks) (suc k) zero kept = (kept, λ e. cc)
set_others (mark ∷ marks) (suc k) (suc j) kept = let other = set_others marks k j kept in (other.0, λ e. other.1 (omega arith))

pub others_set : (marks : List Bool) (k j : ℕ) → Others (Kept marks) k j → Kept (slice_set marks k false) j
others_set [] k j other = absurd (let e = other.0 in cc)
others_set (mark ∷ marks) zero zero other = absurd (other.1 refl)
others_set (mark ∷ marks) zero (suc j) other = other.0
others_set (mark ∷ marks) (suc k) zero other = other.0
others_set (mark ∷ marks) (suc k) (suc j) other = others_set marks k j (other.0, λ e. other.1 (omega arith))

-- ---- the first link that clashes with those before it

module _ (net : PlainNet) (link : ℕ) (keep : List Bool) (size : length keep ≡ length net.links) (kept : (k : ℕ) → k < length net.links → Kept keep k ↔ UpTo link k) (first : IsFirstClash net link) where
  -- that link is needed
  pub first_spared : IsSpared net (Kept keep) link
  first_spared = (first.before.0, fits_fewer net (Before link) (Others (Kept keep) link) first.before.0 (λ k below other. under k ((kept k below).0 other.0) other.1) first.before.1)
    where
      under : (k : ℕ) → k ≤ link → ¬ (k ≡ link) → k < link
      under k le other = elim (cases_lt k link) [
        | inl less ↦ less
        | inr not ↦ absurd (other (omega (arith, le, not)))
      ]

  -- and some walk is closed over it
  pub first_clashes : Clashes net (Kept keep)
  first_clashes t fits = first.clashes t (fits_fewer net (Kept keep) (UpTo link) t (λ k below up_to. (kept k below).1 up_to) fits)
