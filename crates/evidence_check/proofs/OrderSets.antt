-- The orders of the links of a net, and the timelines that keep them.
use Rattle.std.proofs.Common.{◌≡◌, ◌↔◌, ℕ, ◌*◌, ◌+◌, ◌<◌, ◌≤◌, List, below_more, subst, sym, arith}
use Rattle.std.specs.List.{All}
use Rattle.std.proofs.lemmas.List.Elements.{All-from_recursion, recursion_from_All}
use Rattle.net_core.proofs.AtomLaws.{atoms_in_range, atoms_say_the_relation}
use Rattle.net_core.specs.Atoms.{IsInRange, Satisfies, atoms_of}
use Rattle.net_core.specs.Fits.{KeepsLink}
use Rattle.net_core.specs.Nets.{PlainNet, link_at}
use Rattle.net_core.specs.Relations.{Relates, Timeline}
use Rattle.net_core.specs.declared.atom.Atom.{Atom}
use Rattle.net_core.specs.declared.net.NetLink.{NetLink}
use Rattle.net_core.specs.declared.rels.Rel.{Rel}
use Rattle.evidence_check.specs.declared.orders.Orders.{Orders}
use Rattle.evidence_check.specs.Orders.{AreAtMost, KeepsLinksBelow}

-- there are no more than a greater number
pub few_up : (m n : ℕ) (orders : Orders) → m ≤ n → AreAtMost m orders → AreAtMost n orders
few_up m n orders le few = record { befores = omega (arith, few.befores); no_laters = omega (arith, few.no_laters); equals = omega (arith, few.equals) }

-- what is said otherwise
pub instead : (New Old A B : Type 0) → New ↔ (Old × A) → A ↔ B → New ↔ (Old × B)
instead New Old A B new same = (λ n. let h = new.0 n in (h.0, same.0 h.1), λ h. new.1 (h.0, same.1 h.1))

-- what is said by way of another
pub through : (A B C : Type 0) → A ↔ B → B ↔ C → A ↔ C
through A B C ab bc = (λ a. bc.0 (ab.0 a), λ c. ab.1 (bc.1 c))

-- what is said in two steps
pub in_steps : (New Mid Old More Last All : Type 0) → New ↔ (Mid × Last) → Mid ↔ (Old × More) → All ↔ (More × Last) → New ↔ (Old × All)
in_steps New Mid Old More Last All new mid all = (
  λ n. let h = new.0 n in let m = mid.0 h.0 in (m.0, all.1 (m.1, h.1)),
  λ h. let both = all.0 h.1 in new.1 (mid.1 (h.0, both.0), both.1),
)

-- a link that is read at a number
pub link_read : (net : PlainNet) (t : Timeline) (k : ℕ) (link : NetLink) → link ≡ link_at net k → Relates t link.a link.rel link.b ↔ KeepsLink net t k
link_read net t k link is = subst (λ (l : NetLink). Relates t link.a link.rel link.b ↔ Relates t l.a l.rel l.b) is (λ h. h, λ h. h)

-- the orders of a relation are those that it says
pub atoms_kept : (t : Timeline) (r : Rel) (a b : ℕ) (atoms : List Atom) → atoms ≡ atoms_of a r b → All (Satisfies t) atoms ↔ Relates t a r b
atoms_kept t r a b atoms are = subst (λ (l : List Atom). All (Satisfies t) l ↔ Relates t a r b) (sym are) (
  λ all. (atoms_say_the_relation t r a b).1 (recursion_from_All (Satisfies t) (atoms_of a r b) all),
  λ h. All-from_recursion (Satisfies t) (atoms_of a r b) ((atoms_say_the_relation t r a b).0 h),
)

-- and they are of the points of their intervals
pub atoms_within : (n : ℕ) (r : Rel) (a b : ℕ) (atoms : List Atom) → atoms ≡ atoms_of a r b → a < n → b < n → All (IsInRange (2 * n)) atoms
atoms_within n r a b atoms are la lb = subst (All (IsInRange (2 * n))) (sym are) (All-from_recursion (IsInRange (2 * n)) (atoms_of a r b) (atoms_in_range n r a b la lb))

-- one link more
pub links_more : (net : PlainNet) (t : Timeline) (k : ℕ) (New Old : Type 0) → New ↔ (Old × KeepsLink net t k) → Old ↔ KeepsLinksBelow net k t → New ↔ KeepsLinksBelow net (k + 1) t
links_more net t k New Old new old = (
  λ n. let h = new.0 n in below_more (KeepsLink net t) k (old.0 h.0) h.1,
  λ all. new.1 (old.1 (λ j below. all j (omega (arith, below))), all k (omega arith)),
)
