-- The orders of a net.
use Rattle.std.proofs.Common.{◌≡◌, ◌↔◌, ◌⊎◌, inl, inr, ℕ, ◌+◌, ◌<◌, Bool, true, false, List, [], length, get_or, Option, Some, None, refl, sym, ap, subst, ◌∙◌, arith}
use Rattle.std.specs.List.{Contains}
use Rattle.std.specs.List.Sorted.{IsPermutation}
use Rattle.std.proofs.lemmas.Bool.{cases_lt}
use Rattle.std.proofs.lemmas.List.Elements.{All-contains, All-from_recursion, All-get_or, Contains-get_or}
use Rattle.std.proofs.lemmas.List.{get_or_default}
use Rattle.std.proofs.lemmas.List.Sorted.{Contains-permutation, IsPermutation-sym}
use Rattle.net_orders.specs.declared.orders.Order.{Order}
use Rattle.net_orders.proofs.LinkAtoms.{link_said}
use Rattle.net_core.specs.Atoms.{IsInRange, Satisfies}
use Rattle.net_core.specs.Fits.{FitsWith}
use Rattle.net_core.specs.Nets.{IsNet, PlainNet, link_at, points}
use Rattle.net_core.specs.Relations.{Timeline}
use Rattle.net_core.specs.declared.atom.Atom.{Atom}
use Rattle.net_core.specs.declared.net.NetLink.{NetLink}
use Rattle.net_core.specs.declared.rels.Rel.TheVariants as rel
use Rattle.net_core.proofs.AtomLaws.{atoms_in_range}
use Rattle.clash.proofs.Elements.{every}
use Rattle.tml_score.specs.Ends.{point_at_end}
use Rattle.tml_score.specs.Graph.{AddsOrders, HasAllOrders, AreOfPoint, AreAllOrders, IsFixedOrder, IsGraphOf, IsOfSome, by_end, counts, link_atoms}
use Rattle.tml_score.specs.declared.ends.End.{End}
use Rattle.tml_score.specs.declared.ends.End.TheVariants.{From, To}
use Rattle.tml_score.specs.declared.graph.Graph.{Graph}

-- ---- lists of orders

-- nothing is added of a set with nothing in it
pub adds_none : (Listed : Order → Type 0) (orders : List Order) → ((o : Order) → Listed o → ⊥) → AddsOrders Listed orders orders
adds_none Listed orders none o = (λ h. inl h, λ h. elim h [ inl old ↦ old | inr new ↦ absurd (none o new) ])

-- one set, and then another one
pub adds_then : (P Q R : Order → Type 0) (old mid new : List Order) → ((o : Order) → R o ↔ (P o ⊎ Q o)) → AddsOrders P old mid → AddsOrders Q mid new → AddsOrders R old new
adds_then P Q R old mid new both first second o = (
  λ h. elim ((second o).0 h) [
    | inl was ↦ elim ((first o).0 was) [ inl before ↦ inl before | inr p ↦ inr ((both o).1 (inl p)) ]
    | inr q ↦ inr ((both o).1 (inr q))
  ],
  λ h. elim h [
    | inl was ↦ (second o).1 (inl ((first o).1 (inl was)))
    | inr r ↦ elim ((both o).0 r) [ inl p ↦ (second o).1 (inl ((first o).1 (inr p))) | inr q ↦ (second o).1 (inr q) ]
  ],
)

-- two sets that are the same
pub adds_same : (P Q : Order → Type 0) (old new : List Order) → ((o : Order) → P o ↔ Q o) → AddsOrders P old new → AddsOrders Q old new
adds_same P Q old new same adds o = (
  λ h. elim ((adds o).0 h) [ inl was ↦ inl was | inr p ↦ inr ((same o).0 p) ],
  λ h. elim h [ inl was ↦ (adds o).1 (inl was) | inr q ↦ (adds o).1 (inr ((same o).1 q)) ],
)

-- those of the first n of some sets
abbrev pub OfFirst : (ℕ → Order → Type 0) → ℕ → Order → Type 0
OfFirst Listed n o = (k : ℕ) × (k < n) × Listed k o

pub of_first_more : (Listed : ℕ → Order → Type 0) (n : ℕ) (o : Order) → OfFirst Listed (n + 1) o ↔ (OfFirst Listed n o ⊎ Listed n o)
of_first_more Listed n o = (
  λ h. elim (cases_lt h.0 n) [
    | inl before ↦ inl (h.0, before, h.2)
    | inr last ↦ let same : h.0 ≡ n = let lt = h.1 in omega arith in inr (subst (λ (k : ℕ). Listed k o) same h.2)
  ],
  λ h. elim h [
    | inl before ↦ (before.0, let lt = before.1 in omega arith, before.2)
    | inr last ↦ (n, omega arith, last)
  ],
)

-- an order of a list of orders of points, at its number
abbrev pub IsAt : List Atom → Option ℕ → ℕ → Order → Type 0
IsAt atoms link k o = (k < length atoms) × (o ≡ record { atom = get_or atoms k (record { from = 0; to = 0; strict = false }); link = link })

pub all_at : (atoms : List Atom) (link : Option ℕ) (o : Order) → OfFirst (IsAt atoms link) (length atoms) o ↔ ((o.link ≡ link) × Contains atoms o.atom)
all_at atoms link o = (
  λ h. let is = h.2.1 in (ap (λ (x : Order). x.link) is, subst (λ (x : Order). Contains atoms x.atom) (sym is) (Contains-get_or atoms h.0 (record { from = 0; to = 0; strict = false }) h.1)),
  λ h.
      let (k, lt, e) = h.1 in
      let same : get_or atoms k (record { from = 0; to = 0; strict = false }) ≡ o.atom = get_or_default atoms k (record { from = 0; to = 0; strict = false }) o.atom lt ∙ e in
      (k, lt, (lt, λ i. record { atom = sym same i; link = h.0 i })),
)

-- all orders
pub all_added : (net : PlainNet) (fixed : List Atom) (old mid new : List Order) → old ≡ [] → AddsOrders (IsFixedOrder fixed) old mid → AddsOrders (IsOfSome net) mid new → HasAllOrders net fixed new
all_added net fixed old mid new empty first second o = (
  λ h. elim ((second o).0 h) [
    | inl was ↦ elim ((first o).0 was) [
      | inl before ↦ let none : length old ≡ 0 = ap length empty in let lt = before.1 in absurd (omega arith)
      | inr is ↦ inl is
    ]
    | inr is ↦ inr is
  ],
  λ h. elim h [ inl is ↦ (second o).1 (inl ((first o).1 (inr is))) | inr is ↦ (second o).1 (inr is) ],
)

-- the same orders are all orders too
pub same_orders_of : (net : PlainNet) (orders same : List Order) → AreAllOrders net orders → IsPermutation orders same → AreAllOrders net same
same_orders_of net orders same are alike = record {
  fixed = are.fixed;
  are_fixed = are.are_fixed;
  all = λ o. (λ h. (are.all o).0 (Contains-permutation same orders o (IsPermutation-sym orders same alike) h), λ h. Contains-permutation orders same o alike ((are.all o).1 h));
}

-- ---- what they say

module _ (net : PlainNet) (is : IsNet net) where
  -- the orders of a link are of points of the net
  pub link_in_range : (k : ℕ) → k < length net.links → (a : Atom) → Contains (link_atoms net k) a → IsInRange (points net) a
  link_in_range k below a among =
      let link = link_at net k in
      let ends = All-get_or (λ (l : NetLink). (l.a < length net.bounds) × (l.b < length net.bounds)) net.links k (record { a = 0; rel = rel.Before; b = 0 }) below is.ends in
      All-contains (IsInRange (points net)) (link_atoms net k) a (All-from_recursion (IsInRange (points net)) (link_atoms net k) (atoms_in_range (length net.bounds) link.rel link.a link.b ends.0 ends.1)) among

  module _ (orders : List Order) (graph : AreAllOrders net orders) where
    -- and so are all
    pub in_range : (o : Order) → Contains orders o → IsInRange (points net) o.atom
    in_range o among = elim ((graph.all o).0 among) [
      | inl fixed ↦ All-contains (IsInRange (points net)) graph.fixed o.atom graph.are_fixed.in_range fixed.1
      | inr linked ↦ link_in_range linked.0 linked.1 o.atom linked.2.1
    ]

    -- the orders of links that pass a test hold exactly where these links do
    pub orders_say : (test : ℕ → Bool) (t : Timeline)
        → FitsWith net (λ k. test k ≡ true) t ↔ ((o : Order) → Contains orders o → counts test o.link ≡ true → Satisfies t o.atom)
    orders_say test t = (
      λ fits o among passes. elim ((graph.all o).0 among) [
        | inl fixed ↦ All-contains (Satisfies t) graph.fixed o.atom ((graph.are_fixed.exact t).1 (fits.order, fits.calendar)) fixed.1
        | inr linked ↦
            let k = linked.0 in
            let chosen : test k ≡ true = subst (λ (l : Option ℕ). counts test l ≡ true) linked.2.0 passes in
            All-contains (Satisfies t) (link_atoms net k) o.atom ((link_said net k (link_atoms net k) refl t).1 (fits.links k linked.1 chosen)) linked.2.1
      ],
      λ all.
          let fixed = (graph.are_fixed.exact t).0 (every (Satisfies t) graph.fixed (λ a among. all (record { atom = a; link = None }) ((graph.all (record { atom = a; link = None })).1 (inl (refl, among))) refl)) in
          record {
            order = fixed.0;
            links = λ k below chosen. (link_said net k (link_atoms net k) refl t).0 (every (Satisfies t) (link_atoms net k) (λ a among.
                all (record { atom = a; link = Some k }) ((graph.all (record { atom = a; link = Some k })).1 (inr (k, below, (refl, among)))) chosen));
            calendar = fixed.1;
          },
    )

-- ---- the orders of a point

module _ (net : PlainNet) (graph : Graph) (is : IsGraphOf net graph) (near : End) where
  pub by_points : (by_end near graph).points ≡ points net
  by_points = elim near as (λ e. (by_end e graph).points ≡ points net) [ From ↦ is.onward_points | To ↦ is.back_points ]

  -- those that have it at an end
  pub at_end : (items : List Order) (point : ℕ) → AreOfPoint (by_end near graph) point items → (o : Order) → Contains items o ↔ (Contains graph.onward.items o × (point_at_end near o ≡ point))
  at_end items point exact o =
      let same : (e : End) → Contains (by_end e graph).items o ↔ Contains graph.onward.items o = elim [
        | From ↦ (λ h. h, λ h. h)
        | To ↦ (Contains-permutation graph.back.items graph.onward.items o (IsPermutation-sym graph.onward.items graph.back.items is.same), Contains-permutation graph.onward.items graph.back.items o is.same)
      ] in
      let at : (e : End) → point_at_end (by_end e graph).by o ≡ point_at_end e o = elim [ From ↦ ap (λ e. point_at_end e o) is.leave | To ↦ ap (λ e. point_at_end e o) is.lead ] in (
        λ h. ((same near).0 ((exact o).0 h).0, sym (at near) ∙ ((exact o).0 h).1),
        λ h. (exact o).1 ((same near).1 h.0, at near ∙ h.1),
      )
