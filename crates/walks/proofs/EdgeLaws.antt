-- The steps that a list of edges has.
use Rattle.std.proofs.Common.{◌≡◌, ◌↔◌, ◌⊎◌, ℕ, ◌+◌, ◌*◌, ◌<◌, Bool, false, List, [], length, nat_lt, Some, refl, sym, ap, subst, ◌∙◌, arith, inl, inr}
use Rattle.std.specs.List.{slice_get}
use Rattle.std.specs.List.Sorted.{IsPermutation}
use Rattle.std.proofs.lemmas.Bool.{cases_lt, ltb-true}
use Rattle.std.proofs.lemmas.List.Sorted.{Contains-permutation, IsPermutation-sym}
use Rattle.std.proofs.lemmas.Option.{cond_some, get_or_from_slice_get, option_and_then_some, slice_get_within}
use Rattle.net_core.specs.Atoms.{atom_count, atoms_of, before, points_of}
use Rattle.net_core.specs.Nets.{PlainNet, intervals, link_at}
use Rattle.net_core.specs.Steps.{Uses, atom_of}
use Rattle.net_core.specs.Walks.{Kept}
use Rattle.net_core.specs.declared.atom.Atom.{Atom}
use Rattle.net_core.specs.declared.net.NetLink.{NetLink}
use Rattle.net_core.specs.declared.rels.Rel.TheVariants as rel
use Rattle.net_core.specs.declared.step.Step.{Step}
use Rattle.net_core.specs.declared.step.Step.TheVariants.{Calendar, Link, Span}
use Rattle.net_core.proofs.AtomLaws.{atoms_counted}
use Rattle.walks.specs.Edges.{AddsEdges, AreEdges, IsDated, IsOver, IsSpan}
use Rattle.walks.specs.declared.edges.Edge.{Edge}

-- what is read past the end of a list of edges
abbrev pub no_edge : Edge
no_edge = record { step = Link 0 0; atom = record { from = 0; to = 0; strict = false } }

-- the steps of the first n of some sets
abbrev pub Below : (ℕ → Step → Type 0) → ℕ → Step → Type 0
Below Listed n step = (k : ℕ) × (k < n) × Listed k step

-- one set more
below_more : (Listed : ℕ → Step → Type 0) (n : ℕ) (step : Step) → (Below Listed n step ⊎ Listed n step) ↔ Below Listed (n + 1) step
below_more Listed n step = (
  λ h. elim h [
    | inl old ↦ (old.0, let lt = old.1 in omega arith, old.2)
    | inr last ↦ (n, omega arith, last)
  ],
  λ h. elim (cases_lt h.0 n) [
    | inl lt ↦ inl (h.0, lt, h.2)
    | inr ge ↦ let e : h.0 ≡ n = let lt = h.1 in omega arith in inr (subst (λ (k : ℕ). Listed k step) e h.2)
  ],
)

-- the steps over one link that is kept
abbrev pub OverKept : List Bool → ℕ → Step → Type 0
OverKept keep k step = Kept keep k × IsOver (λ j. j ≡ k) step

module _ (net : PlainNet) where
  -- where the steps of a set go by no order, nothing is added
  pub adds_nothing : (Listed : Step → Type 0) (edges : List Edge) → ((step : Step) → Listed step → ⊥) → AddsEdges net Listed edges edges
  adds_nothing Listed edges none_listed edge = (λ h. inl h, λ h. elim h [ inl old ↦ old | inr new ↦ absurd (none_listed edge.step new.0) ])

  -- of no set nothing is added
  pub adds_none : (Listed : ℕ → Step → Type 0) (edges : List Edge) → AddsEdges net (Below Listed 0) edges edges
  adds_none Listed edges = adds_nothing (Below Listed 0) edges (λ step h. let lt = h.1 in omega arith)

  -- two sets with the same steps that go by an order
  pub adds_same : (P Q : Step → Type 0) (old new : List Edge) → ((step : Step) (atom : Atom) → atom_of net step ≡ Some atom → P step ↔ Q step) → AddsEdges net P old new → AddsEdges net Q old new
  adds_same P Q old new same adds edge = (
    λ h. elim ((adds edge).0 h) [ inl was ↦ inl was | inr is ↦ inr ((same edge.step edge.atom is.1).0 is.0, is.1) ],
    λ h. elim h [ inl was ↦ (adds edge).1 (inl was) | inr is ↦ (adds edge).1 (inr ((same edge.step edge.atom is.1).1 is.0, is.1)) ],
  )

  -- one set, and then another one
  pub adds_then : (P Q : Step → Type 0) (old mid new : List Edge) → AddsEdges net P old mid → AddsEdges net Q mid new → AddsEdges net (λ step. P step ⊎ Q step) old new
  adds_then P Q old mid new first second edge = (
    λ h. elim ((second edge).0 h) [
      | inl was ↦ elim ((first edge).0 was) [ inl was ↦ inl was | inr is ↦ inr (inl is.0, is.1) ]
      | inr is ↦ inr (inr is.0, is.1)
    ],
    λ h. elim h [
      | inl was ↦ (second edge).1 (inl ((first edge).1 (inl was)))
      | inr is ↦ elim is.0 [
        | inl p ↦ (second edge).1 (inl ((first edge).1 (inr (p, is.1))))
        | inr q ↦ (second edge).1 (inr (q, is.1))
      ]
    ],
  )

  -- one set more
  pub adds_more : (Listed : ℕ → Step → Type 0) (n : ℕ) (old mid new : List Edge) → AddsEdges net (Below Listed n) old mid → AddsEdges net (Listed n) mid new → AddsEdges net (Below Listed (n + 1)) old new
  adds_more Listed n old mid new first second = adds_same (λ step. Below Listed n step ⊎ Listed n step) (Below Listed (n + 1)) old new (λ step atom goes. below_more Listed n step)
      (adds_then (Below Listed n) (Listed n) old mid new first second)

  -- the steps over spans are one for each interval
  pub spans_all : (step : Step) (atom : Atom) → atom_of net step ≡ Some atom → Below (λ i s. s ≡ Span i) (intervals net) step ↔ IsSpan step
  spans_all (Span i) atom goes = (λ h. tt, λ h. (i, ltb-true i (intervals net) (cond_some (nat_lt i (intervals net)) (before (2 * i) (2 * i + 1)) atom goes).0, refl))
  spans_all (Link k i) atom goes = (λ h. let is = h.2 in cc, λ h. absurd h)
  spans_all (Calendar p q) atom goes = (λ h. let is = h.2 in cc, λ h. absurd h)

  -- the steps over a link are one for each order that it is
  pub atoms_all : (link : ℕ) (step : Step) (atom : Atom) → atom_of net step ≡ Some atom → Below (λ i s. s ≡ Link link i) (atom_count (link_at net link).rel) step ↔ IsOver (λ k. k ≡ link) step
  atoms_all link (Link k i) atom goes = (
    λ h. let is = h.2 in cc,
    λ e. option_and_then_some (λ (l : NetLink). slice_get (atoms_of l.a l.rel l.b) i) (slice_get net.links k) atom goes (λ l at here.
        let same : link_at net link ≡ l = ap (link_at net) (sym e) ∙ get_or_from_slice_get net.links k l (record { a = 0; rel = rel.Before; b = 0 }) at in
        let lt : i < atom_count l.rel = subst (λ (n : ℕ). i < n) (atoms_counted l.rel (points_of l.a) (points_of l.b)) (slice_get_within (atoms_of l.a l.rel l.b) i atom here) in
        (i, subst (λ (x : NetLink). i < atom_count x.rel) (sym same) lt, ap (λ (x : ℕ). Link x i) e)),
  )
  atoms_all link (Span i) atom goes = (λ h. let is = h.2 in cc, λ h. absurd h)
  atoms_all link (Calendar p q) atom goes = (λ h. let is = h.2 in cc, λ h. absurd h)

  module _ (keep : List Bool) where
    -- the steps over the links that are kept are those of each of them
    pub links_all : (step : Step) (atom : Atom) → atom_of net step ≡ Some atom → Below (OverKept keep) (length net.links) step ↔ IsOver (Kept keep) step
    links_all (Link k i) atom goes = (
      λ h. subst (Kept keep) (sym h.2.1) h.2.0,
      λ kept. option_and_then_some (λ (l : NetLink). slice_get (atoms_of l.a l.rel l.b) i) (slice_get net.links k) atom goes (λ l at here. (k, slice_get_within net.links k l at, (kept, refl))),
    )
    links_all (Span i) atom goes = (λ h. absurd h.2.1, λ h. absurd h)
    links_all (Calendar p q) atom goes = (λ h. absurd h.2.1, λ h. absurd h)

    -- a step is over a span or a link that is kept where it is none of the calendar and uses no other link
    listed : (step : Step) → (IsSpan step ⊎ IsOver (Kept keep) step) ↔ ((IsDated step → ⊥) × Uses (Kept keep) step)
    listed (Span i) = (λ h. (λ d. d, tt), λ h. inl tt)
    listed (Link k i) = (λ h. elim h [ inl is ↦ absurd is | inr kept ↦ (λ d. d, kept) ], λ h. inr h.1)
    listed (Calendar p q) = (λ h. elim h [ inl is ↦ absurd is | inr is ↦ absurd is ], λ h. absurd (h.0 tt))

    -- all edges, in any order
    pub edges_sorted : (old edges sorted : List Edge) → old ≡ [] → AddsEdges net (λ step. IsSpan step ⊎ IsOver (Kept keep) step) old edges → IsPermutation edges sorted → AreEdges net keep sorted
    edges_sorted old edges sorted empty adds moved edge = (
      λ h. elim ((adds edge).0 (Contains-permutation sorted edges edge (IsPermutation-sym edges sorted moved) h)) [
        | inl was ↦ let none_long : length old ≡ 0 = ap length empty in let lt = was.1 in absurd (omega arith)
        | inr is ↦ let both = (listed edge.step).0 is.0 in (both.0, (is.1, both.1))
      ],
      λ h. Contains-permutation edges sorted edge moved ((adds edge).1 (inr ((listed edge.step).1 (h.0, h.1.1), h.1.0))),
    )
