-- The tree of a source is laid out as its units are.
use Rattle.std.proofs.Common.{◌≡◌, inl, inr, ℕ, Bool, true, false, cond, ◌+◌, ◌≤◌, List, [], ◌∷◌, ◌++◌, length, refl, sym, ap, subst, ◌∙◌, length-append, arith}
use Rattle.std.specs.List.{AllByRecursion, filter}
use Rattle.named.proofs.Lists.{each_kept, each_parts}
use Rattle.tml_span.specs.Cutting.{CutsFrom}
use Rattle.tml_span.specs.Slices.{UnitIsIn}
use Rattle.tml_span.specs.Units.{PlainUnit}
use Rattle.tml_span.proofs.SlicesIn.{units_are_in}
use Rattle.tml_tree.specs.Plain.{PlainNode, PlainNodes, text_node, comment_node, element, none, more, nodes_of}
use Rattle.tml_tree.specs.Nesting.{Item, Items, is_content, is_element}
use Rattle.tml_tree.specs.Places.{HasSlices, HaveSlices, start_of, end_of, IsInOrder, AreInOrder, TreeIsLaidOut}
use Rattle.tml_tree.specs.Whole.{IsTreeOf}
use Rattle.tml_tree.proofs.Depths.{depth_of_tree}

-- ---- slices

mutual
  item_slices : (source : List ℕ) (n : PlainNode) (us : List PlainUnit) → Item n us → AllByRecursion (UnitIsIn source) us → HasSlices source n
  item_slices source (text_node start end bytes) us i h = (subst (λ (vs : List PlainUnit). AllByRecursion (UnitIsIn source) vs) i h).0
  item_slices source (comment_node start end bytes) us i h = (subst (λ (vs : List PlainUnit). AllByRecursion (UnitIsIn source) vs) i h).0
  item_slices source (element start end name attrs children) us (inl i) h =
      let here = (subst (λ (vs : List PlainUnit). AllByRecursion (UnitIsIn source) vs) i.1 h).0 in
      (here.0, here.1, subst (λ (ns : PlainNodes). HaveSlices source ns) (sym i.0) tt)
  item_slices source (element start end name attrs children) us (inr i) h =
      let all = subst (λ (vs : List PlainUnit). AllByRecursion (UnitIsIn source) vs) i.3 h in
      let inner = each_parts (UnitIsIn source) i.0 _ all.1 in
      (all.0.0, all.0.1, items_slices source children i.0 i.4 inner.0)

  items_slices : (source : List ℕ) (ns : PlainNodes) (us : List PlainUnit) → Items ns us → AllByRecursion (UnitIsIn source) us → HaveSlices source ns
  items_slices source none us i h = tt
  items_slices source (more n ns) us i h =
      let all = each_parts (UnitIsIn source) i.0 i.1 (subst (λ (vs : List PlainUnit). AllByRecursion (UnitIsIn source) vs) i.2 h) in
      (item_slices source n i.0 i.3 all.0, items_slices source ns i.1 i.4 all.1)

-- ---- order

-- units follow each other from a place up to another
abbrev FollowFrom : ℕ → List PlainUnit → ℕ → Type 0
FollowFrom low [] high = low ≤ high
FollowFrom low (u ∷ us) high = (low ≤ u.start) × (u.start ≤ u.end) × FollowFrom u.end us high

follow_lower : (low other : ℕ) (us : List PlainUnit) (high : ℕ) → other ≤ low → FollowFrom low us high → FollowFrom other us high
follow_lower low other [] high l h = omega arith
follow_lower low other (u ∷ us) high l h = (omega (arith, h.0), h.1, h.2)

follow_upto : (low : ℕ) (us : List PlainUnit) (high : ℕ) → FollowFrom low us high → low ≤ high
follow_upto low [] high h = h
follow_upto low (u ∷ us) high h = let rest = follow_upto u.end us high h.2 in omega (arith, h.0, h.1)

follow_append : (low : ℕ) (us vs : List PlainUnit) (high : ℕ) → FollowFrom low (us ++ vs) high → (mid : ℕ) × FollowFrom low us mid × FollowFrom mid vs high
follow_append low [] vs high h = (low, omega arith, h)
follow_append low (u ∷ us) vs high h = let rest = follow_append u.end us vs high h.2 in (rest.0, (h.0, h.1, rest.1), rest.2)

follow_filter : (p : PlainUnit → Bool) (low : ℕ) (us : List PlainUnit) (high : ℕ) → FollowFrom low us high → FollowFrom low (filter p us) high
follow_filter p low [] high h = h
follow_filter p low (u ∷ us) high h =
    let rest = follow_filter p u.end us high h.2 in
    elim (p u) as (λ b. FollowFrom low (cond b (u ∷ filter p us) (filter p us)) high) [
      | true ↦ (h.0, h.1, rest)
      | false ↦ follow_lower u.end low (filter p us) high (omega (arith, h.0, h.1)) rest
    ]

order_upper : (low : ℕ) (ns : PlainNodes) (high other : ℕ) → high ≤ other → AreInOrder low ns high → AreInOrder low ns other
order_upper low none high other l h = omega arith
order_upper low (more n ns) high other l h = (h.0, h.1, order_upper (end_of n) ns high other l h.2)

order_lower : (low other : ℕ) (ns : PlainNodes) (high : ℕ) → other ≤ low → AreInOrder low ns high → AreInOrder other ns high
order_lower low other none high l h = omega arith
order_lower low other (more n ns) high l h = (omega (arith, h.0), h.1, h.2)

-- a node between two places
abbrev IsBetween : ℕ → PlainNode → ℕ → Type 0
IsBetween low n high = (low ≤ start_of n) × IsInOrder n × (end_of n ≤ high)

mutual
  item_order : (low : ℕ) (n : PlainNode) (us : List PlainUnit) (high : ℕ) → Item n us → FollowFrom low us high → IsBetween low n high
  item_order low (text_node start end bytes) us high i h = subst (λ (vs : List PlainUnit). FollowFrom low vs high) i h
  item_order low (comment_node start end bytes) us high i h = subst (λ (vs : List PlainUnit). FollowFrom low vs high) i h
  item_order low (element start end name attrs children) us high (inl i) h =
      let here = subst (λ (vs : List PlainUnit). FollowFrom low vs high) i.1 h in
      (here.0, subst (λ (ns : PlainNodes). AreInOrder start ns end) (sym i.0) here.1, here.2)
  item_order low (element start end name attrs children) us high (inr i) h =
      let all = subst (λ (vs : List PlainUnit). FollowFrom low vs high) i.3 h in
      let inner = follow_append i.1 i.0 _ high all.2 in
      let close = inner.2 in
      let order = items_order i.1 children i.0 inner.0 i.4 inner.1 in
      (all.0, order_lower i.1 start children end all.1 (order_upper i.1 children inner.0 end (omega (arith, close.0, close.1)) order), close.2)

  items_order : (low : ℕ) (ns : PlainNodes) (us : List PlainUnit) (high : ℕ) → Items ns us → FollowFrom low us high → AreInOrder low ns high
  items_order low none us high i h = follow_upto low us high h
  items_order low (more n ns) us high i h =
      let all = follow_append low i.0 i.1 high (subst (λ (vs : List PlainUnit). FollowFrom low vs high) i.2 h) in
      let first = item_order low n i.0 all.0 i.3 all.1 in
      let rest = items_order all.0 ns i.1 high i.4 all.2 in
      (first.0, first.1, order_lower all.0 (end_of n) ns high first.2 rest)

cut_follows : (place : ℕ) (bytes : List ℕ) (us : List PlainUnit) (rest : List ℕ) → CutsFrom place bytes us rest → FollowFrom place us (place + length bytes)
cut_follows place bytes [] rest c = omega arith
cut_follows place bytes (u ∷ us) rest c =
    let s = c.3 in
    let total = ap length c.2 ∙ length-append c.0 c.1 in
    let high : place + length c.0 + length c.1 ≡ place + length bytes = omega (arith, total) in
    let next : place + length c.0 ≡ u.end = sym s.end in
    let others = subst (λ (p : ℕ × ℕ). FollowFrom p.0 us p.1) (λ i. (next i, high i)) (cut_follows (place + length c.0) c.1 us rest c.5) in
    (omega (arith, s.start), omega (arith, s.start, s.end), others)

mutual
  node_upto : (n : PlainNode) → IsInOrder n → start_of n ≤ end_of n
  node_upto (text_node start end bytes) h = h
  node_upto (comment_node start end bytes) h = h
  node_upto (element start end name attrs children) h = nodes_upto start children end h

  nodes_upto : (low : ℕ) (ns : PlainNodes) (high : ℕ) → AreInOrder low ns high → low ≤ high
  nodes_upto low none high h = h
  nodes_upto low (more n ns) high h =
      let here = node_upto n h.1 in
      let rest = nodes_upto (end_of n) ns high h.2 in
      omega (arith, h.0)

-- ---- the root among the nodes

among : (source : List ℕ) (low : ℕ) (nodes : List PlainNode) (high : ℕ) (root : PlainNode) (rest : List PlainNode) → filter is_element nodes ≡ root ∷ rest → HaveSlices source (nodes_of nodes) → AreInOrder low (nodes_of nodes) high
    → HasSlices source root × IsInOrder root × (end_of root ≤ high)
among source low [] high root rest e s o = absurd cc
among source low (n ∷ nodes) high root rest e s o =
    elim (is_element n) as (λ b. cond b (n ∷ filter is_element nodes) (filter is_element nodes) ≡ root ∷ rest → HasSlices source root × IsInOrder root × (end_of root ≤ high)) [
      | true ↦ λ k. let same : n ≡ root = cc in subst (λ (m : PlainNode). HasSlices source m × IsInOrder m × (end_of m ≤ high)) same (s.0, o.1, nodes_upto (end_of n) (nodes_of nodes) high o.2)
      | false ↦ λ k. among source (end_of n) nodes high root rest k s.1 o.2
    ] e

slices_of : (source : List ℕ) (root : PlainNode) (t : IsTreeOf source root) → HaveSlices source (nodes_of t.2.1.0)
slices_of source root t = items_slices source (nodes_of t.2.1.0) (filter is_content t.0) t.2.1.1 (each_kept (UnitIsIn source) is_content t.0 (units_are_in source [] source [] 0 t.0 refl refl t.1.1))

order_of : (source : List ℕ) (root : PlainNode) (t : IsTreeOf source root) → AreInOrder 0 (nodes_of t.2.1.0) (length source)
order_of source root t = items_order 0 (nodes_of t.2.1.0) (filter is_content t.0) (length source) t.2.1.1 (follow_filter is_content 0 t.0 (length source) (subst (λ (n : ℕ). FollowFrom 0 t.0 n) (omega arith) (cut_follows 0 source t.0 [] t.1.1)))

pub tree_is_laid_out : TreeIsLaidOut
tree_is_laid_out = λ source root t.
    let here = among source 0 t.2.1.0 (length source) root [] t.2.1.2 (slices_of source root t) (order_of source root t) in
    record { slices = here.0; order = here.1; within = here.2; depth = depth_of_tree source root t }
