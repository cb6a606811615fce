-- What a tree joins, and how it changes.
use Rattle.std.proofs.Common.{◌≡◌, inl, inr, ℕ, ◌+◌, ◌<◌, ◌≤◌, Bool, true, false, List, [], ◌∷◌, ◌++◌, length, slice_index, slice_index_or, slice_set, take, Option, Some, None, IfSome, refl, sym, ap, subst, ◌∙◌, arith, get_or-set_other, get_or-set_same}
use Rattle.std.specs.List.{All, Contains}
use Rattle.std.proofs.lemmas.Bool.{OnTrue_at, cases_eq, cases_lt, eq-eqb, eqb-false}
use Rattle.std.proofs.lemmas.List.{get_or-take, get_or_append_left, get_or_default, get_or_push, length-set, length_push}
use Rattle.std.proofs.lemmas.List.Elements.{All-get_or, All-push, All-weaker}
use Rattle.clash.specs.Closures.{IsClosureOf}
use Rattle.net_orders.specs.Orders.{is_this_link, is_of}
use Rattle.net_orders.specs.declared.orders.Order.{Order}
use Rattle.clash.proofs.ClosedWalks.{others_set}
use Rattle.net_core.specs.Atoms.{Satisfies}
use Rattle.net_core.specs.Entailment.{HasTimeline}
use Rattle.net_core.specs.Fits.{FitsWith}
use Rattle.net_core.specs.Nets.{IsNet}
use Rattle.net_core.specs.Relations.{Timeline}
use Rattle.net_core.proofs.WalkLaws.{in_order_weaker}
use Rattle.tml_score.specs.Ends.{point_at_end, far_end_of}
use Rattle.tml_score.specs.Graph.{IsGraphOf, counts}
use Rattle.tml_score.specs.Reducing.{AreDecided}
use Rattle.tml_score.specs.Search.{Basis, IsAsked, IsLed, IsReady, Rest, is_other}
use Rattle.tml_score.specs.Ties.{AreTies}
use Rattle.tml_score.specs.Tree.{HoldBefore, IsBefore, IsBeyond, IsBranch, IsCovered, IsBeyondRoot, IsTree, LeadsOn, is_used, no_order, order_at, with_link, without}
use Rattle.tml_score.specs.Trees.{IsKnown}
use Rattle.tml_score.specs.Meeting.{IsLedTo}
use Rattle.tml_score.specs.declared.ends.End.{End}
use Rattle.tml_score.specs.declared.ends.End.TheVariants.{From, To}
use Rattle.tml_score.specs.declared.search.AskedOrder.{AskedOrder}
use Rattle.tml_score.specs.declared.ties.Ties.{Ties}
use Rattle.tml_score.specs.declared.tree.Tree.{Tree}
use Rattle.tml_score.specs.declared.trees.Known.{Known}
use Rattle.tml_score.proofs.Searching.{other_kept, way_true}

-- ---- what a tree joins

-- an order leads on from what is beyond a root
beyond_then : (near : End) (t : Timeline) (root : ℕ) (o : Order) → IsBeyond near t root (point_at_end near o) → Satisfies t o.atom → IsBeyond near t root (far_end_of near o)
beyond_then From t root o first holds = let step : t o.atom.from ≤ t o.atom.to = in_order_weaker false o.atom.strict (t o.atom.from) (t o.atom.to) (λ e. cc) holds in omega (arith, first, step)
beyond_then To t root o first holds = let step : t o.atom.from ≤ t o.atom.to = in_order_weaker false o.atom.strict (t o.atom.from) (t o.atom.to) (λ e. cc) holds in omega (arith, first, step)

-- a point is beyond itself
beyond_self : (near : End) (t : Timeline) (root point : ℕ) → root ≡ point → IsBeyond near t root point
beyond_self From t root point same = let e = ap t same in omega arith
beyond_self To t root point same = let e = ap t same in omega arith

-- what some orders of a tree cover all do
pub covered_by_all : (roots : List ℕ) (tree : Tree) (n point : ℕ) → IsCovered roots tree n point → IsCovered roots tree (length tree.orders.items) point
covered_by_all roots tree n point covered = elim covered [ inl root ↦ inl root | inr at ↦ inr (at.0, at.2, at.2, at.3) ]

module _ (basis : Basis) (roots : List ℕ) (near : End) (tree : Tree) (is : IsTree basis roots near tree) where
  -- what the first orders of a tree cover is joined by these
  pub covered_joined : (n point : ℕ) → IsCovered roots tree n point → IsBeyondRoot near roots tree.orders.items n point
  covered_joined n point covered = elim covered [
    | inl root ↦ λ t hold. beyond_self near t (slice_index roots point) point root
    | inr at ↦
        let i = at.0 in
        let same : far_end_of near (order_at tree.orders.items i) ≡ point = subst (λ (e : End). far_end_of e (order_at tree.orders.items i) ≡ point) is.end at.3 in
        let before = at.1 in
        λ t hold. subst (λ (x : ℕ). IsBeyond near t (slice_index roots x) x) same (is.joined i at.2 t (λ j less lt. hold j (omega (arith, less, before)) lt))
  ]

-- ---- one order more

-- the links in use stay so
used_more : (in_use : List Bool) (l m : Option ℕ) → IfSome l (λ k. k < length in_use) → counts (λ k. slice_index_or in_use k false) m ≡ true → counts (λ k. slice_index_or (with_link in_use l) k false) m ≡ true
used_more in_use None m below used = used
used_more in_use (Some k) None below used = refl
used_more in_use (Some k) (Some j) below used = elim (cases_eq j k) [
  | inl same ↦ subst (λ (i : ℕ). slice_index_or (slice_set in_use k true) i false ≡ true) (sym same) (get_or-set_same in_use k true false below)
  | inr other ↦ get_or-set_other in_use k j true false other ∙ used
]

used_last : (in_use : List Bool) (l : Option ℕ) → IfSome l (λ k. k < length in_use) → counts (λ k. slice_index_or (with_link in_use l) k false) l ≡ true
used_last in_use None below = refl
used_last in_use (Some k) below = get_or-set_same in_use k true false below

length_with : (in_use : List Bool) (l : Option ℕ) → length (with_link in_use l) ≡ length in_use
length_with in_use None = refl
length_with in_use (Some k) = length-set in_use k true

-- the orders of a list are those of a longer one
same_order : (orders : List Order) (o : Order) (new : List Order) → new ≡ orders ++ o ∷ [] → (i : ℕ) → i < length orders → order_at new i ≡ order_at orders i
same_order orders o new is i lt = ap (λ (xs : List Order). order_at xs i) is ∙ get_or_append_left orders (o ∷ []) no_order i lt

last_order : (orders : List Order) (o : Order) (new : List Order) → new ≡ orders ++ o ∷ [] → (i : ℕ) → length orders ≡ i → order_at new i ≡ o
last_order orders o new is i end = ap (λ (xs : List Order). order_at xs i) is ∙ get_or_push orders o no_order i end

hold_fewer : (orders : List Order) (o : Order) (new : List Order) → new ≡ orders ++ o ∷ [] → (t : Timeline) (n : ℕ) → HoldBefore t new n → HoldBefore t orders n
hold_fewer orders o new is t n hold = λ i less lt. subst (λ (x : Order). Satisfies t x.atom) (same_order orders o new is i lt)
    (hold i less (omega (arith, lt, ap length is, length_push orders o)))

module _ (basis : Basis) (roots : List ℕ) (near : End) (old new : Tree) (o : Order) (is : IsTree basis roots near old) (on : LeadsOn basis roots old o) (of_net : Contains basis.graph.onward.items o) (link : IfSome o.link (λ k. k < length old.in_use.items)) where
  -- a tree with an order that leads on
  pub taken_tree : new.near ≡ old.near → length new.turns.items ≡ length old.turns.items → new.orders.items ≡ old.orders.items ++ o ∷ [] → new.in_use.items ≡ with_link old.in_use.items o.link → IsTree basis roots near new
  taken_tree end turns orders in_use =
      let branch : IsBranch basis new.in_use.items o = record {
        of_net = of_net;
        kept = on.kept;
        used = subst (λ (xs : List Bool). is_used xs o ≡ true) (sym in_use) (used_last old.in_use.items o.link link);
      } in
      let branches : All (IsBranch basis new.in_use.items) old.orders.items = All-weaker (IsBranch basis old.in_use.items) (IsBranch basis new.in_use.items) (λ x b. record {
        of_net = b.of_net;
        kept = b.kept;
        used = subst (λ (xs : List Bool). is_used xs x ≡ true) (sym in_use) (used_more old.in_use.items o.link x.link link b.used);
      }) old.orders.items is.branches in
      let size = length_push old.orders.items o in
      let count = ap length orders in
      let far_end : far_end_of near o ≡ far_end_of old.near o = ap (λ (n : End). far_end_of n o) (sym is.end) in
      record {
        end = end ∙ is.end;
        turns = turns ∙ is.turns;
        in_use = ap length in_use ∙ length_with old.in_use.items o.link ∙ is.in_use;
        branches = subst (All (IsBranch basis new.in_use.items)) (sym orders) (All-push (IsBranch basis new.in_use.items) old.orders.items o branches branch);
        joined = λ i lt. elim (cases_lt i (length old.orders.items)) [
          | inl before ↦ λ t hold. subst (λ (x : Order). IsBeyond near t (slice_index roots (far_end_of near x)) (far_end_of near x)) (sym (same_order old.orders.items o new.orders.items orders i before))
              (is.joined i before t (hold_fewer old.orders.items o new.orders.items orders t (i + 1) hold))
          | inr last ↦
              let at : length old.orders.items ≡ i = omega (arith, last, lt, size, count) in
              let here : order_at new.orders.items i ≡ o = last_order old.orders.items o new.orders.items orders i at in
              λ t hold. subst (λ (x : Order). IsBeyond near t (slice_index roots (far_end_of near x)) (far_end_of near x)) (sym here) (
              let all : HoldBefore t old.orders.items (length old.orders.items) = λ j less within. hold_fewer old.orders.items o new.orders.items orders t (i + 1) hold j (omega (arith, less, at)) within in
              let from : IsBeyond near t (slice_index roots (point_at_end old.near o)) (point_at_end old.near o) = covered_joined basis roots near old is (length old.orders.items) (point_at_end old.near o) on.covered t all in
              let holds : Satisfies t o.atom = subst (λ (x : Order). Satisfies t x.atom) here (hold i (omega arith) lt) in
              let root : IsBeyond near t (slice_index roots (far_end_of old.near o)) (point_at_end old.near o) = subst (λ (r : ℕ). IsBeyond near t r (point_at_end old.near o)) on.one_root from in
              subst (λ (x : ℕ). IsBeyond near t (slice_index roots x) x) (sym far_end)
              (subst (λ (n : End). IsBeyond near t (slice_index roots (far_end_of n o)) (far_end_of n o)) (sym is.end)
              (beyond_then near t (slice_index roots (far_end_of near o)) o
              (subst (λ (n : End). IsBeyond near t (slice_index roots (far_end_of n o)) (point_at_end n o)) is.end root) holds)))
        ];
      }

-- ---- fewer orders

-- an order of another link is kept without one
kept_without : (keep : List Bool) (link : ℕ) (m : Option ℕ) → is_this_link link m ≡ false → counts (λ k. slice_index_or keep k false) m ≡ true → counts (λ k. slice_index_or (slice_set keep link false) k false) m ≡ true
kept_without keep link None other kept = refl
kept_without keep link (Some k) other kept = elim (cases_eq k link) [
  | inl same ↦ absurd (let is = eq-eqb k link same in let both : true ≡ false = sym is ∙ other in cc)
  | inr ne ↦ others_set keep link k (kept, ne)
]

module _ (basis : Basis) (roots : List ℕ) (near : End) (old new : Tree) (link : ℕ) (is : IsTree basis roots near old) where
  -- what is left of a tree, before the first order of a link, is one without the link
  pub cut_tree : (n : ℕ) → new.near ≡ old.near → length new.turns.items ≡ length old.turns.items → new.in_use.items ≡ old.in_use.items → new.orders.items ≡ take n old.orders.items → length new.orders.items ≤ n → length new.orders.items ≤ length old.orders.items
      → IsBefore link old n → IsTree (without basis link) roots near new
  cut_tree n end turns in_use orders few fewer others =
      let at : (i : ℕ) (d : Order) → i < length new.orders.items → slice_index_or new.orders.items i d ≡ slice_index_or old.orders.items i d = λ i d lt. ap (λ (xs : List Order). slice_index_or xs i d) orders ∙ get_or-take n old.orders.items i d (omega (arith, lt, few)) in
      record {
        end = end ∙ is.end;
        turns = turns ∙ is.turns;
        in_use = ap length in_use ∙ is.in_use;
        branches = λ i d lt.
            let within : i < length old.orders.items = omega (arith, lt, fewer) in
            let was = is.branches i d within in
            let other : is_of link (slice_index_or old.orders.items i d) ≡ false = subst (λ (x : Order). is_of link x ≡ false) (get_or_default old.orders.items i no_order d within) (others basis roots near is i (omega (arith, lt, few))) in
            let branch : IsBranch (without basis link) new.in_use.items (slice_index_or old.orders.items i d) = record {
              of_net = was.of_net;
              kept = kept_without basis.keep link (slice_index_or old.orders.items i d).link other was.kept;
              used = subst (λ (xs : List Bool). is_used xs (slice_index_or old.orders.items i d) ≡ true) (sym in_use) was.used;
            } in
            subst (IsBranch (without basis link) new.in_use.items) (sym (at i d lt)) branch;
        joined = λ i lt t hold.
            let within : i < length old.orders.items = omega (arith, lt, fewer) in
            subst (λ (x : Order). IsBeyond near t (slice_index roots (far_end_of near x)) (far_end_of near x)) (sym (at i no_order lt))
            (is.joined i within t (λ j less there. let before : j < length new.orders.items = omega (arith, less, lt) in subst (λ (x : Order). Satisfies t x.atom) (at j no_order before) (hold j less before)));
      }

-- ties stay ties without a link
pub ties_without : (basis : Basis) (link : ℕ) (ties : Ties) → AreTies basis ties → AreTies (without basis link) ties
ties_without basis link ties are = record { orders = are.orders; onward = are.onward; back = are.back; roots = are.roots }

-- ---- links one after another

-- what is taken so far says the same as all links
pub ready_so_far : (basis : Basis) (n : ℕ) → IsNet basis.net → HasTimeline basis.net → IsClosureOf basis.net basis.table → IsGraphOf basis.net basis.graph → AreDecided basis.net n basis.keep → IsReady basis
ready_so_far basis n net fits closure graph are = record { net = net; fits = fits; closure = closure; graph = graph; marks = are.size; same = are.same }

-- ---- what trees show

-- an order of the tree that isn't of a link is of none, or of another one that is kept
other_kept_link : (keep : List Bool) (link : ℕ) (m : Option ℕ) → is_this_link link m ≡ false → counts (λ k. slice_index_or keep k false) m ≡ true → counts (is_other keep link) m ≡ true
other_kept_link keep link None other kept = refl
other_kept_link keep link (Some k) other kept = (other_kept keep link k).1 (kept, eqb-false k link other)

module _ (basis : Basis) (asked : AskedOrder) (ready : IsReady basis) (asks : IsAsked basis asked) (roots : List ℕ) (near : End) (tree : Tree) (is : IsTree basis roots near tree) (n : ℕ) (before : IsBefore asked.link tree n) where
  -- the orders of a tree before those of a link hold with the other links
  others_hold : (t : Timeline) → FitsWith basis.net (Rest basis asked) t → HoldBefore t tree.orders.items n
  others_hold t fits = λ i less lt.
      let o = order_at tree.orders.items i in
      let branch = All-get_or (IsBranch basis tree.in_use.items) tree.orders.items i no_order lt is.branches in
      way_true basis asked ready asks t fits o (branch.of_net, other_kept_link basis.keep asked.link o.link (before basis roots near is i less) branch.kept)

  -- and so a point that they cover is beyond its root
  pub covered_beyond : (point : ℕ) → IsCovered roots tree n point → (t : Timeline) → FitsWith basis.net (Rest basis asked) t → IsBeyond near t (slice_index roots point) point
  covered_beyond point covered t fits = covered_joined basis roots near tree is n point covered t (others_hold t fits)

module _ (basis : Basis) (asked : AskedOrder) (ready : IsReady basis) (asks : IsAsked basis asked) (known : Known) (are : IsKnown basis asked known) where
  abbrev roots_of : List ℕ
  roots_of = known.trees.now.ties.roots.items

  -- a point that the tree onward covers is no earlier than the first one
  pub comes_after : (point : ℕ) → known.from ≡ true → slice_index roots_of asked.order.from ≡ slice_index roots_of point → IsCovered roots_of known.trees.now.onward known.onward point → IsLed basis asked point
  comes_after point from same covered = λ t fits.
      let first : t asked.order.from ≤ t (slice_index roots_of asked.order.from) = covered_beyond basis asked ready asks roots_of To known.trees.now.back are.trees.back known.back are.back asked.order.from (OnTrue_at from are.from) t fits in
      let on : t (slice_index roots_of point) ≤ t point = covered_beyond basis asked ready asks roots_of From known.trees.now.onward are.trees.onward known.onward are.onward point covered t fits in
      let root = ap t same in
      omega (arith, first, on, root)

  -- and one that the tree back covers is no later than the last one
  pub comes_before : (point : ℕ) → known.to ≡ true → slice_index roots_of point ≡ slice_index roots_of asked.order.to → IsCovered roots_of known.trees.now.back known.back point → IsLedTo basis asked point
  comes_before point to same covered = λ t fits.
      let back : t point ≤ t (slice_index roots_of point) = covered_beyond basis asked ready asks roots_of To known.trees.now.back are.trees.back known.back are.back point covered t fits in
      let last : t (slice_index roots_of asked.order.to) ≤ t asked.order.to = covered_beyond basis asked ready asks roots_of From known.trees.now.onward are.trees.onward known.onward are.onward asked.order.to (OnTrue_at to are.to) t fits in
      let root = ap t same in
      omega (arith, back, last, root)
