-- How a search goes on.
use Rattle.std.proofs.Common.{◌≡◌, ◌↔◌, inl, inr, ℕ, ◌+◌, ◌<◌, ◌≤◌, Bool, true, false, List, [], ◌∷◌, ◌++◌, length, get_or, slice_index, Option, IfSome, Ok, IsTrue, sym, ap, subst, ◌∙◌, arith, rules, length-append, append_assoc}
use Rattle.std.specs.List.{All, Contains}
use Rattle.std.proofs.lemmas.Bool.{cases_lt}
use Rattle.std.proofs.lemmas.List.{append-nil, get_or_append_left, get_or_default}
use Rattle.std.proofs.lemmas.List.Elements.{All-get_or, All-push, Contains-append_left, Contains-push}
use Rattle.net_orders.specs.declared.orders.Order.{Order}
use Rattle.tml_score.specs.Reached.{PlainReached}
use Rattle.tml_score.specs.Search.{AreMarks, Basis, ExtendsReached, GoesOn, IsAsked, IsEnough, IsLed, IsPassed, IsReady, IsSearch, IsThrough, IsRemainingWay, LeadsOut}
use Rattle.tml_score.specs.declared.search.AskedOrder.{AskedOrder}
use Rattle.tml_score.proofs.Searching.{goes_through, not_out}

-- ---- points that were put last

pub extends_none : (r : PlainReached) → ExtendsReached r r
extends_none r = ([], sym (append-nil r.points))

pub extends_then : (a b c : PlainReached) → ExtendsReached a b → ExtendsReached b c → ExtendsReached a c
extends_then a b c first second = (first.0 ++ second.0, second.1 ∙ ap (λ (xs : List ℕ). xs ++ second.0) first.1 ∙ append_assoc a.points first.0 second.0)

module _ (old new : PlainReached) (more : ExtendsReached old new) where
  pub still_there : (x : ℕ) → Contains old.points x → Contains new.points x
  still_there x among = subst (λ (xs : List ℕ). Contains xs x) (sym more.1) (Contains-append_left old.points more.0 x among)

  pub same_point : (k : ℕ) → k < length old.points → slice_index new.points k ≡ slice_index old.points k
  same_point k lt = ap (λ (xs : List ℕ). slice_index xs k) more.1 ∙ get_or_append_left old.points more.0 0 k lt

  pub no_fewer : length old.points ≤ length new.points
  no_fewer = omega (arith, ap length more.1, length-append old.points more.0)

  pub passed_more : (basis : Basis) (asked : AskedOrder) (o : Order) → IsPassed basis asked old.points o → IsPassed basis asked new.points o
  passed_more basis asked o passed = (passed.0, elim passed.1 [ inl out ↦ inl out | inr among ↦ inr (still_there o.atom.to among) ])

-- there is a mark for the link of each order
pub marked_link : (basis : Basis) → IsReady basis → (o : Order) → Contains basis.graph.onward.items o → AreMarks basis o
marked_link basis ready o among = elim ((ready.graph.orders.all o).0 among) [
  | inl fixed ↦ subst (λ (l : Option ℕ). IfSome l (λ k. k < length basis.keep)) (sym fixed.0) tt
  | inr linked ↦ subst (λ (l : Option ℕ). IfSome l (λ k. k < length basis.keep)) (sym linked.2.0) (omega (arith, linked.1, ready.marks))
]

module _ (basis : Basis) (asked : AskedOrder) (ready : IsReady basis) (is : IsAsked basis asked) where
  -- a way to a point that was reached is passed
  pub passed_there : (reached : PlainReached) → IsSearch basis asked reached → (order o : Order) → Contains reached.points order.atom.to → o ≡ order → IsPassed basis asked reached.points o
  passed_there reached search order o among same =
      let there : Contains reached.points o.atom.to = subst (λ (x : Order). Contains reached.points x.atom.to) (sym same) among in
      let through = subst (IsThrough basis asked) there.2 (All-get_or (IsThrough basis asked) reached.points there.0 o.atom.to there.1 search.through) in
      (λ enough. not_out basis asked ready is o through enough.0, inr there)

  -- a way that doesn't lead out, and whose point was added, is passed
  pub added : (old new : PlainReached) (order : Order) → IsSearch basis asked old → IsRemainingWay basis asked order → IsLed basis asked order.atom.from → (LeadsOut basis asked order → ⊥)
      → new ≡ record { points = old.points ++ order.atom.to ∷ []; room = old.room }
      → IsSearch basis asked new × ExtendsReached old new × ((o : Order) → IsRemainingWay basis asked o → o ≡ order → IsPassed basis asked new.points o)
  added old new order search way led not same =
      let through = goes_through basis asked ready is order way led not in
      let points_are : new.points ≡ old.points ++ order.atom.to ∷ [] = ap (λ (r : PlainReached). r.points) same in
      let now : IsSearch basis asked new = record {
        room = ap (λ (r : PlainReached). r.room) same ∙ search.room;
        through = subst (All (IsThrough basis asked)) (sym points_are) (All-push (IsThrough basis asked) old.points order.atom.to search.through through);
      } in
      (now, (order.atom.to ∷ [], points_are), λ o other e. passed_there new now order o (subst (λ (xs : List ℕ). Contains xs order.atom.to) (sym points_are) (Contains-push old.points order.atom.to)) e)

  -- a way that leads out is enough, or it is passed
  pub decided : (reached : PlainReached) (order : Order) (b : Bool) → IsSearch basis asked reached → IsRemainingWay basis asked order → IsLed basis asked order.atom.from → LeadsOut basis asked order
      → (IsTrue b ↔ IsEnough basis asked order) → GoesOn basis asked (λ o. o ≡ order) reached reached (Ok b)
  decided reached order true looks way led out says = ((order, way, led, says.0 (search rules)), looks.room)
  decided reached order false looks way led out says = (
    looks,
    extends_none reached,
    λ o other e.
        let not : IsEnough basis asked order → ⊥ = λ enough. let is_true = says.1 enough in absurd (search rules) in
        (λ enough. not (subst (IsEnough basis asked) e enough), inl (subst (LeadsOut basis asked) (sym e) out)),
  )

  -- one way more of a list is passed, or no way
  pub passed_one : (items : List Order) (i : ℕ) (d : Order) (mid new : PlainReached) → i < length items → ExtendsReached mid new
      → ((k : ℕ) (e : Order) → k < i → IsRemainingWay basis asked (get_or items k e) → IsPassed basis asked mid.points (get_or items k e))
      → ((o : Order) → IsRemainingWay basis asked o → o ≡ get_or items i d → IsPassed basis asked new.points o)
      → (k : ℕ) (e : Order) → k < i + 1 → IsRemainingWay basis asked (get_or items k e) → IsPassed basis asked new.points (get_or items k e)
  passed_one items i d mid new lt more before here k e less way = elim (cases_lt k i) [
    | inl earlier ↦ passed_more mid new more basis asked (get_or items k e) (before k e earlier way)
    | inr last ↦
        let same : k ≡ i = omega (arith, last, less) in
        here (get_or items k e) way (ap (λ (j : ℕ). get_or items j e) same ∙ get_or_default items i e d lt)
  ]
