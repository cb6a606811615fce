-- The sides of a search from two points.
use Rattle.std.proofs.Common.{◌≡◌, inl, inr, ℕ, ◌+◌, ◌<◌, true, false, List, [], ◌∷◌, ◌++◌, length, get_or, slice_index, Ok, sym, ap, subst, ◌∙◌, arith}
use Rattle.std.specs.List.{All, Contains}
use Rattle.std.proofs.lemmas.Bool.{cases_lt}
use Rattle.std.proofs.lemmas.List.{get_or_default}
use Rattle.std.proofs.lemmas.List.Elements.{All-push, Contains-get_or, Contains-push_cases}
use Rattle.net_orders.specs.declared.orders.Order.{Order}
use Rattle.tml_score.specs.Ends.{point_at_end, far_end_of}
use Rattle.tml_score.specs.Graph.{AreOfPoint, by_end}
use Rattle.tml_score.specs.Meeting.{ShareNoPoint, IsOn, IsPassedAt, IsSide, VisitsPoint}
use Rattle.tml_score.specs.Reached.{PlainReached}
use Rattle.tml_score.specs.Search.{Basis, ExtendsReached, IsAsked, IsReady, IsRemainingWay, remains}
use Rattle.tml_score.specs.Tree.{no_order}
use Rattle.tml_score.specs.declared.ends.End.{End}
use Rattle.tml_score.specs.declared.ends.End.TheVariants.{From, To}
use Rattle.tml_score.specs.declared.search.AskedOrder.{AskedOrder}
use Rattle.net_core.specs.Nets.{points}
use Rattle.tml_score.proofs.GraphLaws.{at_end}
use Rattle.tml_score.proofs.Searching.{goes_back, goes_on}
use Rattle.tml_score.proofs.TieLaws.{far_within}
use Rattle.tml_score.proofs.Spreading.{extends_none, same_point, still_there}

module _ (basis : Basis) (asked : AskedOrder) where
  -- what is passed stays so
  pub passed_at_more : (old new : PlainReached) → ExtendsReached old new → (x : ℕ) → IsPassedAt basis asked old.points x → IsPassedAt basis asked new.points x
  passed_at_more old new more x passed = elim passed [ inl there ↦ inl (still_there old new more x there) | inr not ↦ inr not ]

  -- a side after a point was visited
  pub side_visited : (P : ℕ → Type 0) (x : ℕ) (other old new : PlainReached) → P x → IsSide basis P old → ShareNoPoint old other → VisitsPoint basis asked x other old new (Ok false)
      → IsSide basis P new × ExtendsReached old new × ShareNoPoint new other × IsPassedAt basis asked new.points x
  side_visited P x other old new here side apart visits = elim visits.0 [
    | inl same ↦ subst (λ (r : PlainReached). IsSide basis P r × ExtendsReached old r × ShareNoPoint r other × IsPassedAt basis asked r.points x) (sym same)
        (side, extends_none old, apart, subst (λ (r : PlainReached). IsPassedAt basis asked r.points x) same visits.1)
    | inr added ↦
        let points_are : new.points ≡ old.points ++ x ∷ [] = ap (λ (r : PlainReached). r.points) added in (
          record {
            room = ap (λ (r : PlainReached). r.room) added ∙ side.room;
            all = subst (All P) (sym points_are) (All-push P old.points x side.all here);
          },
          (x ∷ [], points_are),
          λ y own there. elim (Contains-push_cases old.points x y (subst (λ (xs : List ℕ). Contains xs y) points_are own)) [
            | inl was ↦ apart y was there
            | inr is ↦ visits.2 (subst (Contains other.points) (sym is) there)
          ],
          visits.1,
        )
  ]

  -- one way more of a list is passed
  pub passed_at_one : (near : End) (items : List Order) (i : ℕ) (d : Order) (old new : PlainReached) → i < length items → ExtendsReached old new
      → ((k : ℕ) (e : Order) → k < i → IsRemainingWay basis asked (get_or items k e) → IsPassedAt basis asked old.points (far_end_of near (get_or items k e)))
      → (IsRemainingWay basis asked (get_or items i d) → IsPassedAt basis asked new.points (far_end_of near (get_or items i d)))
      → (k : ℕ) (e : Order) → k < i + 1 → IsRemainingWay basis asked (get_or items k e) → IsPassedAt basis asked new.points (far_end_of near (get_or items k e))
  passed_at_one near items i d old new lt more before here k e less way = elim (cases_lt k i) [
    | inl earlier ↦ passed_at_more old new more (far_end_of near (get_or items k e)) (before k e earlier way)
    | inr last ↦
        let same : i ≡ k = omega (arith, last, less) in
        let is : get_or items i d ≡ get_or items k e = ap (λ (j : ℕ). get_or items j d) same ∙ get_or_default items k d e (omega (arith, lt, same)) in
        subst (λ (o : Order). IsPassedAt basis asked new.points (far_end_of near o)) is (here (subst (IsRemainingWay basis asked) (sym is) way))
  ]

  -- what is known at a turn of the orders of a point
  pub record IsTurn (near : End) (point : ℕ) (o : Order) : Type 0 where
    pub of_net : Contains basis.graph.onward.items o
    pub far : far_end_of near o < points basis.net
    pub reaches : remains basis asked o ≡ true → IsOn near basis asked point → IsOn near basis asked (far_end_of near o)

  pub at_turn : IsReady basis → IsAsked basis asked → (near : End) (items : List Order) (point i : ℕ)
      → AreOfPoint (by_end near basis.graph) point items → i < length items → IsTurn near point (get_or items i no_order)
  at_turn ready is near items point i exact lt =
      let o = get_or items i no_order in
      let here = (at_end basis.net basis.graph ready.graph near items point exact o).0 (Contains-get_or items i no_order lt) in
      record {
        of_net = here.0;
        far = far_within basis ready near o here.0;
        reaches = λ stays on. goes_far near o (here.0, stays) (subst (IsOn near basis asked) (sym here.1) on);
      }
    where
      goes_far : (near : End) (o : Order) → IsRemainingWay basis asked o → IsOn near basis asked (point_at_end near o) → IsOn near basis asked (far_end_of near o)
      goes_far From = goes_on basis asked ready is
      goes_far To = goes_back basis asked ready is

  -- the points of one turn more are passed
  pub passed_turn : (near : End) (turn : ℕ) (old new : PlainReached) → turn < length old.points → ExtendsReached old new
      → ((k : ℕ) → k < turn → (o : Order) → IsRemainingWay basis asked o → point_at_end near o ≡ slice_index old.points k → IsPassedAt basis asked old.points (far_end_of near o))
      → ((o : Order) → IsRemainingWay basis asked o → point_at_end near o ≡ slice_index old.points turn → IsPassedAt basis asked new.points (far_end_of near o))
      → (k : ℕ) → k < turn + 1 → (o : Order) → IsRemainingWay basis asked o → point_at_end near o ≡ slice_index new.points k → IsPassedAt basis asked new.points (far_end_of near o)
  passed_turn near turn old new lt more before here k less o way at = elim (cases_lt k turn) [
    | inl earlier ↦ passed_at_more old new more (far_end_of near o) (before k earlier o way (at ∙ same_point old new more k (omega (arith, earlier, lt))))
    | inr last ↦
        let same : k ≡ turn = omega (arith, last, less) in
        here o way (at ∙ ap (slice_index new.points) same ∙ same_point old new more turn lt)
  ]
