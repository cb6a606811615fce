-- States that are visited.
use Rattle.std.proofs.Common.{◌≡◌, ℕ, ◌+◌, ◌*◌, ◌/◌, ◌<◌, ◌≤◌, ◌||◌, Bool, true, false, cond, List, [], ◌∷◌, ◌++◌, length, get_or, set, reverse, take, Some, refl, sym, ap, subst, ◌∙◌, arith, inl, inr, get_or-set_other, length-append, length-set}
use Rattle.std.specs.List.{All, Any, count_by}
use Rattle.std.proofs.lemmas.Bool.{cases_eq}
use Rattle.std.proofs.lemmas.List.{append-nil, append_assoc, get_or_append_left, take_all, reverse-append}
use Rattle.std.proofs.lemmas.List.Elements.{All-append, All-cons, All-more, All-nil, All-push, All-weaker}
use Rattle.std.proofs.lemmas.List.Quantifiers.{Any-push}
use Rattle.std.proofs.lemmas.List.Sums.{count_by-le-length, sum_by-set}
use Rattle.net_core.specs.declared.step.Step.{Step}
use Rattle.walks.specs.States.{AreMarked, StatesGrow, HasState, IsStateEntry, IsPath, IsReached, EdgeLeadsTo, PlainStates, VisitsState, entry_at, next_entry, place, start_entry}
use Rattle.walks.specs.declared.edges.Edge.{Edge}
use Rattle.walks.specs.declared.states.Arrival.{Arrival}
use Rattle.walks.specs.declared.states.Entry.{Entry}

-- what is true of some element is so where more follow
pub any_more : {X : Type 0} (P : X → Type 0) (xs ys : List X) → Any P xs → Any P (xs ++ ys)
any_more P xs ys h = (h.0, h.1, let lt = h.2 in omega (arith, length-append xs ys), get_or_append_left xs ys h.1 h.0 h.2 ∙ h.3, h.4)

-- no two states have one mark
pub one_state : (p q : ℕ) (s r : Bool) → place p s ≡ place q r → (p ≡ q) × (s ≡ r)
one_state p q true true e = (omega arith, refl)
one_state p q true false e = absurd (omega arith)
one_state p q false true e = absurd (omega arith)
one_state p q false false e = (omega arith, refl)

-- the mark of a state of a point that has marks
place_within : (p n : ℕ) (strict : Bool) → p < n / 2 → place p strict < n
place_within p n true lt = omega arith
place_within p n false lt = omega arith

-- one entry more, and its mark
pub marked_push : (entries : List Entry) (seen : List Bool) (entry : Entry) (at : ℕ) → at ≡ place entry.point entry.strict → entry.point < length seen / 2 → get_or seen at false ≡ false
    → AreMarked entries seen → AreMarked (entries ++ entry ∷ []) (set seen at true)
marked_push entries seen entry at is lt no_mark marked =
    let long : length (set seen at true) ≡ length seen = length-set seen at true in
    let within : at < length seen = subst (λ (i : ℕ). i < length seen) (sym is) (place_within entry.point (length seen) entry.strict lt) in
    let count : count_by (λ mark. mark) (set seen at true) + 0 ≡ count_by (λ mark. mark) seen + 1 = rw no_mark at (sum_by-set (λ (mark : Bool). cond mark 1 0) seen at true false within) in
    record {
      even = rw long marked.even;
      held = λ p strict has. elim (cases_eq (place p strict) at) [
        | inl same ↦ let both = one_state entry.point p entry.strict strict (sym is ∙ sym same) in Any-push (IsStateEntry p strict) entries entry both
        | inr other ↦ any_more (IsStateEntry p strict) entries (entry ∷ []) (marked.held p strict (sym (get_or-set_other seen at (place p strict) true false other) ∙ has))
      ];
      counted = omega (arith, length-append entries (entry ∷ []), count, marked.counted);
      below = rw long (All-push (λ (e : Entry). e.point < length seen / 2) entries entry marked.below lt);
    }

-- there are at most two entries for each point
pub few_entries : (entries : List Entry) (seen : List Bool) → AreMarked entries seen → length entries ≤ 2 * (length seen / 2)
few_entries entries seen marked = omega (arith, marked.counted, marked.even, count_by-le-length (λ mark. mark) seen)

-- an entry stays where more follow
pub same_entry : (entries more : List Entry) (k : ℕ) → k < length entries → entry_at (entries ++ more) k ≡ entry_at entries k
same_entry entries more k lt = get_or_append_left entries more (start_entry 0) k lt

-- a visit of the entry that an edge leads to
pub followed : (old new : PlainStates) (k : ℕ) (edge : Edge) → k < length old.entries → edge.atom.from ≡ (entry_at old.entries k).point → VisitsState (next_entry (entry_at old.entries k) k edge) old new
    → StatesGrow (λ e. e ≡ edge) k old new × IsReached new.entries k edge
followed old new k edge lt from visits =
    let entry = next_entry (entry_at old.entries k) k edge in
    elim visits.grown [
      | inl same ↦ (
        record { points = visits.points; more = []; entries = same ∙ sym (append-nil old.entries); led = All-nil (EdgeLeadsTo (λ e. e ≡ edge) old.entries k) },
        subst (λ (es : List Entry). HasState new.entries edge.atom.to ((entry_at es k).strict || edge.atom.strict)) (sym same) visits.there,
      )
      | inr one ↦ (
        record { points = visits.points; more = entry ∷ []; entries = one; led = All-cons (EdgeLeadsTo (λ e. e ≡ edge) old.entries k) entry [] (edge, refl, from, refl) (All-nil (EdgeLeadsTo (λ e. e ≡ edge) old.entries k)) },
        subst (λ (e : Entry). HasState new.entries edge.atom.to (e.strict || edge.atom.strict)) (sym (same_entry old.entries (entry ∷ []) k lt) ∙ ap (λ (es : List Entry). entry_at es k) (sym one)) visits.there,
      )
    ]

-- one step more before a path
pub path_more : (entries : List Entry) (last k : ℕ) (arrival : Arrival) (steps : List Step) → k < length entries → (entry_at entries k).arrival ≡ Some arrival
    → IsPath entries last k (reverse steps) → IsPath entries last arrival.parent (reverse (steps ++ arrival.step ∷ []))
path_more entries last k arrival steps lt came path = rw reverse-append (k, lt, came, path)

-- edges of a wider set
pub grows_wider : (P Q : Edge → Type 0) (k : ℕ) (old new : PlainStates) → ((edge : Edge) → P edge → Q edge) → StatesGrow P k old new → StatesGrow Q k old new
grows_wider P Q k old new wider grown = record {
  points = grown.points;
  more = grown.more;
  entries = grown.entries;
  led = All-weaker (EdgeLeadsTo P old.entries k) (EdgeLeadsTo Q old.entries k) (λ entry h. (h.0, wider h.0 h.1, h.2, h.3)) grown.more grown.led;
}

-- an entry stays where the states grow
pub grown_entry : (IsWay : Edge → Type 0) (k j : ℕ) (old new : PlainStates) → j < length old.entries → StatesGrow IsWay k old new → entry_at new.entries j ≡ entry_at old.entries j
grown_entry IsWay k j old new lt grown = ap (λ (es : List Entry). entry_at es j) grown.entries ∙ same_entry old.entries grown.more j lt

-- some states, and then others
pub grows_then : (IsWay : Edge → Type 0) (k : ℕ) (old mid new : PlainStates) → k < length old.entries → StatesGrow IsWay k old mid → StatesGrow IsWay k mid new → StatesGrow IsWay k old new
grows_then IsWay k old mid new lt first second =
    let here = grown_entry IsWay k k old mid lt first in
    record {
      points = second.points ∙ first.points;
      more = first.more ++ second.more;
      entries = second.entries ∙ ap (λ (es : List Entry). es ++ second.more) first.entries ∙ append_assoc old.entries first.more second.more;
      led = All-append (EdgeLeadsTo IsWay old.entries k) first.more second.more first.led (All-weaker (EdgeLeadsTo IsWay mid.entries k) (EdgeLeadsTo IsWay old.entries k)
          (λ entry h. (h.0, h.1, h.2 ∙ ap (λ (e : Entry). e.point) here, h.3 ∙ ap (λ (e : Entry). next_entry e k h.0) here)) second.more second.led);
    }

-- a state that was visited stays so
pub state_kept : (IsWay : Edge → Type 0) (k p : ℕ) (strict : Bool) (old new : PlainStates) → StatesGrow IsWay k old new → HasState old.entries p strict → HasState new.entries p strict
state_kept IsWay k p strict old new grown has = subst (λ (es : List Entry). HasState es p strict) (sym grown.entries) (any_more (IsStateEntry p strict) old.entries grown.more has)

-- and so does one that an edge leads to
pub reached_kept : (IsWay : Edge → Type 0) (k j : ℕ) (edge : Edge) (old new : PlainStates) → j < length old.entries → StatesGrow IsWay k old new → IsReached old.entries j edge → IsReached new.entries j edge
reached_kept IsWay k j edge old new lt grown has =
    subst (λ (e : Entry). HasState new.entries edge.atom.to (e.strict || edge.atom.strict)) (sym (grown_entry IsWay k j old new lt grown)) (state_kept IsWay k edge.atom.to ((entry_at old.entries j).strict || edge.atom.strict) old new grown has)

-- edges of a list of anything are followed one after another from entry k
module _ {X : Type 0} (edge_of : X → Edge) (xs : List X) (IsWay : Edge → Type 0) (k : ℕ) where
  -- one more
  pub follows_more : (i : ℕ) (x : X) (edge : Edge) (old mid new : PlainStates) → k < length old.entries → i < length xs → edge ≡ edge_of (get_or xs i x) → IsWay (edge_of (get_or xs i x))
      → StatesGrow IsWay k old mid → All (λ (y : X). IsReached mid.entries k (edge_of y)) (take i xs)
      → StatesGrow (λ e. e ≡ edge) k mid new → IsReached new.entries k edge
      → StatesGrow IsWay k old new × All (λ (y : X). IsReached new.entries k (edge_of y)) (take (i + 1) xs)
  follows_more i x edge old mid new lt li is way grown reached one here =
      let still : k < length mid.entries = omega (arith, ap length grown.entries ∙ length-append old.entries grown.more) in (
        grows_then IsWay k old mid new lt grown (grows_wider (λ e. e ≡ edge) IsWay k mid new (λ e same. subst IsWay (sym (same ∙ is)) way) one),
        All-more (λ (y : X). IsReached new.entries k (edge_of y)) xs i x li
            (All-weaker (λ (y : X). IsReached mid.entries k (edge_of y)) (λ (y : X). IsReached new.entries k (edge_of y)) (λ y. reached_kept (λ e. e ≡ edge) k k (edge_of y) mid new still one) (take i xs) reached)
            (subst (IsReached new.entries k) is here),
      )

  -- all of them
  pub follows_all : (i : ℕ) (states : PlainStates) → length xs ≤ i → All (λ (y : X). IsReached states.entries k (edge_of y)) (take i xs) → All (λ (y : X). IsReached states.entries k (edge_of y)) xs
  follows_all i states le reached = subst (All (λ (y : X). IsReached states.entries k (edge_of y))) (take_all i xs le) reached
