-- Lists of pairs: one more, and the same ones in another order.
use Rattle.std.proofs.Common.{◌≡◌, ◌↔◌, ◌&&◌, IsTrue, inl, inr, ℕ, ◌+◌, ◌<◌, true, false, Bool, List, [], ◌∷◌, ◌++◌, length, take, drop, get_or, refl, subst, sym, ◌∙◌, arith}
use Rattle.std.specs.List.{All, Contains}
use Rattle.std.proofs.Math.ListN.{set}
use Rattle.std.proofs.lemmas.List.{drop_more, drop-set-lt, get_or-set_same, length-set, take-set, take_more}
use Rattle.net_core.proofs.MarkLaws.{contains_more}
use Rattle.evidence_check.specs.Pairs.{AreMoved}
use Rattle.evidence_check.specs.declared.pairs.Pair.{Pair}
use Rattle.std.proofs.lemmas.List.Elements.{All-append, All-cons, All-contains, All-nil, Contains-append_left, Contains-append_right, Contains-get_or}

-- what holds of all elements of a list holds of all of one that has no others
pub all_same : {X : Type 0} (P : X → Type 0) (xs ys : List X) → ((x : X) → Contains ys x → Contains xs x) → All P xs → All P ys
all_same P xs ys there all = λ k d below. All-contains P xs (get_or ys k d) all (there (get_or ys k d) (Contains-get_or ys k d below))

-- all elements and one more
pub all_more : {X : Type 0} (P : X → Type 0) (xs : List X) (x : X) → All P (xs ++ x ∷ []) ↔ (All P xs × P x)
all_more P xs x = (
  λ all. (all_same P (xs ++ x ∷ []) xs (λ y. Contains-append_left xs (x ∷ []) y) all, All-contains P (xs ++ x ∷ []) x all (Contains-append_right xs (x ∷ []) x (0, omega arith, refl))),
  λ h. All-append P xs (x ∷ []) h.0 (All-cons P x [] h.1 (All-nil P)),
)

-- the elements up to a place, and the one there
pub all_further : {X : Type 0} (P : X → Type 0) (xs : List X) (i : ℕ) (d : X) → i < length xs → All P (take (i + 1) xs) ↔ (All P (take i xs) × P (get_or xs i d))
all_further {X} P xs i d below = subst (λ (l : List X). All P l ↔ (All P (take i xs) × P (get_or xs i d))) (sym (take_more xs i d below)) (all_more P (take i xs) (get_or xs i d))

-- one test more
pub test_more : (all test : Bool) (All Last More : Type 0) → IsTrue all ↔ All → IsTrue test ↔ Last → More ↔ (All × Last) → IsTrue (all && test) ↔ More
test_more true true All Last More all test more = (λ h. more.1 (all.0 refl, test.0 refl), λ h. refl)
test_more true false All Last More all test more = (λ h. absurd cc, λ h. test.1 (more.0 h).1)
test_more false test All Last More all last more = (λ h. absurd cc, λ h. all.1 (more.0 h).0)

module _ (old new : List Pair) (k kept : ℕ) (moved : AreMoved old new k kept) (below : k < length old) (d : Pair) where
  -- the next pairs of both lists are the same, and so are those after them
  next : (get_or new k d ≡ get_or old k d) × (drop (k + 1) new ≡ drop (k + 1) old)
  next = let n = drop_more new k d (omega (arith, moved.size)) in let o = drop_more old k d below in let e : get_or new k d ∷ drop (k + 1) new ≡ get_or old k d ∷ drop (k + 1) old = sym n ∙ moved.to_come ∙ o in (cc, cc)

  -- where the next pair stands in front already, it is left out
  left_out : Contains (take kept new) (get_or new k d) → AreMoved old new (k + 1) kept
  left_out there = record {
    size = moved.size;
    few = omega (arith, moved.few);
    same = λ pair. (
      λ h. (contains_more old k d pair below).1 (inl ((moved.same pair).0 h)),
      λ h. elim ((contains_more old k d pair below).0 h) [
        | inl before ↦ (moved.same pair).1 before
        | inr last ↦ subst (Contains (take kept new)) (next.0 ∙ sym last) there
      ],
    );
    to_come = next.1;
  }

  pub moved_again : (same : List Pair) (no_more : ℕ) → Contains (take kept new) (get_or new k d) → same ≡ new → no_more ≡ kept → AreMoved old same (k + 1) no_more
  moved_again same no_more there is none = subst (λ (l : List Pair). AreMoved old l (k + 1) no_more) (sym is) (subst (AreMoved old new (k + 1)) (sym none) (left_out there))

  -- else it is put behind those in front
  put_behind : AreMoved old (set new kept (get_or new k d)) (k + 1) (kept + 1)
  put_behind = record {
    size = length-set new kept (get_or new k d) ∙ moved.size;
    few = omega (arith, moved.few);
    same = λ pair. (
      λ h. (contains_more old k d pair below).1 (elim ((contains_more (set new kept (get_or new k d)) kept d pair inside).0 h) [
        | inl before ↦ inl ((moved.same pair).0 (subst (λ (l : List Pair). Contains l pair) front before))
        | inr last ↦ inr (last ∙ here ∙ next.0)
      ]),
      λ h. (contains_more (set new kept (get_or new k d)) kept d pair inside).1 (elim ((contains_more old k d pair below).0 h) [
        | inl before ↦ inl (subst (λ (l : List Pair). Contains l pair) (sym front) ((moved.same pair).1 before))
        | inr last ↦ inr (last ∙ sym (here ∙ next.0))
      ]),
    );
    to_come = drop-set-lt (k + 1) new kept (get_or new k d) (omega (arith, moved.few)) ∙ next.1;
  }
    where
      inside : kept < length (set new kept (get_or new k d))
      inside = omega (arith, length-set new kept (get_or new k d), moved.few, moved.size, below)

      here : get_or (set new kept (get_or new k d)) kept d ≡ get_or new k d
      here = get_or-set_same new kept (get_or new k d) d (omega (arith, moved.few, moved.size, below))

      front : take kept (set new kept (get_or new k d)) ≡ take kept new
      front = take-set new kept (get_or new k d)

  pub moved_more : (more : List Pair) (one_more : ℕ) → more ≡ set new kept (get_or new k d) → one_more ≡ kept + 1 → AreMoved old more (k + 1) one_more
  moved_more more one_more is one = subst (λ (l : List Pair). AreMoved old l (k + 1) one_more) (sym is) (subst (AreMoved old (set new kept (get_or new k d)) (k + 1)) (sym one) put_behind)
