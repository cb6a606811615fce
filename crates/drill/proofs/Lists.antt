-- Lists that are made of the items of another.
use Rattle.std.proofs.Common.{◌≡◌, ℕ, zero, suc, ◌+◌, ◌*◌, ◌<◌, ◌≤◌, Bool, true, false, cond, List, [], ◌∷◌, ◌++◌, length, Option, None, Some, option_map, refl, sym, ap, ◌∙◌, add-zero, arith, length-append}
use Rattle.std.specs.List.{AllByRecursion, cons_option, filter_map, find, flat_map, range_with_len}
use Rattle.std.specs.Option.{IfSome}

-- a range with one number more
pub range_more : (a k j : ℕ) → a + k ≡ j → range_with_len a (k + 1) ≡ range_with_len a k ++ j ∷ []
range_more a zero j e = ap (λ x. x ∷ []) (sym (add-zero a) ∙ e)
range_more a (suc k) j e =
    let more : range_with_len (a + 1) (k + 1) ≡ range_with_len (a + 1) k ++ j ∷ [] = range_more (a + 1) k j (omega arith) in
    let is : suc k + 1 ≡ suc (k + 1) = omega arith in
    ap (range_with_len a) is ∙ ap (λ xs. a ∷ xs) more

-- what holds of each number from a on holds in a range
pub all_range : (P : ℕ → Type 0) (a n : ℕ) → ((i : ℕ) → a ≤ i → i < a + n → P i) → AllByRecursion P (range_with_len a n)
all_range P a zero each = tt
all_range P a (suc n) each = (each a (omega arith) (omega arith), all_range P (a + 1) n (λ i ge lt. each i (omega arith) (omega arith)))

-- and of a list with a value first that may be missing
all_put_first : {X : Type 0} (P : X → Type 0) (o : Option X) (xs : List X) → IfSome o P → AllByRecursion P xs → AllByRecursion P (cons_option o xs)
all_put_first P None xs h k = k
all_put_first P (Some x) xs h k = (h, k)

-- what holds of each value that is made holds of all
pub all_filter_map : {X Y : Type 0} (P : Y → Type 0) (f : X → Option Y) (xs : List X) → AllByRecursion (λ x. IfSome (f x) P) xs → AllByRecursion P (filter_map f xs)
all_filter_map P f [] h = tt
all_filter_map P f (x ∷ xs) h = all_put_first P (f x) (filter_map f xs) h.0 (all_filter_map P f xs h.1)

-- such a list has at most one item more
put_first_length : {X : Type 0} (o : Option X) (xs : List X) → length (cons_option o xs) ≤ length xs + 1
put_first_length None xs = omega arith
put_first_length (Some x) xs = omega arith

-- no more values are made than there are items
pub filter_map_length : {X Y : Type 0} (f : X → Option Y) (xs : List X) → length (filter_map f xs) ≤ length xs
filter_map_length f [] = omega arith
filter_map_length f (x ∷ xs) = omega (arith, put_first_length (f x) (filter_map f xs), filter_map_length f xs)

-- parts of at most k items have at most k times as many items as there are parts
pub flat_map_length : {X Y : Type 0} (f : X → List Y) (k : ℕ) (xs : List X) → AllByRecursion (λ x. length (f x) ≤ k) xs → length (flat_map f xs) ≤ k * length xs
flat_map_length f k [] h = omega arith
flat_map_length f k (x ∷ xs) h = omega (arith, length-append (f x) (flat_map f xs), h.0, flat_map_length f k xs h.1)

-- a value that is taken where a test passes
chosen : {X : Type 0} (P : X → Type 0) (b : Bool) (x : X) (rest : Option X) → (b ≡ true → P x) → IfSome rest P → IfSome (cond b (Some x) rest) P
chosen P true x rest here there = here refl
chosen P false x rest here there = there

-- what is found passes the test
pub found_passes : {X : Type 0} (test : X → Bool) (xs : List X) → IfSome (find test xs) (λ x. test x ≡ true)
found_passes test [] = tt
found_passes test (x ∷ xs) = chosen (λ y. test y ≡ true) (test x) x (find test xs) (λ h. h) (found_passes test xs)

-- what holds of all that is made of values holds of what is made of one that may be missing
pub if_some_made : {X Y : Type 0} (P : Y → Type 0) (f : X → Y) (o : Option X) → IfSome o (λ x. P (f x)) → IfSome (option_map f o) P
if_some_made P f None h = tt
if_some_made P f (Some x) h = h
