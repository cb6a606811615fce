-- The numbers of a drill, and the intervals that are made of them.
use Rattle.std.proofs.Common.{◌≡◌, ℕ, List, Option, option_map, get_or, ◌+◌, ◌*◌, ◌<◌, [], ◌∷◌, ◌++◌, map, length, sym, ap, ◌∙◌, add-one, arith}
use Rattle.std.specs.List.{range_with_len}
use Rattle.std.proofs.lemmas.List.FromFn.{get_or-map-range_with_len, length-map-range_with_len, map-range_with_len_more}
use Rattle.net_core.specs.declared.net.Ends.{Ends}
use Rattle.net_core.specs.declared.rels.Rel.{Rel}
use Rattle.drill.specs.Numbers.{drawn, ends_by, first_relation, hidden, hidden_intervals, link_between, next}

-- every number drawn is below the prime
pub next_within : (x : ℕ) → next x < 65537
unfolding next
next_within x = omega arith

-- a number is drawn after the one before it
pub drawn_next : (n k m : ℕ) → m ≡ k + 1 → drawn n m ≡ next (drawn n k)
drawn_next n k m e = ap (drawn n) (e ∙ add-one k)

-- two numbers drawn after those of the first i intervals are the numbers of the next
pub next_two : (n i first second : ℕ) → first ≡ next (drawn n (2 * i)) → second ≡ next first → (first ≡ drawn n (2 * i + 1)) × (second ≡ drawn n (2 * i + 2))
next_two n i first second is_first is_second =
    let one : first ≡ drawn n (2 * i + 1) = is_first ∙ sym (drawn_next n (2 * i) (2 * i + 1) (omega arith)) in
    (one, is_second ∙ ap next one ∙ sym (drawn_next n (2 * i + 1) (2 * i + 2) (omega arith)))

-- so they make one hidden interval more
pub hidden_more : (n i first second : ℕ) (old new : List Ends) → first ≡ next (drawn n (2 * i)) → second ≡ next first
    → old ≡ map (hidden n) (range_with_len 0 i) → new ≡ old ++ ends_by first second ∷ [] → new ≡ map (hidden n) (range_with_len 0 (i + 1))
hidden_more n i first second old new is_first is_second so_far more =
    let two = next_two n i first second is_first is_second in
    more ∙ (λ k. so_far k ++ ends_by (two.0 k) (two.1 k) ∷ []) ∙ sym (map-range_with_len_more (hidden n) 0 i i (omega arith))

-- there are as many hidden intervals as the drill has
pub hidden_count : (n : ℕ) → length (hidden_intervals n) ≡ n
hidden_count n = length-map-range_with_len (hidden n) 0 n

-- one of them
pub hidden_at : (n i : ℕ) (all : List Ends) (d : Ends) → all ≡ hidden_intervals n → i < n → get_or all i d ≡ hidden n i
hidden_at n i all d is below = ap (λ (xs : List Ends). get_or xs i d) is ∙ get_or-map-range_with_len (hidden n) 0 n i i d below (omega arith)

-- a link is made of the relation that is found between two of them
pub link_made : (n i j : ℕ) (all : List Ends) (d : Ends) (found : Option Rel) → all ≡ hidden_intervals n → i < n → j < n → found ≡ first_relation (get_or all i d) (get_or all j d)
    → option_map (λ (r : Rel). record { a = i; rel = r; b = j }) found ≡ link_between n i j
link_made n i j all d found is below too same =
    let relation : found ≡ first_relation (hidden n i) (hidden n j) = same ∙ (λ k. first_relation (hidden_at n i all d is below k) (hidden_at n j all d is too k)) in
    ap (option_map (λ (r : Rel). record { a = i; rel = r; b = j })) relation

-- a list of all of them is known by its length
pub all_hidden : (n : ℕ) (all : List Ends) → all ≡ hidden_intervals n → all ≡ hidden_intervals (length all)
all_hidden n all is = is ∙ ap hidden_intervals (sym (ap length is ∙ hidden_count n))
