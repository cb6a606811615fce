-- Numbers that rise, each of which leaves numbers for those to come after it: by their places, and one after another.
use Rattle.std.proofs.Common.{◌≡◌, ℕ, zero, suc, ◌+◌, ◌-◌, ◌^◌, ◌<◌, ◌≤◌, List, [], ◌∷◌, ◌++◌, length, get_or, refl, ap, add-zero, add-suc, add-one, arith}
use Rattle.std.specs.List.{AllByRecursion}
use Rattle.std.specs.List.Sorted.{IsStrictlyIncreasing}
use Rattle.std.proofs.lemmas.List.Elements.{All-from_recursion}
use Rattle.line_texts.specs.Numbers.{IsNumber}
use Rattle.evidence_format.specs.Evidence.{AreCites}
use Rattle.evidence_format.specs.Parts.{LeaveNumbers}

-- the number is at least the least one, and leaves numbers for those to come
abbrev pub IsCite : ℕ → ℕ → ℕ → Type 0
IsCite left least link = (least ≤ link) × IsNumber (link + left)

-- no more than n numbers, which rise, the first at least the least one, and each leaves numbers for those to come
abbrev pub Rise : ℕ → ℕ → List ℕ → Type 0
Rise n least [] = Unit {0}
Rise zero least (k ∷ ks) = ⊥
Rise (suc left) least (k ∷ ks) = IsCite left least k × Rise left (k + 1) ks

-- ---- from their places

-- the next number is larger
next : (ks : List ℕ) (i : ℕ) → IsStrictlyIncreasing ks → suc i < length ks → get_or ks i 0 < get_or ks (suc i) 0
next ks i rise less = rw (← add-one i) (rise i (omega arith))

-- numbers that rise are as far apart as their places, or farther
climb : (ks : List ℕ) (i d : ℕ) → IsStrictlyIncreasing ks → i + d < length ks → get_or ks i 0 + d ≤ get_or ks (i + d) 0
climb ks i zero rise less = rw (add-zero i) (omega arith)
climb ks i (suc d) rise less = rw (add-suc i d) (omega (arith, climb ks i d rise (omega arith), next ks (i + d) rise (omega arith)))

-- cites leave numbers for those to come
all_leave : (ks : List ℕ) → AreCites ks → LeaveNumbers (length ks) ks
all_leave ks h i less =
    let last : i + (length ks - (i + 1)) < length ks = omega arith in
    let up = climb ks i (length ks - (i + 1)) h.0 last in
    let small : IsNumber (get_or ks (i + (length ks - (i + 1))) 0) = h.1 (i + (length ks - (i + 1))) 0 last in
    omega arith

-- numbers that rise by their places rise one after another
pub rise_from_places : (n least : ℕ) (ks : List ℕ) → length ks ≤ n → IsStrictlyIncreasing ks → LeaveNumbers n ks → (0 < length ks → least ≤ get_or ks 0 0) → Rise n least ks
rise_from_places n least [] few rise leave low = tt
rise_from_places zero least (k ∷ ks) few rise leave low = absurd (omega arith)
rise_from_places (suc left) least (k ∷ ks) few rise leave low =
    let first : IsCite left least k = (low (omega arith), (let room = leave 0 (omega arith) in omega arith)) in
    let more = rise_from_places left (k + 1) ks (omega arith) (λ i less. rw (add-one i) (next (k ∷ ks) (suc i) rise (omega arith))) (λ i less. let room = leave (suc i) (omega arith) in omega arith) (λ some. let up = next (k ∷ ks) 0 rise (omega arith) in omega arith) in
    (first, more)

-- cites rise one after another
pub rise_from_cites : (ks : List ℕ) → AreCites ks → Rise (length ks) 0 ks
rise_from_cites ks h = rise_from_places (length ks) 0 ks (omega arith) h.0 (all_leave ks h) (λ some. omega arith)

-- ---- to their places

-- the first number is at least the least one
first_rises : (n least : ℕ) (ks : List ℕ) → Rise n least ks → 0 < length ks → least ≤ get_or ks 0 0
first_rises n least [] h some = absurd (omega arith)
first_rises zero least (k ∷ ks) h some = absurd h
first_rises (suc left) least (k ∷ ks) h some = h.0.0

-- the next number is larger
places_rise : (n least : ℕ) (ks : List ℕ) (i : ℕ) → Rise n least ks → suc i < length ks → get_or ks i 0 < get_or ks (suc i) 0
places_rise n least [] i h less = absurd (omega arith)
places_rise zero least (k ∷ ks) i h less = absurd h
places_rise (suc left) least (k ∷ ks) zero h less = omega (arith, first_rises left (k + 1) ks h.1 (omega arith))
places_rise (suc left) least (k ∷ ks) (suc i) h less = places_rise left (k + 1) ks i h.1 (omega arith)

-- numbers that rise one after another rise by their places
pub increasing : (n least : ℕ) (ks : List ℕ) → Rise n least ks → IsStrictlyIncreasing ks
increasing n least ks h i less = rw (add-one i) (places_rise n least ks i h (omega arith))

-- they leave numbers for those to come
pub leaving : (n least : ℕ) (ks : List ℕ) → Rise n least ks → LeaveNumbers n ks
leaving n least [] h i less = absurd (omega arith)
leaving zero least (k ∷ ks) h i less = absurd h
leaving (suc left) least (k ∷ ks) h zero less = omega (arith, h.0.1)
leaving (suc left) least (k ∷ ks) h (suc i) less = omega (arith, leaving left (k + 1) ks h.1 i (omega arith))

-- they can stand in a text
numbers : (n least : ℕ) (ks : List ℕ) → Rise n least ks → AllByRecursion IsNumber ks
numbers n least [] h = tt
numbers zero least (k ∷ ks) h = absurd h
numbers (suc left) least (k ∷ ks) h = (omega (arith, h.0.1), numbers left (k + 1) ks h.1)

-- this number of numbers that rise one after another are cites
pub cites_from_rise : (n : ℕ) (ks : List ℕ) → IsNumber n → length ks ≡ n → Rise n 0 ks → AreCites ks
cites_from_rise n ks small len h = (increasing n 0 ks h, All-from_recursion IsNumber ks (numbers n 0 ks h), omega arith)

-- ---- the first of them, and more of them

-- the first of numbers that rise
pub rise_prefix : (n least : ℕ) (us ws : List ℕ) → Rise n least (us ++ ws) → Rise n least us
rise_prefix n least [] ws h = tt
rise_prefix zero least (k ∷ us) ws h = h
rise_prefix (suc left) least (k ∷ us) ws h = (h.0, rise_prefix left (k + 1) us ws h.1)

-- numbers that rise go on to n of them
pub rise_on : (n least : ℕ) (ks : List ℕ) → least + n ≤ 2 ^ 32 → Rise n least ks → (more : List ℕ) × Rise n least (ks ++ more) × (length (ks ++ more) ≡ n)
rise_on zero least [] room h = ([], tt, refl)
rise_on zero least (k ∷ ks) room h = absurd h
rise_on (suc left) least [] room h = let more = rise_on left (least + 1) [] (omega arith) tt in (least ∷ more.0, ((omega arith, omega arith), more.1), ap suc more.2)
rise_on (suc left) least (k ∷ ks) room h = let more = rise_on left (k + 1) ks (omega (arith, h.0.1)) h.1 in (more.0, (h.0, more.1), ap suc more.2)
