-- The seconds of a duration that a text spells are below the limit: each of its numbers has nine digits at most.
use Rattle.std.proofs.Common.{inl, inr, ℕ, ◌^◌, ◌<◌, ◌≤◌, true, false, ◌||◌, if◌then◌else◌, List, [], ◌∷◌, length, Option, Some, None, codes, arith}
use Rattle.std.specs.Prelude.{IfSome, IsFalse, option_and_then}
use Rattle.std.proofs.Math.Nat.{pow-le-pow_right}
use Rattle.std.proofs.lemmas.Int.Digits.{digits_value-lt}
use Rattle.seconds_core.specs.Timed.{max_length}
use Rattle.timex_value.specs.Durations.{CountThen, CountsThen, ClockText, is_present, has_clock}
use Rattle.timex_value.specs.declared.length.Count.{Count}
use Rattle.timex_value.specs.declared.length.Count.TheVariants.{Absent, Number, Unknown}
use Rattle.seconds_build.specs.Lengths.{DurationsAreBelowTheLimit, count_number, seconds_in}

-- a number has nine digits at most
abbrev HasFewDigits : Count → Type 0
HasFewDigits count = IfSome (count_number count) (λ n. n < 1_000_000_000)

abbrev HaveFewDigits : List Count → Type 0
HaveFewDigits [] = Unit {0}
HaveFewDigits (c ∷ counts) = HasFewDigits c × HaveFewDigits counts

few_digits : (unit : ℕ) (count : Count) (text rest : List ℕ) → CountThen unit count text rest → HasFewDigits count
few_digits unit Absent text rest h = omega arith
few_digits unit (Number n) text rest h =
    let digits = h.1.0 in
    let below = digits_value-lt 10 digits h.1.1 in
    let most : 10 ^ length digits ≤ 10 ^ 9 = pow-le-pow_right {n = 10} (omega arith) {i = length digits} {j = 9} (omega (arith, h.1.2)) in
    omega (arith, below, most, h.1.3)
few_digits unit Unknown text rest h = tt

all_few_digits : (units : List ℕ) (counts : List Count) (text rest : List ℕ) → CountsThen units counts text rest → HaveFewDigits counts
all_few_digits [] [] text rest h = tt
all_few_digits [] (c ∷ counts) text rest h = absurd h
all_few_digits (u ∷ units) [] text rest h = absurd h
all_few_digits (u ∷ units) (c ∷ counts) text rest h = (few_digits u c text h.0 h.1, all_few_digits units counts h.0 rest h.2)

-- where no clock is written, none of its counts is a number
no_clock : (h m s : Count) → IsFalse (has_clock h m s) → HaveFewDigits (h ∷ m ∷ s ∷ [])
no_clock (Number n) m s e = absurd cc
no_clock Unknown m s e = absurd cc
no_clock Absent (Number n) s e = absurd cc
no_clock Absent Unknown s e = absurd cc
no_clock Absent Absent (Number n) e = absurd cc
no_clock Absent Absent Unknown e = absurd cc
no_clock Absent Absent Absent e = (omega arith, (omega arith, (omega arith, tt)))

clock_few_digits : (h m s : Count) (text : List ℕ) → ClockText h m s text → HaveFewDigits (h ∷ m ∷ s ∷ [])
clock_few_digits h m s text (inl k) = no_clock h m s k.0
clock_few_digits h m s text (inr k) = all_few_digits (codes "HMS") (h ∷ m ∷ s ∷ []) k.1.0 [] k.1.2

-- what is made of a value, if there is one
then_if : {A B : Type 0} {P : A → Type 0} (Q : B → Type 0) (o : Option A) (f : A → Option B) → IfSome o P → ((x : A) → P x → IfSome (f x) Q) → IfSome (option_and_then f o) Q
then_if Q None f h k = tt
then_if Q (Some x) f h k = k x h

abbrev IsBelow : ℕ → Type 0
IsBelow n = n < max_length

seconds_below : (w d h m s : Count) → HaveFewDigits (w ∷ d ∷ h ∷ m ∷ s ∷ []) → IfSome (seconds_in w d h m s) (λ n. n < max_length)
seconds_below w d h m s few =
    then_if IsBelow (count_number w) _ few.0 (λ a below_a.
    then_if IsBelow (count_number d) _ few.1.0 (λ b below_b.
    then_if IsBelow (count_number h) _ few.1.1.0 (λ c below_c.
    then_if IsBelow (count_number m) _ few.1.1.1.0 (λ e below_e.
    then_if IsBelow (count_number s) _ few.1.1.1.1.0 (λ f below_f. omega arith)))))

pub durations_are_below : DurationsAreBelowTheLimit
durations_are_below text l h =
    let date = all_few_digits (codes "YMWD") (l.years ∷ l.months ∷ l.weeks ∷ l.days ∷ []) h.0 h.1 h.3 in
    let clock = clock_few_digits l.hours l.minutes l.seconds h.1 h.4 in
    let below = seconds_below l.weeks l.days l.hours l.minutes l.seconds (date.1.1.0, (date.1.1.1.0, clock)) in
    elim (is_present l.years || is_present l.months) as (λ b. IfSome (if b then None else seconds_in l.weeks l.days l.hours l.minutes l.seconds) IsBelow) [ true ↦ tt | false ↦ below ]
