-- It is decided whether a text has a calendar shape: field by field, each at its place.
use Rattle.std.proofs.Common.{◌≡◌, ℕ, suc, ◌+◌, ◌≤◌, List, [], ◌∷◌, length, slice_index, subst, arith}
use Rattle.std.specs.Str.{byte}
use Rattle.named.proofs.Deciding.{or_else, some_number}
use mathlib.Core.List.{List-discrete}
use mathlib.Core.Logic.Dec
use native.Mathlib.Decide.{dec_le, ℕ_discrete}
use Rattle.timex_value.specs.declared.shape.Year.{Year}
use Rattle.timex_value.specs.declared.shape.Year.TheVariants as YearOf
use Rattle.timex_value.specs.declared.shape.Part.{Part}
use Rattle.timex_value.specs.declared.shape.Part.TheVariants as PartOf
use Rattle.timex_value.specs.declared.shape.Shape.{Shape}
use Rattle.timex_value.specs.declared.shape.Shape.TheVariants as ShapeOf
use Rattle.timex_value.specs.Text.{year_text, year_digits, part_text, digit_text, IsWritten, Spells}
use Rattle.timex_value.specs.Places.{YearFirst, DecadeFirst, CenturyFirst, YearIn, ByteAt, DigitAt, DigitAfter, PartAfter, WeekAfter, HasShape}
use Rattle.timex_value.proofs.Places.{by_place, by_text}
use Rattle.timex_value.proofs.Spelling.{one_shape}

same_bytes : (a b : List ℕ) → Dec (a ≡ b)
same_bytes = List-discrete ℕ_discrete

-- some number up to a limit with a property, and some field that is written
some_up_to : (limit : ℕ) (P : ℕ → Type 0) → ((n : ℕ) → Dec (P n)) → Dec ((n : ℕ) × ((n ≤ limit) × P n))
some_up_to limit P decided = some_number (λ n. (n ≤ limit) × P n) (λ n. Dec.and (dec_le n limit) (decided n)) (suc limit) (λ n h. let within = h.0 in omega arith)

some_part : (limit : ℕ) (P : Part → Type 0) → ((p : Part) → Dec (P p)) → Dec ((p : Part) × (IsWritten limit p × P p))
some_part limit P decided =
    or_else (decided PartOf.Unknown) (λ h. (PartOf.Unknown, (tt, h))) (λ not_unknown.
    or_else (some_up_to limit (λ n. P (PartOf.Known n)) (λ n. decided (PartOf.Known n))) (λ h. (PartOf.Known h.0, h.1)) (λ not_known.
    no (λ h. elim h.0 as (λ p. IsWritten limit p × P p → ⊥) [ PartOf.Known n ↦ λ k. not_known (n, k) | PartOf.Unknown ↦ λ k. not_unknown k.1 ] h.1)))

module _ (text : List ℕ) where
  -- whether a year comes first
  has_year : Dec ((y : Year) × YearFirst y text)
  has_year =
      let four = λ (y : Year). same_bytes (year_text y) (slice_index text 0 ∷ slice_index text 1 ∷ slice_index text 2 ∷ slice_index text 3 ∷ []) in
      or_else (four YearOf.Unknown) (λ h. (YearOf.Unknown, (tt, h))) (λ not_unknown.
      or_else (some_up_to 9999 _ (λ n. four (YearOf.Known n))) (λ h. (YearOf.Known h.0, h.1)) (λ not_known.
      or_else (some_up_to 999 _ (λ n. four (YearOf.Decade n))) (λ h. (YearOf.Decade h.0, h.1)) (λ not_decade.
      or_else (some_up_to 99 _ (λ n. four (YearOf.Century n))) (λ h. (YearOf.Century h.0, h.1)) (λ not_century.
      no (λ h. elim h.0 as (λ y. YearFirst y text → ⊥) [
        | YearOf.Known n ↦ λ k. not_known (n, k)
        | YearOf.Decade n ↦ λ k. not_decade (n, k)
        | YearOf.Century n ↦ λ k. not_century (n, k)
        | YearOf.Unknown ↦ λ k. not_unknown k.1
      ] h.1)))))

  -- or a decade, or a century
  has_decade : Dec ((y : Year) × DecadeFirst y text)
  has_decade =
      Dec.of_iff (
        λ h. (YearOf.Decade h.0, (h.1.0, h.1.1, tt)),
        λ h. elim h.0 as (λ y. DecadeFirst y text → _) [
          | YearOf.Known n ↦ λ k. absurd k.2
          | YearOf.Decade n ↦ λ k. (n, (k.0, k.1))
          | YearOf.Century n ↦ λ k. absurd k.2
          | YearOf.Unknown ↦ λ k. absurd k.2
        ] h.1,
      )
      (some_up_to 999 _ (λ n. same_bytes (year_digits (YearOf.Decade n)) (slice_index text 0 ∷ slice_index text 1 ∷ slice_index text 2 ∷ [])))

  has_century : Dec ((y : Year) × CenturyFirst y text)
  has_century =
      Dec.of_iff (
        λ h. (YearOf.Century h.0, (h.1.0, h.1.1, tt)),
        λ h. elim h.0 as (λ y. CenturyFirst y text → _) [
          | YearOf.Known n ↦ λ k. absurd k.2
          | YearOf.Decade n ↦ λ k. absurd k.2
          | YearOf.Century n ↦ λ k. (n, (k.0, k.1))
          | YearOf.Unknown ↦ λ k. absurd k.2
        ] h.1,
      )
      (some_up_to 99 _ (λ n. same_bytes (year_digits (YearOf.Century n)) (slice_index text 0 ∷ slice_index text 1 ∷ [])))

  -- whether the year is there as the shape has it
  has_year_in : (s : Shape) → Dec ((y : Year) × YearIn s y text)
  has_year_in ShapeOf.Decade = has_decade
  has_year_in ShapeOf.Century = has_century
  has_year_in s = has_year

  is_long : (n : ℕ) → Dec (length text ≡ n)
  is_long n = ℕ_discrete (length text) n

  has_byte : (k b : ℕ) → Dec (ByteAt k b text)
  has_byte k b = ℕ_discrete (slice_index text k) b

  -- whether a field of one byte is there, or one of two bytes after a byte
  has_digit : (k : ℕ) → Dec ((p : Part) × DigitAt k p text)
  has_digit k = some_part 9 _ (λ p. same_bytes (digit_text p) (slice_index text k ∷ []))

  has_part : (k b : ℕ) → Dec ((p : Part) × PartAfter k b p text)
  has_part k b =
      Dec.of_iff (λ h. (h.1.0, (h.0, h.1.1)), λ h. (h.1.0, (h.0, h.1.1)))
      (Dec.and (has_byte k b) (some_part 99 _ (λ p. same_bytes (part_text p) (slice_index text (k + 1) ∷ slice_index text (k + 1 + 1) ∷ []))))

  has_week : Dec ((w : Part) × WeekAfter w text)
  has_week = Dec.of_iff (λ h. (h.1.0, (h.0, h.1.1)), λ h. (h.1.0, (h.0, h.1.1))) (Dec.and (has_byte 4 (byte "-")) (has_part 5 (byte "W")))

  has_digit_after : (b : ℕ) → Dec ((p : Part) × DigitAfter b p text)
  has_digit_after b =
      Dec.of_iff (λ h. (h.1.1.0, (h.0, h.1.0, h.1.1.1)), λ h. (h.1.0, (h.1.1, (h.0, h.1.2))))
      (Dec.and (has_byte 4 (byte "-")) (Dec.and (has_byte 5 b) (has_digit 6)))

  -- whether the fields of a shape are there: one shape after another is tried
  has_shape : Dec ((s : Shape) × HasShape s text)
  has_shape =
      let month = has_part 4 (byte "-") in
      let date = Dec.and month (has_part 7 (byte "-")) in
      let hour = has_part 10 (byte "T") in
      let minute = has_part 13 (byte ":") in
      let second = has_part 16 (byte ":") in
      or_else (is_long 4) (λ h. (ShapeOf.Year, h)) (λ not_year.
      or_else (Dec.and (is_long 7) month) (λ h. (ShapeOf.Month h.1.0, (h.0, h.1.1))) (λ not_month.
      or_else (Dec.and (is_long 10) date) (λ h. (ShapeOf.Day h.1.0.0 h.1.1.0, (h.0, h.1.0.1, h.1.1.1))) (λ not_day.
      or_else (Dec.and (is_long 8) has_week) (λ h. (ShapeOf.Week h.1.0, (h.0, h.1.1))) (λ not_week.
      or_else (Dec.and (is_long 10) (Dec.and has_week (Dec.and (has_byte 8 (byte "-")) (has_digit 9)))) (λ h. (ShapeOf.Weekday h.1.0.0 h.1.1.1.0, (h.0, h.1.0.1, h.1.1.0, h.1.1.1.1))) (λ not_weekday.
      or_else (Dec.and (is_long 7) (has_digit_after (byte "Q"))) (λ h. (ShapeOf.Quarter h.1.0, (h.0, h.1.1))) (λ not_quarter.
      or_else (Dec.and (is_long 7) (has_digit_after (byte "H"))) (λ h. (ShapeOf.Half h.1.0, (h.0, h.1.1))) (λ not_half.
      or_else (is_long 3) (λ h. (ShapeOf.Decade, h)) (λ not_decade.
      or_else (is_long 2) (λ h. (ShapeOf.Century, h)) (λ not_century.
      or_else (Dec.and (is_long 13) (Dec.and date hour)) (λ h. (ShapeOf.Hour h.1.0.0.0 h.1.0.1.0 h.1.1.0, (h.0, h.1.0.0.1, h.1.0.1.1, h.1.1.1))) (λ not_hour.
      or_else (Dec.and (is_long 16) (Dec.and date (Dec.and hour minute))) (λ h. (ShapeOf.Minute h.1.0.0.0 h.1.0.1.0 h.1.1.0.0 h.1.1.1.0, (h.0, h.1.0.0.1, h.1.0.1.1, h.1.1.0.1, h.1.1.1.1))) (λ not_minute.
      or_else (Dec.and (is_long 19) (Dec.and date (Dec.and hour (Dec.and minute second)))) (λ h. (ShapeOf.Second h.1.0.0.0 h.1.0.1.0 h.1.1.0.0 h.1.1.1.0.0 h.1.1.1.1.0, (h.0, h.1.0.0.1, h.1.0.1.1, h.1.1.0.1, h.1.1.1.0.1, h.1.1.1.1.1))) (λ not_second.
      no (λ h. elim h.0 as (λ s. HasShape s text → ⊥) [
        | ShapeOf.Year ↦ not_year
        | ShapeOf.Month m ↦ λ k. not_month (k.0, (m, k.1))
        | ShapeOf.Day m d ↦ λ k. not_day (k.0, ((m, k.1), (d, k.2)))
        | ShapeOf.Week w ↦ λ k. not_week (k.0, (w, k.1))
        | ShapeOf.Weekday w d ↦ λ k. not_weekday (k.0, ((w, k.1), (k.2, (d, k.3))))
        | ShapeOf.Quarter q ↦ λ k. not_quarter (k.0, (q, k.1))
        | ShapeOf.Half p ↦ λ k. not_half (k.0, (p, k.1))
        | ShapeOf.Decade ↦ not_decade
        | ShapeOf.Century ↦ not_century
        | ShapeOf.Hour m d h ↦ λ k. not_hour (k.0, (((m, k.1), (d, k.2)), (h, k.3)))
        | ShapeOf.Minute m d h i ↦ λ k. not_minute (k.0, (((m, k.1), (d, k.2)), ((h, k.3), (i, k.4))))
        | ShapeOf.Second m d h i s ↦ λ k. not_second (k.0, (((m, k.1), (d, k.2)), ((h, k.3), ((i, k.4), (s, k.5)))))
      ] h.1)))))))))))))

  pub is_spelled : Dec ((year : Year) × (shape : Shape) × Spells year shape text)
  is_spelled =
      elim has_shape [
        | yes s ↦ elim (has_year_in s.0) [
          | yes y ↦ yes (y.0, s.0, by_text y.0 s.0 text (y.1, s.1))
          | no none ↦ no (λ h. let placed = by_place h.0 h.1 text h.2 in none (h.0, subst (λ z. YearIn z h.0 text) (one_shape h.1 s.0 text placed.1 s.1) placed.0))
        ]
        | no none ↦ no (λ h. none (h.1, (by_place h.0 h.1 text h.2).1))
      ]
