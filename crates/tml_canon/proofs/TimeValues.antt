-- A quoted text stands for the same time value: one with a `"` is that of no calendar value and no duration, and neither is what it becomes.
use Rattle.std.proofs.Common.{◌≡◌, ℕ, true, List, [], ◌∷◌, ◌++◌, refl, sym, ap, subst, ◌∙◌, arith, inl, inr, Option, Some, None, option_map}
use Rattle.std.specs.Prelude.{codes}
use Rattle.std.specs.Str.Parse.{AllDigits}
use Rattle.std.proofs.lemmas.Bool.{and_from, and_parts}
use Rattle.std.proofs.lemmas.Bool.Decides.{nat_tests}
use Rattle.timex_value.specs.declared.length.Count.{Count}
use Rattle.timex_value.specs.declared.length.Count.TheVariants.{Absent, Number, Unknown}
use Rattle.timex_value.specs.declared.length.Length.{Length}
use Rattle.timex_value.specs.declared.shape.Year.{Year}
use Rattle.timex_value.specs.declared.shape.Year.TheVariants as YearOf
use Rattle.timex_value.specs.declared.shape.Part.{Part}
use Rattle.timex_value.specs.declared.shape.Part.TheVariants as PartOf
use Rattle.timex_value.specs.declared.shape.Shape.{Shape}
use Rattle.timex_value.specs.declared.shape.Shape.TheVariants as ShapeOf
use Rattle.timex_value.specs.declared.value.Value.{Value}
use Rattle.timex_value.specs.declared.value.Value.TheVariants.{Calendar, Duration, Other}
use Rattle.timex_value.specs.Durations.{ClockText, CountText, CountsThen, SpellsLength}
use Rattle.timex_value.specs.Filling.{NoFilling}
use Rattle.timex_value.specs.Text.{Spells, calendar_text, date_text, digit_byte, digit_text, part_text, week_text, year_digits, year_text}
use Rattle.timex_value.specs.Values.{ValueOf, shape_of, year_of}
use Rattle.tml_types.specs.Rules.{IsNoDate}
use Rattle.tml_types.specs.Typing.{IsValueOf}
use Rattle.tml_canon.specs.Canonical.{quoted}
use Rattle.tml_canon.proofs.Unchanged.{are_from_dash, both_from_dash, is_from_dash, unchanged, unchanged_before}

-- ---- the bytes of calendar values

-- the byte of a digit comes after `-`
digit_from_dash : (n : ℕ) → is_from_dash (digit_byte n) ≡ true
digit_from_dash n = grind (arith, nat_tests)

-- so do the bytes of a year
year_from_dash : (year : Year) → are_from_dash (year_text year) ≡ true
year_from_dash (YearOf.Known y) = simp digit_from_dash
year_from_dash (YearOf.Decade y) = simp digit_from_dash
year_from_dash (YearOf.Century y) = simp digit_from_dash
year_from_dash YearOf.Unknown = refl

-- and those of its digits alone
digits_of_year_from_dash : (year : Year) → are_from_dash (year_digits year) ≡ true
digits_of_year_from_dash (YearOf.Known y) = simp digit_from_dash
digits_of_year_from_dash (YearOf.Decade y) = simp digit_from_dash
digits_of_year_from_dash (YearOf.Century y) = simp digit_from_dash
digits_of_year_from_dash YearOf.Unknown = refl

-- those of a field of two bytes
part_from_dash : (part : Part) → are_from_dash (part_text part) ≡ true
part_from_dash (PartOf.Known n) = simp digit_from_dash
part_from_dash PartOf.Unknown = refl

-- and that of a field of one byte
one_from_dash : (part : Part) → are_from_dash (digit_text part) ≡ true
one_from_dash (PartOf.Known n) = simp digit_from_dash
one_from_dash PartOf.Unknown = refl

-- two texts of `-` or later bytes, and such bytes between them
between : (xs mark ys : List ℕ) → are_from_dash mark ≡ true → are_from_dash xs ≡ true → are_from_dash ys ≡ true → are_from_dash (xs ++ mark ++ ys) ≡ true
between xs mark ys m h k = both_from_dash (xs ++ mark) ys (both_from_dash xs mark h m) k

-- the bytes of a date are such
date_from_dash : (year : Year) (month day : Part) → are_from_dash (date_text year month day) ≡ true
date_from_dash y m d =
    between (year_text y ++ codes "-" ++ part_text m) (codes "-") (part_text d) refl (between (year_text y) (codes "-") (part_text m) refl (year_from_dash y) (part_from_dash m)) (part_from_dash d)

-- those of a week
week_from_dash : (year : Year) (week : Part) → are_from_dash (week_text year week) ≡ true
week_from_dash y w = between (year_text y) (codes "-W") (part_text w) refl (year_from_dash y) (part_from_dash w)

-- those of a date with an hour
hour_from_dash : (year : Year) (month day hour : Part) → are_from_dash (date_text year month day ++ codes "T" ++ part_text hour) ≡ true
hour_from_dash y m d h = between (date_text y m d) (codes "T") (part_text h) refl (date_from_dash y m d) (part_from_dash h)

-- those of one with a minute
minute_from_dash : (year : Year) (month day hour minute : Part) → are_from_dash (date_text year month day ++ codes "T" ++ part_text hour ++ codes ":" ++ part_text minute) ≡ true
minute_from_dash y m d h i = between (date_text y m d ++ codes "T" ++ part_text h) (codes ":") (part_text i) refl (hour_from_dash y m d h) (part_from_dash i)

-- and those of each shape
calendar_from_dash : (year : Year) (shape : Shape) → are_from_dash (calendar_text year shape) ≡ true
calendar_from_dash y ShapeOf.Year = year_from_dash y
calendar_from_dash y (ShapeOf.Month m) = between (year_text y) (codes "-") (part_text m) refl (year_from_dash y) (part_from_dash m)
calendar_from_dash y (ShapeOf.Day m d) = date_from_dash y m d
calendar_from_dash y (ShapeOf.Week w) = week_from_dash y w
calendar_from_dash y (ShapeOf.Weekday w d) = between (week_text y w) (codes "-") (digit_text d) refl (week_from_dash y w) (one_from_dash d)
calendar_from_dash y (ShapeOf.Quarter q) = between (year_text y) (codes "-Q") (digit_text q) refl (year_from_dash y) (one_from_dash q)
calendar_from_dash y (ShapeOf.Hour m d h) = hour_from_dash y m d h
calendar_from_dash y (ShapeOf.Minute m d h i) = minute_from_dash y m d h i
calendar_from_dash y (ShapeOf.Second m d h i s) =
    between (date_text y m d ++ codes "T" ++ part_text h ++ codes ":" ++ part_text i) (codes ":") (part_text s) refl (minute_from_dash y m d h i) (part_from_dash s)
calendar_from_dash y (ShapeOf.Half h) = between (year_text y) (codes "-H") (digit_text h) refl (year_from_dash y) (one_from_dash h)
calendar_from_dash y ShapeOf.Decade = digits_of_year_from_dash y
calendar_from_dash y ShapeOf.Century = digits_of_year_from_dash y

-- a text that spells a calendar value has such bytes
spelled_from_dash : (year : Year) (shape : Shape) (text : List ℕ) → Spells year shape text → are_from_dash text ≡ true
spelled_from_dash year shape text h = ap are_from_dash h.2 ∙ calendar_from_dash year shape

-- ---- the bytes of durations

-- the bytes of digits come after `-`
digits_from_dash : (digits : List ℕ) → AllDigits 10 digits → are_from_dash digits ≡ true
digits_from_dash [] h = refl
digits_from_dash (d ∷ digits) h = and_from (is_from_dash d) (are_from_dash digits) (let low = h.0 in grind (arith, nat_tests)) (digits_from_dash digits h.1)

-- those of a count with its unit too, where that of the unit does
count_from_dash : (unit : ℕ) (count : Count) (text : List ℕ) → is_from_dash unit ≡ true → CountText unit count text → are_from_dash text ≡ true
count_from_dash unit Absent text u h = ap are_from_dash h
count_from_dash unit (Number n) text u h = ap are_from_dash h.4 ∙ both_from_dash h.0 (unit ∷ []) (digits_from_dash h.0 h.1) (and_from (is_from_dash unit) true u refl)
count_from_dash unit Unknown text u h = ap are_from_dash h ∙ and_from (is_from_dash unit) true u refl

-- and counts with such units before a text of such bytes
counts_from_dash : (units : List ℕ) (counts : List Count) (text rest : List ℕ) → are_from_dash units ≡ true → CountsThen units counts text rest → are_from_dash rest ≡ true → are_from_dash text ≡ true
counts_from_dash [] [] text rest u h r = ap are_from_dash h ∙ r
counts_from_dash [] (c ∷ counts) text rest u h r = absurd h
counts_from_dash (unit ∷ units) [] text rest u h r = absurd h
counts_from_dash (unit ∷ units) (c ∷ counts) text rest u h r =
    let parts = and_parts (is_from_dash unit) (are_from_dash units) u in
    ap are_from_dash h.1.2 ∙ both_from_dash h.1.0 h.0 (count_from_dash unit c h.1.0 parts.0 h.1.1) (counts_from_dash units counts h.0 rest parts.1 h.2 r)

-- and those of a clock
clock_from_dash : (hours minutes seconds : Count) (text : List ℕ) → ClockText hours minutes seconds text → are_from_dash text ≡ true
clock_from_dash a b c text (inl h) = ap are_from_dash h.1
clock_from_dash a b c text (inr h) = ap are_from_dash h.1.1 ∙ counts_from_dash (codes "HMS") (a ∷ b ∷ c ∷ []) h.1.0 [] refl h.1.2 refl

-- a text that spells a duration has such bytes
length_from_dash : (l : Length) (text : List ℕ) → SpellsLength l text → are_from_dash text ≡ true
length_from_dash l text h =
    ap are_from_dash h.2 ∙ counts_from_dash (codes "YMWD") (l.years ∷ l.months ∷ l.weeks ∷ l.days ∷ []) h.0 h.1 refl h.3 (clock_from_dash l.hours l.minutes l.seconds h.1 h.4)

-- ---- values

-- a quoted text stands for what the text stands for
value_quoted : (text : List ℕ) (value : Value) → ValueOf text value → ValueOf (quoted text) value
value_quoted text (Calendar c) h = subst (Spells (year_of c) (shape_of c)) (sym (unchanged text (spelled_from_dash (year_of c) (shape_of c) text h))) h
value_quoted text (Duration l) h = subst (SpellsLength l) (sym (unchanged text (length_from_dash l text h))) h
value_quoted text Other h = (
  λ year shape k. h.0 year shape (subst (Spells year shape) (unchanged_before text (spelled_from_dash year shape (quoted text) k)) k),
  λ l k. h.1 l (subst (SpellsLength l) (unchanged_before text (length_from_dash l (quoted text) k)) k),
)

-- and a text that is no date when it is quoted is none
no_filling_before : (text : List ℕ) → NoFilling (quoted text) → NoFilling text
no_filling_before text h = subst NoFilling (unchanged_before text (spelled_from_dash h.0 h.1 (quoted text) h.2)) h

-- the same of the value of an attribute, where it is there
pub time_quoted : (o : Option (List ℕ)) (v : Option Value) → IsValueOf o v → IsValueOf (option_map quoted o) v
time_quoted None v h = h
time_quoted (Some text) None h = h
time_quoted (Some text) (Some value) h = value_quoted text value h

-- and of one that is no date
pub no_date_before : (o : Option (List ℕ)) → IsNoDate (option_map quoted o) → IsNoDate o
no_date_before None h = h
no_date_before (Some text) h = no_filling_before text h
