-- A value with a valid filling has a known part that the calendar has.
use Rattle.std.proofs.Common.{◌≡◌, ℕ, ◌≤◌, arith, subst}
use Rattle.std.specs.Int.{IsInRange}
use Rattle.timex_value.specs.declared.shape.Year.{Year}
use Rattle.timex_value.specs.declared.shape.Year.TheVariants as YearOf
use Rattle.timex_value.specs.declared.shape.Part.{Part}
use Rattle.timex_value.specs.declared.shape.Part.TheVariants.{Known, Unknown}
use Rattle.timex_value.specs.declared.shape.Shape.{Shape}
use Rattle.timex_value.specs.declared.shape.Shape.TheVariants as ShapeOf
use Rattle.timex_value.specs.declared.value.Calendar.{Calendar}
use Rattle.timex_value.specs.Text.{IsWritten, IsYearWritten, IsShapeWritten}
use Rattle.timex_value.specs.Filling.{CanFillAs, DigitCanBe, YearCanBe, HasDate, HasClock, IsValidIn, HasFilling}
use Rattle.timex_value.specs.Years.{HasYear}
use Rattle.timex_value.specs.Values.{year_of, shape_of}
use Rattle.timex_value.proofs.Filled.{clock_limits}
use Rattle.timex_dates.specs.Valid.{IfKnown, HasClockParts, HasDateParts, HasShapeParts, HasParts}
use Rattle.std.proofs.Math.Logic.{∥∥₁_elim}
use Rattle.std.proofs.Props.{props}

-- a filling of a field without X is its number
part_is : (n m : ℕ) → n ≤ 99 → CanFillAs (Known n) m → m ≡ n
part_is n m h k = grind arith

digit_is : (n m : ℕ) → n ≤ 9 → DigitCanBe (Known n) m → m ≡ n
digit_is n m h k = grind arith

year_is : (y z : ℕ) → y ≤ 9999 → YearCanBe (YearOf.Known y) z → z ≡ y
year_is y z h k = grind arith

-- what a filling of a field has, its number has, if it is known
filled : (p : Part) (P : ℕ → Type 0) (n : ℕ) → IsWritten 99 p → CanFillAs p n → P n → IfKnown p P
filled (Known k) P n w c h = subst P (part_is k n w c) h
filled Unknown P n w c h = tt

filled_digit : (p : Part) (P : ℕ → Type 0) (n : ℕ) → IsWritten 9 p → DigitCanBe p n → P n → IfKnown p P
filled_digit (Known k) P n w c h = subst P (digit_is k n w c) h
filled_digit Unknown P n w c h = tt

hour_filled : (h i s : Part) → IsWritten 99 h → HasClock h i s → HasClockParts h Unknown Unknown
hour_filled h i s w f = filled h _ f.0 w f.3 ((clock_limits f.0 f.1 f.2 f.6).0, tt)

minute_filled : (h i s : Part) → IsWritten 99 h → IsWritten 99 i → HasClock h i s → HasClockParts h i Unknown
minute_filled h i s w v f =
    let b = clock_limits f.0 f.1 f.2 f.6 in
    filled h _ f.0 w f.3 (b.0, filled i _ f.1 v f.4 (b.1, tt))

second_filled : (h i s : Part) → IsWritten 99 h → IsWritten 99 i → IsWritten 99 s → HasClock h i s → HasClockParts h i s
second_filled h i s w v u f =
    let b = clock_limits f.0 f.1 f.2 f.6 in
    filled h _ f.0 w f.3 (b.0, filled i _ f.1 v f.4 (b.1, filled s _ f.2 u f.5 b.2))

date_filled : (y : ℕ) (m d h i s : Part) → IsWritten 99 m → IsWritten 99 d → HasDate y m d → HasClockParts h i s → HasDateParts y m d h i s
date_filled y m d h i s w v f clock = filled m _ f.0 w f.2 (f.4.1, filled d _ f.1 v f.3 (f.4, clock))

-- in a year in which the shape is valid
parts_filled : (y : ℕ) (s : Shape) → IsShapeWritten s → IsValidIn y s → HasShapeParts y s
parts_filled y ShapeOf.Year w f = tt
parts_filled y (ShapeOf.Month m) w f = filled m _ f.0 w f.1 (f.2, tt)
parts_filled y (ShapeOf.Day m d) w f = date_filled y m d Unknown Unknown Unknown w.0 w.1 f tt
parts_filled y (ShapeOf.Week k) w f = filled k _ f.0 w f.1 (f.2, tt)
parts_filled y (ShapeOf.Weekday k d) w f = filled k _ f.0.0 w.0 f.0.1 (f.0.2, filled_digit d _ f.1.0 w.1 f.1.1 f.1.2)
parts_filled y (ShapeOf.Quarter q) w f = filled_digit q _ f.0 w f.1 f.2
parts_filled y (ShapeOf.Hour m d h) w f = date_filled y m d h Unknown Unknown w.0 w.1 f.0 (hour_filled h (Known 0) (Known 0) w.2 f.1)
parts_filled y (ShapeOf.Minute m d h i) w f = date_filled y m d h i Unknown w.0 w.1 f.0 (minute_filled h i (Known 0) w.2 w.3 f.1)
parts_filled y (ShapeOf.Second m d h i s) w f = date_filled y m d h i s w.0 w.1 f.0 (second_filled h i s w.2 w.3 w.4 f.1)
parts_filled y (ShapeOf.Half h) w f = filled_digit h _ f.0 w f.1 f.2
parts_filled y ShapeOf.Decade w f = tt
parts_filled y ShapeOf.Century w f = tt

year_has : (year : Year) (s : Shape) → IsYearWritten year → HasFilling year s → HasYear year
year_has (YearOf.Known y) s h f = subst (IsInRange 1 9999) (year_is y f.0 h f.1.1) f.1.0
year_has (YearOf.Decade d) s h f = h
year_has (YearOf.Century c) s h f = h
year_has YearOf.Unknown s h f = tt

parts_has : (year : Year) (s : Shape) → IsYearWritten year → IsShapeWritten s → HasFilling year s → HasParts year s
parts_has (YearOf.Known y) s h w f = parts_filled y s w (subst (λ z. IsValidIn z s) (year_is y f.0 h f.1.1) f.2)
parts_has (YearOf.Decade d) s h w f = tt
parts_has (YearOf.Century c) s h w f = tt
parts_has YearOf.Unknown s h w f = tt

-- each of these is a proposition
if_prop : (p : Part) (P : ℕ → Type 0) → ((n : ℕ) → IsProp (P n)) → IsProp (IfKnown p P)
if_prop (Known n) P h = h n
if_prop Unknown P h = hlevel props

date_prop : (y : ℕ) (m d h i s : Part) → IsProp (HasDateParts y m d h i s)
date_prop y m d h i s = hlevel (props, if_prop)

shape_prop : (y : ℕ) (s : Shape) → IsProp (HasShapeParts y s)
shape_prop y ShapeOf.Year = hlevel props
shape_prop y (ShapeOf.Month m) = date_prop y m Unknown Unknown Unknown Unknown
shape_prop y (ShapeOf.Day m d) = date_prop y m d Unknown Unknown Unknown
shape_prop y (ShapeOf.Week w) = hlevel (props, if_prop)
shape_prop y (ShapeOf.Weekday w d) = hlevel (props, if_prop)
shape_prop y (ShapeOf.Quarter q) = hlevel (props, if_prop)
shape_prop y (ShapeOf.Hour m d h) = date_prop y m d h Unknown Unknown
shape_prop y (ShapeOf.Minute m d h i) = date_prop y m d h i Unknown
shape_prop y (ShapeOf.Second m d h i s) = date_prop y m d h i s
shape_prop y (ShapeOf.Half h) = hlevel (props, if_prop)
shape_prop y ShapeOf.Decade = hlevel props
shape_prop y ShapeOf.Century = hlevel props

year_prop : (year : Year) → IsProp (HasYear year)
year_prop (YearOf.Known y) = hlevel props
year_prop (YearOf.Decade d) = hlevel props
year_prop (YearOf.Century c) = hlevel props
year_prop YearOf.Unknown = hlevel props

parts_prop : (year : Year) (s : Shape) → IsProp (HasParts year s)
parts_prop (YearOf.Known y) s = shape_prop y s
parts_prop (YearOf.Decade d) s = hlevel props
parts_prop (YearOf.Century c) s = hlevel props
parts_prop YearOf.Unknown s = hlevel props

-- the known part of a calendar value
pub has_year : (c : Calendar) → HasYear (year_of c)
has_year c =
    let each = year_prop (year_of c) in
    ∥∥₁_elim c.written each (λ w. ∥∥₁_elim c.valid each (λ f. year_has (year_of c) (shape_of c) w.0 f))

pub has_parts : (c : Calendar) → HasParts (year_of c) (shape_of c)
has_parts c =
    let each = parts_prop (year_of c) (shape_of c) in
    ∥∥₁_elim c.written each (λ w. ∥∥₁_elim c.valid each (λ f. parts_has (year_of c) (shape_of c) w.0 w.1 f))
