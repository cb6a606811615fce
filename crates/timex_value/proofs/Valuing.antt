-- A text has one value, and a calendar value has a valid filling.
use Rattle.std.proofs.Common.{◌≡◌, ℕ, List, ◌∷◌, refl, ap, subst, arith}
use Rattle.std.proofs.Math.Logic.{∥∥₁_prop, ∥∥₁_elim}
use mathlib.Core.HLevel.{is_prop→PathP}
use Rattle.std.specs.Str.{byte}
use Rattle.timex_value.specs.declared.shape.Year.{Year}
use Rattle.timex_value.specs.declared.shape.Year.TheVariants as YearOf
use Rattle.timex_value.specs.declared.shape.Shape.{Shape}
use Rattle.timex_value.specs.declared.shape.Shape.TheVariants as ShapeOf
use Rattle.timex_value.specs.declared.length.Length.{Length}
use Rattle.timex_value.specs.declared.value.Calendar.{Calendar as CalendarOf}
use Rattle.timex_value.specs.declared.value.Value.TheVariants.{Calendar, Duration, Other}
use Rattle.timex_value.specs.Text.{Spells, IsYearFor, IsYearWritten, IsShapeWritten}
use Rattle.timex_value.specs.Places.{YearFirst, DecadeFirst, CenturyFirst, YearIn}
use Rattle.timex_value.specs.Filling.{HasFilling}
use Rattle.timex_value.specs.Durations.{SpellsLength}
use Rattle.timex_value.specs.Values.{year_of, shape_of, OneValue, ValueOrBad}
use Rattle.timex_value.proofs.Spelling.{one_spelling, filled_once}
use Rattle.timex_value.proofs.Places.{by_place}
use Rattle.timex_value.proofs.Lengths.{one_length}

-- no year begins with P
year_no_p : (y : Year) (rest : List ℕ) → YearFirst y (byte "P" ∷ rest) → ⊥
year_no_p (YearOf.Known y) rest h = grind arith
year_no_p (YearOf.Decade y) rest h = grind arith
year_no_p (YearOf.Century y) rest h = grind arith
year_no_p YearOf.Unknown rest h = grind arith

decade_no_p : (y : Year) (rest : List ℕ) → DecadeFirst y (byte "P" ∷ rest) → ⊥
decade_no_p (YearOf.Known y) rest h = h.2
decade_no_p (YearOf.Decade y) rest h = grind arith
decade_no_p (YearOf.Century y) rest h = h.2
decade_no_p YearOf.Unknown rest h = h.2

century_no_p : (y : Year) (rest : List ℕ) → CenturyFirst y (byte "P" ∷ rest) → ⊥
century_no_p (YearOf.Known y) rest h = h.2
century_no_p (YearOf.Decade y) rest h = h.2
century_no_p (YearOf.Century y) rest h = grind arith
century_no_p YearOf.Unknown rest h = h.2

no_p : (s : Shape) (y : Year) (rest : List ℕ) → YearIn s y (byte "P" ∷ rest) → ⊥
no_p ShapeOf.Decade y rest h = decade_no_p y rest h
no_p ShapeOf.Century y rest h = century_no_p y rest h
no_p s y rest h = year_no_p y rest h

pub no_both : (y : Year) (s : Shape) (l : Length) (text : List ℕ) → Spells y s text → SpellsLength l text → ⊥
no_both y s l text h k = no_p s y k.0 (subst (λ (x : List ℕ). YearIn s y x) k.2 (by_place y s text h).0)

-- a calendar value is its year and its shape
one_calendar : (c d : CalendarOf) → year_of c ≡ year_of d → shape_of c ≡ shape_of d → c ≡ d
one_calendar c d e f = λ i. record {
  year = e i;
  shape = f i;
  written = is_prop→PathP (λ j. ∥ IsYearWritten (e j) × IsShapeWritten (f j) × IsYearFor (f j) (e j) ∥₁) (λ j. ∥∥₁_prop) c.written d.written i;
  valid = is_prop→PathP (λ j. ∥ HasFilling (e j) (f j) ∥₁) (λ j. ∥∥₁_prop) c.valid d.valid i;
}

pub one_value : OneValue
one_value text (Calendar c) (Calendar d) h k =
    let e = one_spelling (year_of c) (year_of d) (shape_of c) (shape_of d) text h k in
    ap Calendar (one_calendar c d e.0 e.1)
one_value text (Calendar c) (Duration l) h k = absurd (no_both (year_of c) (shape_of c) l text h k)
one_value text (Calendar c) Other h k = absurd (k.0 (year_of c) (shape_of c) h)
one_value text (Duration l) (Calendar c) h k = absurd (no_both (year_of c) (shape_of c) l text k h)
one_value text (Duration l) (Duration m) h k = ap Duration (one_length l m text h k)
one_value text (Duration l) Other h k = absurd (k.1 l h)
one_value text Other (Calendar c) h k = absurd (h.0 (year_of c) (shape_of c) k)
one_value text Other (Duration l) h k = absurd (h.1 l k)
one_value text Other Other h k = refl

pub value_or_bad : ValueOrBad
value_or_bad text (Calendar c) h none = ∥∥₁_elim c.valid (λ x y. absurd x) (λ fill. filled_once (year_of c) (shape_of c) text h fill none)
value_or_bad text (Duration l) h none = no_both none.0 none.1 l text none.2 h
value_or_bad text Other h none = h.0 none.0 none.1 none.2
