-- A text is spelled by concatenation exactly where it is spelled by place.
use Rattle.std.proofs.Common.{◌≡◌, ℕ, zero, suc, ◌+◌, List, [], ◌∷◌, length, drop, slice_index, refl, sym, ap, ◌∙◌, subst, arith}
use Rattle.std.proofs.lemmas.List.{drop_more, drop_all}
use Rattle.timex_value.specs.declared.shape.Year.{Year}
use Rattle.timex_value.specs.declared.shape.Year.TheVariants as YearOf
use Rattle.timex_value.specs.declared.shape.Part.{Part}
use Rattle.timex_value.specs.declared.shape.Part.TheVariants as PartOf
use Rattle.timex_value.specs.declared.shape.Shape.{Shape}
use Rattle.timex_value.specs.declared.shape.Shape.TheVariants as ShapeOf
use Rattle.timex_value.specs.Text.{year_text, year_digits, part_text, digit_text, calendar_text, IsYearWritten, IsDecade, IsCentury, Spells}
use Rattle.timex_value.specs.Places.{DecadeFirst, CenturyFirst, SpellsByPlace}

-- a year has four bytes, and a field two or one
year_bytes : (y : Year) → (a : ℕ) × (b : ℕ) × (c : ℕ) × (d : ℕ) × (year_text y ≡ a ∷ b ∷ c ∷ d ∷ [])
year_bytes (YearOf.Known y) = (_, _, _, _, refl)
year_bytes (YearOf.Decade y) = (_, _, _, _, refl)
year_bytes (YearOf.Century y) = (_, _, _, _, refl)
year_bytes YearOf.Unknown = (_, _, _, _, refl)

part_bytes : (p : Part) → (a : ℕ) × (b : ℕ) × (part_text p ≡ a ∷ b ∷ [])
part_bytes (PartOf.Known n) = (_, _, refl)
part_bytes PartOf.Unknown = (_, _, refl)

digit_bytes : (p : Part) → (a : ℕ) × (digit_text p ≡ a ∷ [])
digit_bytes (PartOf.Known n) = (_, refl)
digit_bytes PartOf.Unknown = (_, refl)

-- the digits of a decade, and of a century, are at their places
decade_in_places : (y : Year) → IsYearWritten y → IsDecade y → DecadeFirst y (year_digits y) × (length (year_digits y) ≡ 3)
decade_in_places (YearOf.Known y) w h = absurd h
decade_in_places (YearOf.Decade y) w h = ((w, refl, tt), refl)
decade_in_places (YearOf.Century y) w h = absurd h
decade_in_places YearOf.Unknown w h = absurd h

century_in_places : (y : Year) → IsYearWritten y → IsCentury y → CenturyFirst y (year_digits y) × (length (year_digits y) ≡ 2)
century_in_places (YearOf.Known y) w h = absurd h
century_in_places (YearOf.Decade y) w h = absurd h
century_in_places (YearOf.Century y) w h = ((w, refl, tt), refl)
century_in_places YearOf.Unknown w h = absurd h

-- the text of each shape has its fields at their places
in_places : (year : Year) (shape : Shape) (text : List ℕ) → Spells year shape text → SpellsByPlace year shape (calendar_text year shape)
in_places y ShapeOf.Year text h = rw (year_bytes y).4 ((h.0, refl), refl)
in_places y (ShapeOf.Month m) text h = rw ((year_bytes y).4, (part_bytes m).2) ((h.0, refl), (refl, (refl, (h.1, refl))))
in_places y (ShapeOf.Day m d) text h = rw ((year_bytes y).4, (part_bytes m).2, (part_bytes d).2) ((h.0, refl), (refl, (refl, (h.1.0, refl)), (refl, (h.1.1, refl))))
in_places y (ShapeOf.Week w) text h = rw ((year_bytes y).4, (part_bytes w).2) ((h.0, refl), (refl, (refl, (refl, (h.1, refl)))))
in_places y (ShapeOf.Weekday w d) text h = rw ((year_bytes y).4, (part_bytes w).2, (digit_bytes d).1) ((h.0, refl), (refl, (refl, (refl, (h.1.0, refl))), refl, (h.1.1, refl)))
in_places y (ShapeOf.Quarter q) text h = rw ((year_bytes y).4, (digit_bytes q).1) ((h.0, refl), (refl, (refl, refl, (h.1, refl))))
in_places y (ShapeOf.Hour m d k) text h = rw ((year_bytes y).4, (part_bytes m).2, (part_bytes d).2, (part_bytes k).2) ((h.0, refl), (refl, (refl, (h.1.0, refl)), (refl, (h.1.1, refl)), (refl, (h.1.2, refl))))
in_places y (ShapeOf.Minute m d k i) text h = rw ((year_bytes y).4, (part_bytes m).2, (part_bytes d).2, (part_bytes k).2, (part_bytes i).2) ((h.0, refl), (refl, (refl, (h.1.0, refl)), (refl, (h.1.1, refl)), (refl, (h.1.2, refl)), (refl, (h.1.3, refl))))
in_places y (ShapeOf.Second m d k i s) text h = rw ((year_bytes y).4, (part_bytes m).2, (part_bytes d).2, (part_bytes k).2, (part_bytes i).2, (part_bytes s).2) ((h.0, refl), (refl, (refl, (h.1.0, refl)), (refl, (h.1.1, refl)), (refl, (h.1.2, refl)), (refl, (h.1.3, refl)), (refl, (h.1.4, refl))))
in_places y (ShapeOf.Half k) text h = rw ((year_bytes y).4, (digit_bytes k).1) ((h.0, refl), (refl, (refl, refl, (h.1, refl))))
in_places y ShapeOf.Decade text h = decade_in_places y h.0 h.3
in_places y ShapeOf.Century text h = century_in_places y h.0 h.3

pub by_place : (year : Year) (shape : Shape) (text : List ℕ) → Spells year shape text → SpellsByPlace year shape text
by_place year shape text h = subst (λ (t : List ℕ). SpellsByPlace year shape t) (sym h.2) (in_places year shape text h)

-- n bytes from the place k on
abbrev bytes_from : List ℕ → ℕ → ℕ → List ℕ
bytes_from text k zero = []
bytes_from text k (suc n) = slice_index text k ∷ bytes_from text (k + 1) n

rest_is : (text : List ℕ) (k n : ℕ) → length text ≡ k + n → drop k text ≡ bytes_from text k n
rest_is text k zero e = drop_all k text (omega arith)
rest_is text k (suc n) e = drop_more text k 0 (omega arith) ∙ ap (λ (r : List ℕ). slice_index text k ∷ r) (rest_is text (k + 1) n (omega arith))

-- a text whose fields are at their places is that of the shape
pub by_text : (year : Year) (shape : Shape) (text : List ℕ) → SpellsByPlace year shape text → Spells year shape text
by_text y ShapeOf.Year text (p, len) = (p.0, tt, rw p.1 (rest_is text 0 4 len), tt)
by_text y (ShapeOf.Month m) text (p, (len, (dash, month))) = (p.0, month.0, (let e = rest_is text 0 7 len in rw (p.1, month.1) cc), tt)
by_text y (ShapeOf.Day m d) text (p, (len, (dash, month), (dash2, day))) = (p.0, (month.0, day.0), (let e = rest_is text 0 10 len in rw (p.1, month.1, day.1) cc), tt)
by_text y (ShapeOf.Week w) text (p, (len, (dash, (letter, week)))) = (p.0, week.0, (let e = rest_is text 0 8 len in rw (p.1, week.1) cc), tt)
by_text y (ShapeOf.Weekday w d) text (p, (len, (dash, (letter, week)), dash2, day)) = (p.0, (week.0, day.0), (let e = rest_is text 0 10 len in rw (p.1, week.1, day.1) cc), tt)
by_text y (ShapeOf.Quarter q) text (p, (len, (dash, letter, quarter))) = (p.0, quarter.0, (let e = rest_is text 0 7 len in rw (p.1, quarter.1) cc), tt)
by_text y (ShapeOf.Hour m d k) text (p, (len, (dash, month), (dash2, day), (letter, hour))) = (p.0, (month.0, day.0, hour.0), (let e = rest_is text 0 13 len in rw (p.1, month.1, day.1, hour.1) cc), tt)
by_text y (ShapeOf.Minute m d k i) text (p, (len, (dash, month), (dash2, day), (letter, hour), (colon, minute))) = (p.0, (month.0, day.0, hour.0, minute.0), (let e = rest_is text 0 16 len in rw (p.1, month.1, day.1, hour.1, minute.1) cc), tt)
by_text y (ShapeOf.Second m d k i s) text (p, (len, (dash, month), (dash2, day), (letter, hour), (colon, minute), (colon2, second))) = (p.0, (month.0, day.0, hour.0, minute.0, second.0), (let e = rest_is text 0 19 len in rw (p.1, month.1, day.1, hour.1, minute.1, second.1) cc), tt)
by_text y (ShapeOf.Half k) text (p, (len, (dash, letter, half))) = (p.0, half.0, (let e = rest_is text 0 7 len in rw (p.1, half.1) cc), tt)
by_text y ShapeOf.Decade text (p, len) = (p.0, tt, rw p.1 (rest_is text 0 3 len), p.2)
by_text y ShapeOf.Century text (p, len) = (p.0, tt, rw p.1 (rest_is text 0 2 len), p.2)
