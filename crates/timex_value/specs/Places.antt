-- Serves the code: calendar texts by the place of each field. The private contracts of the reader use this form, in which each field is
-- proved by itself; it says the same as `Spells`.
use Rattle.std.specs.Prelude.{◌≡◌, ℕ, ◌+◌, List, [], ◌∷◌, length, slice_index}
use Rattle.std.specs.Str.{byte}
use Rattle.timex_value.specs.declared.shape.Year.{Year}
use Rattle.timex_value.specs.declared.shape.Part.{Part}
use Rattle.timex_value.specs.declared.shape.Shape.{Shape}
use Rattle.timex_value.specs.declared.shape.Shape.TheVariants as ShapeOf
use Rattle.timex_value.specs.Text.{year_text, year_digits, part_text, digit_text, IsWritten, IsYearWritten, IsDecade, IsCentury}

-- the text begins with a year of four bytes
abbrev pub YearFirst : Year → List ℕ → Type 0
YearFirst y text =
    IsYearWritten y
    × (year_text y ≡ slice_index text 0 ∷ slice_index text 1 ∷ slice_index text 2 ∷ slice_index text 3 ∷ [])

-- it begins with three digits, which are a decade
abbrev pub DecadeFirst : Year → List ℕ → Type 0
DecadeFirst y text =
    IsYearWritten y × (year_digits y ≡ slice_index text 0 ∷ slice_index text 1 ∷ slice_index text 2 ∷ []) × IsDecade y

-- it begins with two digits, which are a century
abbrev pub CenturyFirst : Year → List ℕ → Type 0
CenturyFirst y text = IsYearWritten y × (year_digits y ≡ slice_index text 0 ∷ slice_index text 1 ∷ []) × IsCentury y

-- the text begins with the year as the shape has it
abbrev pub YearIn : Shape → Year → List ℕ → Type 0
YearIn ShapeOf.Decade y text = DecadeFirst y text
YearIn ShapeOf.Century y text = CenturyFirst y text
YearIn shape y text = YearFirst y text

-- a field of two bytes is at the place k
abbrev pub PartAt : ℕ → Part → List ℕ → Type 0
PartAt k p text = IsWritten 99 p × (part_text p ≡ slice_index text k ∷ slice_index text (k + 1) ∷ [])

-- a field of one byte is there
abbrev pub DigitAt : ℕ → Part → List ℕ → Type 0
DigitAt k p text = IsWritten 9 p × (digit_text p ≡ slice_index text k ∷ [])

-- the byte b is there
abbrev pub ByteAt : ℕ → ℕ → List ℕ → Type 0
ByteAt k b text = slice_index text k ≡ b

-- the byte b is there, and a field of two bytes after it
abbrev pub PartAfter : ℕ → ℕ → Part → List ℕ → Type 0
PartAfter k b p text = ByteAt k b text × PartAt (k + 1) p text

-- -Www after the year
abbrev pub WeekAfter : Part → List ℕ → Type 0
WeekAfter w text = ByteAt 4 (byte "-") text × PartAfter 5 (byte "W") w text

-- the byte b is after the year and `-`, and after it a field of one byte
abbrev pub DigitAfter : ℕ → Part → List ℕ → Type 0
DigitAfter b p text = ByteAt 4 (byte "-") text × ByteAt 5 b text × DigitAt 6 p text

-- the text has this length, and these fields after the year
abbrev pub HasShape : Shape → List ℕ → Type 0
HasShape ShapeOf.Year text = length text ≡ 4
HasShape (ShapeOf.Month m) text = (length text ≡ 7) × PartAfter 4 (byte "-") m text
HasShape (ShapeOf.Day m d) text = (length text ≡ 10) × PartAfter 4 (byte "-") m text × PartAfter 7 (byte "-") d text
HasShape (ShapeOf.Week w) text = (length text ≡ 8) × WeekAfter w text
HasShape (ShapeOf.Weekday w d) text =
    (length text ≡ 10) × WeekAfter w text × ByteAt 8 (byte "-") text × DigitAt 9 d text
HasShape (ShapeOf.Quarter q) text = (length text ≡ 7) × DigitAfter (byte "Q") q text
HasShape (ShapeOf.Hour m d h) text =
    (length text ≡ 13) × PartAfter 4 (byte "-") m text × PartAfter 7 (byte "-") d text × PartAfter 10 (byte "T") h text
HasShape (ShapeOf.Minute m d h i) text =
    (length text ≡ 16) × PartAfter 4 (byte "-") m text × PartAfter 7 (byte "-") d text
    × PartAfter 10 (byte "T") h text × PartAfter 13 (byte ":") i text
HasShape (ShapeOf.Second m d h i s) text =
    (length text ≡ 19) × PartAfter 4 (byte "-") m text × PartAfter 7 (byte "-") d text
    × PartAfter 10 (byte "T") h text × PartAfter 13 (byte ":") i text × PartAfter 16 (byte ":") s text
HasShape (ShapeOf.Half h) text = (length text ≡ 7) × DigitAfter (byte "H") h text
HasShape ShapeOf.Decade text = length text ≡ 3
HasShape ShapeOf.Century text = length text ≡ 2

-- the text begins with the year, and has the shape
abbrev pub SpellsByPlace : Year → Shape → List ℕ → Type 0
SpellsByPlace year shape text = YearIn shape year text × HasShape shape text
