-- The plain values of the types of the program.
use Rattle.std.specs.Prelude.{ℕ, List, map, codes, Option, MatchOption}
use Rattle.std.specs.Borrow.{Bor}
use Rattle.tml_span.specs.Cutting.{Stops, FindsUnit}
use Rattle.tml_span.specs.Bytes.{byte}
use Rattle.tml_span.specs.declared.unit.Quote.{Quote}
use Rattle.tml_span.specs.declared.unit.Quote.TheVariants.{Single, Double}
use Rattle.tml_span.specs.declared.unit.Attr.{Attr}
use Rattle.tml_span.specs.declared.unit.Unit.{Unit}
use Rattle.tml_span.specs.declared.unit.Unit.TheVariants.{Bom, Declaration, Doctype, Comment, Text, StartTag, EndTag, EmptyTag}
use Rattle.tml_span.specs.Units.{Attribute, bom, declaration, doctype, comment, text, start_tag, end_tag, empty_tag, PlainUnit}

abbrev pub quote_byte : Quote → ℕ
quote_byte Single = byte (codes "'")
quote_byte Double = byte (codes "\"")

abbrev pub attribute_of : Attr → Attribute
attribute_of a = record { start = a.span.start; end = a.span.end; name = a.name.now; value = a.value.now; quote = quote_byte a.quote }

abbrev pub unit_of : Unit → PlainUnit
unit_of (Bom span) = record { start = span.start; end = span.end; kind = bom }
unit_of (Declaration span bytes) = record { start = span.start; end = span.end; kind = declaration bytes.now }
unit_of (Doctype span bytes) = record { start = span.start; end = span.end; kind = doctype bytes.now }
unit_of (Comment span bytes) = record { start = span.start; end = span.end; kind = comment bytes.now }
unit_of (Text span bytes) = record { start = span.start; end = span.end; kind = text bytes.now }
unit_of (StartTag span name attrs) = record { start = span.start; end = span.end; kind = start_tag name.now (map attribute_of attrs) }
unit_of (EndTag span name) = record { start = span.start; end = span.end; kind = end_tag name.now }
unit_of (EmptyTag span name attrs) = record { start = span.start; end = span.end; kind = empty_tag name.now (map attribute_of attrs) }

-- the unit that the bytes at a place begin with, and what follows it, or none where no unit begins
abbrev pub ReadsUnit : ℕ → List ℕ → Option (Unit × Bor (List ℕ)) → Type 0
ReadsUnit place bytes found = MatchOption found (Stops place bytes) (λ r. FindsUnit place bytes (unit_of r.0) r.1.now)
