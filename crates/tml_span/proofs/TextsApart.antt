-- In the cut of a source two texts never follow each other.
use Rattle.std.proofs.Common.{◌≡◌, ◌≢◌, ℕ, ◌+◌, true, List, [], ◌∷◌, ◌++◌, length, map, refl, subst}
use Rattle.std.specs.List.{list_all}
use Rattle.std.proofs.lemmas.Bool.{and_parts, both_ways}
use Rattle.tml_span.specs.Bytes.{is_text_byte}
use Rattle.tml_span.specs.Cutting.{Ends, CutsFrom}
use Rattle.tml_span.specs.Units.{Kind, text, PlainUnit, SpelledKind}
use Rattle.tml_span.specs.Written.{BeginsWithText, NoTextsMeet}

-- a unit apart from its place
abbrev pub kind_of : PlainUnit → Kind
kind_of u = u.kind

-- a byte that ends a text begins no other one
text_begins : (own rest bytes : List ℕ) → own ≢ [] → list_all is_text_byte own ≡ true → Ends (text bytes) (own ++ rest) → ⊥
text_begins [] rest bytes some all e = some refl
text_begins (b ∷ own) rest bytes some all e = both_ways (is_text_byte b) e (and_parts (is_text_byte b) (list_all is_text_byte own) all).0

-- what ends a text is the beginning of no text
kind_begins : (place : ℕ) (k : Kind) (kinds : List Kind) (prefix rest bytes : List ℕ) → SpelledKind place k prefix → Ends (text bytes) (prefix ++ rest) → BeginsWithText (k ∷ kinds) → ⊥
kind_begins place (text own) kinds prefix rest bytes h e b = text_begins own rest bytes h.1 h.2 (subst (λ (x : List ℕ). Ends (text bytes) (x ++ rest)) h.0 e)
kind_begins place k kinds prefix rest bytes h e b = b

-- a text is followed by no text
text_ends : (bytes : List ℕ) (place : ℕ) (suffix : List ℕ) (us : List PlainUnit) → Ends (text bytes) suffix → CutsFrom place suffix us [] → BeginsWithText (map kind_of us) → ⊥
text_ends bytes place suffix [] e c b = b
text_ends bytes place suffix (u ∷ us) e c b = kind_begins place u.kind (map kind_of us) c.0 c.1 bytes c.3.kind (subst (λ (x : List ℕ). Ends (text bytes) x) c.2 e) b

-- one unit more before those of which no two texts meet
kind_apart : (k : Kind) (place : ℕ) (suffix : List ℕ) (us : List PlainUnit) → Ends k suffix → CutsFrom place suffix us [] → NoTextsMeet (map kind_of us) → NoTextsMeet (k ∷ map kind_of us)
kind_apart (text bytes) place suffix us e c h = (text_ends bytes place suffix us e c, h)
kind_apart k place suffix us e c h = h

-- among the units of a cut no two texts meet
pub cut_apart : (place : ℕ) (bytes : List ℕ) (us : List PlainUnit) → CutsFrom place bytes us [] → NoTextsMeet (map kind_of us)
cut_apart place bytes [] c = tt
cut_apart place bytes (u ∷ us) c = kind_apart u.kind (place + length c.0) c.1 us c.4 c.5 (cut_apart (place + length c.0) c.1 us c.5)
