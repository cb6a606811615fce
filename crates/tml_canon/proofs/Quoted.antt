-- Values between double quotes stay as they are when they are quoted again, and so do the attributes that have them.
use Rattle.std.proofs.Common.{◌≡◌, ℕ, ◌+◌, Bool, ◌==◌, ◌&&◌, cond, List, [], ◌∷◌, ◌++◌, length, map, codes, count_by, bytes_eq, refl, sym, ap, ap₂, ◌∙◌}
use Rattle.std.proofs.lemmas.Bool.{cond_both, cond-false}
use Rattle.std.proofs.lemmas.List.Concat.{flat_map-append}
use Rattle.std.proofs.lemmas.List.Sums.{sum_by-cons}
use Rattle.tml_span.specs.Units.{Attribute}
use Rattle.tml_span.specs.Written.{attribute_at, attribute_text, attributes_at, double_quote}
use Rattle.tml_canon.specs.Canonical.{canonical_attribute, quoted, quoted_byte}
use Rattle.tml_canon.specs.Same.{says}

-- what stands for one byte is quoted as it is
quoted_byte_again : (b : ℕ) → quoted (quoted_byte b) ≡ quoted_byte b
quoted_byte_again b = cond_both (b == double_quote) (codes "&quot;") (b ∷ []) (λ (bytes : List ℕ). quoted bytes ≡ bytes)
    (λ e. refl)
    (λ e. ap (λ (bytes : List ℕ). bytes ++ []) (cond-false (b == double_quote) (codes "&quot;") (b ∷ []) e))

-- a value that is quoted holds no `"`, so it is quoted as it is
pub quoted_again : (value : List ℕ) → quoted (quoted value) ≡ quoted value
quoted_again [] = refl
quoted_again (b ∷ bytes) = flat_map-append quoted_byte (quoted_byte b) (quoted bytes) ∙ ap₂ (λ (x y : List ℕ). x ++ y) (quoted_byte_again b) (quoted_again bytes)

-- an attribute that is canonical stays so, wherever it is written
canonical_again : (place : ℕ) (a : Attribute) → canonical_attribute (attribute_at place (canonical_attribute a)) ≡ canonical_attribute a
canonical_again place a = ap (λ (bytes : List ℕ). let new : Attribute = record { start = 0; end = 0; name = a.name; value = bytes; quote = double_quote } in new) (quoted_again a.value)

-- attributes that are canonical stay so, wherever they are written
pub all_canonical_again : (place : ℕ) (attrs : List Attribute) → map canonical_attribute (attributes_at place (map canonical_attribute attrs)) ≡ map canonical_attribute attrs
all_canonical_again place [] = refl
all_canonical_again place (a ∷ attrs) = ap₂ (λ (b : Attribute) (others : List Attribute). b ∷ others) (canonical_again place a)
    (all_canonical_again (place + length (attribute_text (canonical_attribute a))) attrs)

-- the first of some attributes counts where it passes the test
pub count_first : (test : Attribute → Bool) (a : Attribute) (attrs : List Attribute) → count_by test (a ∷ attrs) ≡ cond (test a) 1 0 + count_by test attrs
count_first test a attrs = sum_by-cons (λ (b : Attribute). cond (test b) 1 0) a attrs

-- a canonical attribute says what the attribute says
says_again : (name value : List ℕ) (place : ℕ) (a : Attribute) → says name value (attribute_at place (canonical_attribute a)) ≡ says name value a
says_again name value place a = ap (λ (bytes : List ℕ). bytes_eq a.name name && bytes_eq bytes value) (quoted_again a.value)

-- canonical attributes say what the attributes say, wherever they are written
pub all_say_again : (name value : List ℕ) (place : ℕ) (attrs : List Attribute) → count_by (says name value) (attributes_at place (map canonical_attribute attrs)) ≡ count_by (says name value) attrs
all_say_again name value place [] = refl
all_say_again name value place (a ∷ attrs) =
    let later = all_say_again name value (place + length (attribute_text (canonical_attribute a))) attrs in
    let left = count_first (says name value) (attribute_at place (canonical_attribute a)) (attributes_at (place + length (attribute_text (canonical_attribute a))) (map canonical_attribute attrs)) in
    let right = count_first (says name value) a attrs in
    left ∙ ap₂ (λ (b : Bool) (n : ℕ). cond b 1 0 + n) (says_again name value place a) later ∙ sym right
