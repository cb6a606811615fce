-- The names, values, texts and comments of a source that has no fault are good.
use Rattle.std.proofs.Common.{◌≡◌, ◌≢◌, inl, inr, ℕ, ◌+◌, true, false, List, [], ◌∷◌, ◌++◌, length, map, refl, sym, ap, subst, ◌∙◌, append_assoc, arith, rules}
use Rattle.std.specs.Prelude.{codes, IsUtf8}
use Rattle.std.specs.List.{AllByRecursion, list_all}
use Rattle.std.proofs.lemmas.Bool.{and_from}
use Rattle.std.proofs.lemmas.Bool.Decides.{nat_tests}
use Rattle.std.proofs.lemmas.Str.{IsUtf8-append, IsUtf8-encode, IsUtf8-nil, IsUtf8-past_char}
use lib.Utf8.{encode}
use Rattle.named.proofs.Lists.{all_append, all_weaker}
use Rattle.tml_span.specs.Bytes.{is_quote, is_text_byte, is_value_byte, is_white}
use Rattle.tml_span.specs.Cutting.{CutsFrom, Ends}
use Rattle.tml_span.specs.References.{IsBadInUnits, IsBadIn, IsNowhere, kind_pieces, value_piece}
use Rattle.tml_span.specs.Units.{Attribute, Kind, PlainUnit, SpelledAttribute, SpelledAttributes, SpelledKind, SpelledTag, bom, bom_bytes, comment, declaration, doctype, empty_tag, end_tag, start_tag, text}
use Rattle.tml_span.specs.Written.{HasGoodReferences}
use Rattle.tml_span.specs.Pieces.{IsGoodAttribute, IsGoodKind, IsGoodTag, IsGoodUnit, UnitsAreGood}
use Rattle.tml_span.proofs.Utf8.{after_ascii, ascii_utf8, before_ascii, is_ascii, parted, parted_by}

-- ---- bytes

-- white space is ASCII
white_ascii : (b : ℕ) → is_white b ≡ true → is_ascii b ≡ true
white_ascii b h = grind (arith, nat_tests)

-- and so is a quote
quote_ascii : (b : ℕ) → is_quote b ≡ true → is_ascii b ≡ true
quote_ascii b h = grind (arith, nat_tests)

-- a byte that is of no text is `<`
no_text_ascii : (b : ℕ) → is_text_byte b ≡ false → is_ascii b ≡ true
no_text_ascii b h = grind (arith, nat_tests)

-- a byte of a value is one of a text
value_text : (quote b : ℕ) → is_value_byte quote b ≡ true → is_text_byte b ≡ true
value_text quote b h = grind (arith, nat_tests)

-- all white space is ASCII
whites_ascii : (bs : List ℕ) → list_all is_white bs ≡ true → list_all is_ascii bs ≡ true
whites_ascii bs h = all_weaker is_white is_ascii white_ascii bs h

-- ---- attributes

-- no bad reference is in the values of attributes
abbrev GoodValues : List Attribute → Type 0
GoodValues attrs = IsNowhere (IsBadIn (map value_piece attrs))

-- what stands before an attribute and what stands after it are UTF-8, and it is good
abbrev OneIsGood : List ℕ → Attribute → List ℕ → Type 0
OneIsGood front a rest = IsUtf8 front × IsGoodAttribute a × IsUtf8 rest

-- what is between the name of an attribute and its value is ASCII
middle_ascii : (left right : List ℕ) (quote : ℕ) → list_all is_white left ≡ true → list_all is_white right ≡ true → is_quote quote ≡ true → list_all is_ascii (left ++ 61 ∷ (right ++ quote ∷ [])) ≡ true
middle_ascii left right quote l r q =
    let one = and_from (is_ascii quote) true (quote_ascii quote q) refl in
    all_append is_ascii left (61 ∷ (right ++ quote ∷ [])) (whites_ascii left l) (all_append is_ascii right (quote ∷ []) (whites_ascii right r) one)

-- and there is such a byte
middle_some : (left right : List ℕ) → left ++ 61 ∷ right ≢ []
middle_some [] right e = cc
middle_some (b ∷ left) right e = cc

-- an attribute in UTF-8 is good, and what stands before it and after it is UTF-8
attribute_is_good : (place : ℕ) (a : Attribute) (front prefix rest : List ℕ) → SpelledAttribute place a prefix → HasGoodReferences a.value → IsUtf8 (front ++ (prefix ++ rest)) → OneIsGood front a rest
attribute_is_good place a front prefix rest h good utf8 =
    let middle = h.left ++ 61 ∷ (h.right ++ a.quote ∷ []) in
    let whole : prefix ++ rest ≡ h.before ++ (a.name ++ (middle ++ (a.value ++ (a.quote ∷ rest)))) = ap (λ (f : List ℕ). f ++ rest) h.whole ∙ simp append_assoc in
    let before = parted_by front h.before _ h.apart (whites_ascii h.before h.white_before) (subst (λ (x : List ℕ). IsUtf8 (front ++ x)) whole utf8) in
    let name = parted_by a.name middle _ (middle_some h.left _) (middle_ascii h.left h.right a.quote h.white_left h.white_right h.quote) before.1 in
    let value = parted a.value a.quote rest (quote_ascii a.quote h.quote) name.1 in (
      before.0,
      record {
        named = h.name;
        value = all_weaker (is_value_byte a.quote) is_text_byte (value_text a.quote) a.value h.value;
        references = good;
        name_utf8 = name.0;
        value_utf8 = value.0;
      },
      value.1,
    )

-- attributes in UTF-8 before ASCII are good, and what stands before them is UTF-8
attributes_are_good : (place : ℕ) (attrs : List Attribute) (front inner rest : List ℕ) → list_all is_ascii rest ≡ true → SpelledAttributes place attrs inner → GoodValues attrs → IsUtf8 (front ++ (inner ++ rest)) → IsUtf8 front × AllByRecursion IsGoodAttribute attrs
attributes_are_good place [] front inner rest ascii h good utf8 = (before_ascii front rest ascii (subst (λ (x : List ℕ). IsUtf8 (front ++ (x ++ rest))) h utf8), tt)
attributes_are_good place (a ∷ attrs) front inner rest ascii h good utf8 =
    let whole : inner ++ rest ≡ h.0 ++ (h.1 ++ rest) = ap (λ (x : List ℕ). x ++ rest) h.2 ∙ append_assoc h.0 h.1 rest in
    let references : HasGoodReferences a.value = λ index bad. good ((value_piece a).0 + index) (inl (index, bad, refl)) in
    let one = attribute_is_good place a front h.0 (h.1 ++ rest) h.3 references (subst (λ (x : List ℕ). IsUtf8 (front ++ x)) whole utf8) in
    let others = attributes_are_good (place + length h.0) attrs [] h.1 rest ascii h.4 (λ at bad. good at (inr bad)) one.2 in
    (one.0, (one.1, others.1))

-- a tag in UTF-8 is good
tag_is_good : (place : ℕ) (name : List ℕ) (attrs : List Attribute) (close spelling : List ℕ) → list_all is_ascii close ≡ true → SpelledTag place name attrs close spelling → GoodValues attrs → IsUtf8 spelling → IsGoodTag name attrs
tag_is_good place name attrs close spelling ascii h good utf8 =
    let whole : spelling ≡ 60 ∷ (name ++ (h.inner ++ (h.white ++ close))) = h.whole ∙ simp append_assoc in
    let inside = (parted [] 60 (name ++ (h.inner ++ (h.white ++ close))) refl (subst IsUtf8 whole utf8)).1 in
    let all = attributes_are_good (place + 1 + length name) attrs name h.inner (h.white ++ close) (all_append is_ascii h.white close (whites_ascii h.white h.white_inner) ascii) h.attributes good inside in
    record { named = h.named; utf8 = all.0; attributes = all.1 }

-- ---- units

-- a unit in UTF-8 without bad references is good
kind_is_good : (place : ℕ) (kind : Kind) (spelling : List ℕ) → SpelledKind place kind spelling → IsNowhere (IsBadIn (kind_pieces place kind)) → IsUtf8 spelling → IsGoodKind kind
kind_is_good place bom spelling h good utf8 = tt
kind_is_good place (declaration bytes) spelling h good utf8 = tt
kind_is_good place (doctype bytes) spelling h good utf8 = tt
kind_is_good place (comment bytes) spelling h good utf8 = ((h.1, h.2, h.3), subst IsUtf8 h.0 utf8)
kind_is_good place (text bytes) spelling h good utf8 = ((h.1, h.2, λ index bad. good (place + index) (inl (index, bad, refl))), subst IsUtf8 h.0 utf8)
kind_is_good place (start_tag name attrs) spelling h good utf8 = tag_is_good place name attrs (codes ">") spelling refl h good utf8
kind_is_good place (end_tag name) spelling h good utf8 =
    let whole : spelling ≡ codes "</" ++ (name ++ (h.0 ++ codes ">")) = h.1 ∙ simp append_assoc in
    let inside = after_ascii (codes "</") (name ++ (h.0 ++ codes ">")) refl (subst IsUtf8 whole utf8) in
    record { named = h.2; utf8 = before_ascii name (h.0 ++ codes ">") (all_append is_ascii h.0 (codes ">") (whites_ascii h.0 h.3) refl) inside; attributes = tt }
kind_is_good place (empty_tag name attrs) spelling h good utf8 = tag_is_good place name attrs (codes "/>") spelling refl h good utf8

-- both of two parts are UTF-8
abbrev Parts : List ℕ → List ℕ → Type 0
Parts prefix suffix = IsUtf8 prefix × IsUtf8 suffix

-- where the first part ends in `>`, both are UTF-8
closed_parts : (front prefix suffix : List ℕ) → prefix ≡ front ++ codes ">" → IsUtf8 (prefix ++ suffix) → Parts prefix suffix
closed_parts front prefix suffix e h =
    let whole : prefix ++ suffix ≡ front ++ (62 ∷ suffix) = ap (λ (x : List ℕ). x ++ suffix) e ∙ append_assoc front (codes ">") suffix in
    let both = parted front 62 suffix refl (subst IsUtf8 whole h) in
    (subst IsUtf8 (sym e) (IsUtf8-append front (codes ">") both.0 (ascii_utf8 (codes ">") refl)), both.1)

-- a text and what stands after it are both UTF-8
text_parts : (bytes suffix : List ℕ) → Ends (text bytes) suffix → IsUtf8 (bytes ++ suffix) → Parts bytes suffix
text_parts bytes [] ends h = (before_ascii bytes [] refl h, IsUtf8-nil)
text_parts bytes (b ∷ suffix) ends h =
    let both = parted bytes b suffix (no_text_ascii b ends) h in
    (both.0, IsUtf8-append (b ∷ []) suffix (ascii_utf8 (b ∷ []) (and_from (is_ascii b) true (no_text_ascii b ends) refl)) both.1)

-- the bytes of the Bom are those of one character
bom_encoded : bom_bytes ≡ encode 0xFEFF
unfolding encode
bom_encoded = refl

-- and so they are UTF-8
bom_utf8 : IsUtf8 bom_bytes
bom_utf8 = subst IsUtf8 (sym bom_encoded) (IsUtf8-encode 0xFEFF (search rules))

-- and so is what stands after them
after_bom : (suffix : List ℕ) → IsUtf8 (bom_bytes ++ suffix) → IsUtf8 suffix
after_bom suffix h = IsUtf8-past_char (bom_bytes ++ suffix) suffix 0xFEFF h (ap (λ (x : List ℕ). x ++ suffix) bom_encoded)

-- a unit in UTF-8 and what stands after it are both UTF-8
unit_parts : (place : ℕ) (kind : Kind) (prefix suffix : List ℕ) → SpelledKind place kind prefix → Ends kind suffix → IsUtf8 (prefix ++ suffix) → Parts prefix suffix
unit_parts place bom prefix suffix h ends utf8 = subst (λ (x : List ℕ). Parts x suffix) (sym h.1) (bom_utf8, after_bom suffix (subst (λ (x : List ℕ). IsUtf8 (x ++ suffix)) h.1 utf8))
unit_parts place (declaration bytes) prefix suffix h ends utf8 = closed_parts (codes "<?xml" ++ h.1 ∷ h.2 ++ codes "?") prefix suffix (h.0 ∙ h.3 ∙ simp append_assoc) utf8
unit_parts place (doctype bytes) prefix suffix h ends utf8 = closed_parts (codes "<!DOCTYPE" ++ h.1 ∷ h.2) prefix suffix (h.0 ∙ h.3 ∙ simp append_assoc) utf8
unit_parts place (comment bytes) prefix suffix h ends utf8 = closed_parts (codes "<!--" ++ h.1 ++ codes "--") prefix suffix (h.0 ∙ h.2 ∙ simp append_assoc) utf8
unit_parts place (text bytes) prefix suffix h ends utf8 = subst (λ (x : List ℕ). Parts x suffix) (sym h.0) (text_parts bytes suffix ends (subst (λ (x : List ℕ). IsUtf8 (x ++ suffix)) h.0 utf8))
unit_parts place (start_tag name attrs) prefix suffix h ends utf8 = closed_parts (codes "<" ++ name ++ h.inner ++ h.white) prefix suffix (h.whole ∙ simp append_assoc) utf8
unit_parts place (end_tag name) prefix suffix h ends utf8 = closed_parts (codes "</" ++ name ++ h.0) prefix suffix (h.1 ∙ simp append_assoc) utf8
unit_parts place (empty_tag name attrs) prefix suffix h ends utf8 = closed_parts (codes "<" ++ name ++ h.inner ++ h.white ++ codes "/") prefix suffix (h.whole ∙ simp append_assoc) utf8

-- the units of UTF-8 without bad references are good
good_from : (place : ℕ) (bytes : List ℕ) (units : List PlainUnit) (rest : List ℕ) → CutsFrom place bytes units rest → IsUtf8 bytes → IsNowhere (IsBadInUnits units) → AllByRecursion IsGoodUnit units
good_from place bytes [] rest h utf8 good = tt
good_from place bytes (u ∷ units) rest h utf8 good =
    let parts = unit_parts place u.kind h.0 h.1 h.3.kind h.4 (subst IsUtf8 h.2 utf8) in
    let here : IsNowhere (IsBadIn (kind_pieces place u.kind)) = subst (λ (n : ℕ). IsNowhere (IsBadIn (kind_pieces n u.kind))) h.3.start (λ at bad. good at (inl bad)) in
    (kind_is_good place u.kind h.0 h.3.kind here parts.0, good_from (place + length h.0) h.1 units rest h.5 parts.1 (λ at bad. good at (inr bad)))

-- so the units of a source that has no fault are good
pub units_are_good : UnitsAreGood
units_are_good = λ source units h. good_from 0 source units [] h.1 h.0 h.2
