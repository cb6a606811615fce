-- The slices of units are in the source.
use Rattle.std.proofs.Common.{◌≡◌, ℕ, ◌+◌, ◌-◌, List, [], ◌∷◌, ◌++◌, length, take, drop, refl, sym, ap, subst, ◌∙◌, append_assoc, arith, length-append}
use Rattle.std.specs.Prelude.{slice_range}
use Rattle.std.specs.List.{AllByRecursion}
use Rattle.std.proofs.lemmas.List.{take_at, drop_at}
use Rattle.tml_span.specs.Units.{Attribute, SpelledAttribute, SpelledAttributes, Kind, bom, declaration, doctype, comment, text, start_tag, end_tag, empty_tag, SpelledTag, PlainUnit, SpelledKind, Spelled}
use Rattle.tml_span.specs.Cutting.{CutsFrom}
use Rattle.tml_span.specs.Slices.{IsAt, AttributeIsIn, KindIsIn, UnitIsIn}

-- what is between two parts of the source is at the length of the first
is_at : (source before slice after : List ℕ) (place : ℕ) → source ≡ before ++ (slice ++ after) → length before ≡ place → IsAt source place slice
is_at source before slice after place e len =
    let at : drop place source ≡ slice ++ after = ap (drop place) e ∙ drop_at before (slice ++ after) place len in
    let width : place + length slice - place ≡ length slice = omega arith in
    ap (λ (n : ℕ). take n (drop place source)) width ∙ ap (take (length slice)) at ∙ take_at slice after (length slice) refl

attribute_is_in : (before tail prefix : List ℕ) (place : ℕ) (a : Attribute) → length before ≡ place → SpelledAttribute place a prefix → AttributeIsIn (before ++ (prefix ++ tail)) a
attribute_is_in before tail prefix place a len h =
    let closing = a.quote ∷ [] in
    let valued = a.value ++ closing in
    let whole : before ++ (prefix ++ tail) ≡ before ++ ((h.before ++ a.name ++ h.left ++ 61 ∷ h.right ++ a.quote ∷ a.value ++ a.quote ∷ []) ++ tail) = ap (λ (f : List ℕ). before ++ (f ++ tail)) h.whole in
    let named : before ++ (prefix ++ tail) ≡ (before ++ h.before) ++ (a.name ++ (h.left ++ (61 ∷ (h.right ++ (a.quote ∷ (a.value ++ (a.quote ∷ tail))))))) = whole ∙ simp append_assoc in
    let to_value = before ++ h.before ++ a.name ++ h.left ++ 61 ∷ h.right ++ a.quote ∷ [] in
    let given : before ++ (prefix ++ tail) ≡ to_value ++ (a.value ++ (a.quote ∷ tail)) = whole ∙ simp append_assoc in
    let total = simp length-append at (ap length h.whole) in
    let upto : length to_value ≡ a.end - 1 - length a.value = simp length-append (omega (arith, h.end, total)) in (
      is_at _ _ a.name _ a.start named (length-append before h.before ∙ ap (λ (n : ℕ). n + length h.before) len ∙ sym h.start),
      is_at _ _ a.value _ _ given upto,
    )

attributes_are_in : (source before tail inner : List ℕ) (place : ℕ) (attrs : List Attribute) → source ≡ before ++ (inner ++ tail) → length before ≡ place → SpelledAttributes place attrs inner → AllByRecursion (AttributeIsIn source) attrs
attributes_are_in source before tail inner place [] e len h = tt
attributes_are_in source before tail inner place (a ∷ attrs) e len h =
    let first : source ≡ before ++ (h.0 ++ (h.1 ++ tail)) = e ∙ ap (λ (x : List ℕ). before ++ (x ++ tail)) h.2 ∙ ap (λ (x : List ℕ). before ++ x) (append_assoc h.0 h.1 tail) in
    let others : source ≡ (before ++ h.0) ++ (h.1 ++ tail) = first ∙ sym (append_assoc before h.0 (h.1 ++ tail)) in
    let longer : length (before ++ h.0) ≡ place + length h.0 = length-append before h.0 ∙ ap (λ (n : ℕ). n + length h.0) len in (
      subst (λ (s : List ℕ). AttributeIsIn s a) (sym first) (attribute_is_in before (h.1 ++ tail) h.0 place a len h.3),
      attributes_are_in source (before ++ h.0) tail h.1 (place + length h.0) attrs others longer h.4,
    )

-- the name and the attributes of a tag are after its `<`
tag_is_in : (source before suffix prefix : List ℕ) (place : ℕ) (name : List ℕ) (attrs : List Attribute) (close : List ℕ) → source ≡ before ++ (prefix ++ suffix) → length before ≡ place → SpelledTag place name attrs close prefix → IsAt source (place + 1) name × AllByRecursion (AttributeIsIn source) attrs
tag_is_in source before suffix prefix place name attrs close e len h =
    let whole : source ≡ before ++ ((60 ∷ name ++ h.inner ++ h.white ++ close) ++ suffix) = e ∙ ap (λ (f : List ℕ). before ++ (f ++ suffix)) h.whole in
    let named : source ≡ (before ++ 60 ∷ []) ++ (name ++ (h.inner ++ (h.white ++ (close ++ suffix)))) = whole ∙ simp append_assoc in
    let inside : source ≡ (before ++ 60 ∷ name) ++ (h.inner ++ (h.white ++ (close ++ suffix))) = whole ∙ simp append_assoc in (
      is_at source _ name _ _ named (omega (arith, len, length-append before (60 ∷ []))),
      attributes_are_in source (before ++ 60 ∷ name) _ h.inner _ attrs inside (omega (arith, len, length-append before (60 ∷ name))) h.attributes,
    )

-- the whole bytes of a unit are the source at its span
spans : (source before suffix prefix bytes : List ℕ) (place : ℕ) → source ≡ before ++ (prefix ++ suffix) → length before ≡ place → prefix ≡ bytes → slice_range source place (place + length prefix) ≡ bytes
spans source before suffix prefix bytes place e len h = is_at source before prefix suffix place e len ∙ h

kind_is_in : (source before suffix prefix : List ℕ) (place : ℕ) (k : Kind) → source ≡ before ++ (prefix ++ suffix) → length before ≡ place → SpelledKind place k prefix → KindIsIn source place (place + length prefix) k
kind_is_in source before suffix prefix place bom e len h = tt
kind_is_in source before suffix prefix place (declaration t) e len h = spans source before suffix prefix t place e len h.0
kind_is_in source before suffix prefix place (doctype t) e len h = spans source before suffix prefix t place e len h.0
kind_is_in source before suffix prefix place (comment t) e len h = spans source before suffix prefix t place e len h.0
kind_is_in source before suffix prefix place (text t) e len h = spans source before suffix prefix t place e len h.0
kind_is_in source before suffix prefix place (start_tag name attrs) e len h = tag_is_in source before suffix prefix place name attrs _ e len h
kind_is_in source before suffix prefix place (end_tag name) e len h =
    let whole : source ≡ before ++ ((60 ∷ 47 ∷ name ++ h.0 ++ 62 ∷ []) ++ suffix) = e ∙ ap (λ (f : List ℕ). before ++ (f ++ suffix)) h.1 in
    let named : source ≡ (before ++ 60 ∷ 47 ∷ []) ++ (name ++ (h.0 ++ (62 ∷ suffix))) = whole ∙ simp append_assoc in
    is_at source _ name _ _ named (omega (arith, len, length-append before (60 ∷ 47 ∷ [])))
kind_is_in source before suffix prefix place (empty_tag name attrs) e len h = tag_is_in source before suffix prefix place name attrs _ e len h

-- a unit that is spelled at a place is there
pub unit_is_in : (source before suffix prefix : List ℕ) (place : ℕ) (u : PlainUnit) → source ≡ before ++ (prefix ++ suffix) → length before ≡ place → Spelled place u prefix → UnitIsIn source u
unit_is_in source before suffix prefix place u e len h =
    subst (λ (p : ℕ × ℕ). KindIsIn source p.0 p.1 u.kind) (λ i. (sym h.start i, sym h.end i)) (kind_is_in source before suffix prefix place u.kind e len h.kind)

pub units_are_in : (source before bytes rest : List ℕ) (place : ℕ) (units : List PlainUnit) → source ≡ before ++ bytes → length before ≡ place → CutsFrom place bytes units rest → AllByRecursion (UnitIsIn source) units
units_are_in source before bytes rest place [] e len h = tt
units_are_in source before bytes rest place (u ∷ units) e len h =
    let first : source ≡ before ++ (h.0 ++ h.1) = e ∙ ap (λ (x : List ℕ). before ++ x) h.2 in
    let others : source ≡ (before ++ h.0) ++ h.1 = first ∙ sym (append_assoc before h.0 h.1) in
    let longer : length (before ++ h.0) ≡ place + length h.0 = length-append before h.0 ∙ ap (λ (n : ℕ). n + length h.0) len in
    (unit_is_in source before h.1 h.0 place u first len h.3, units_are_in source (before ++ h.0) h.1 rest (place + length h.0) units others longer h.5)
