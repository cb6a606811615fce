-- Texts and tags at the prefix of a source: there is one at most, and where none is no unit begins.
use Rattle.std.proofs.Common.{get_or, ◌≡◌, ◌≢◌, ◌⊎◌, inl, inr, ℕ, zero, suc, ◌+◌, ◌-◌, ◌<◌, ◌≤◌, Bool, true, false, not, cond, eqb, List, [], ◌∷◌, ◌++◌, length, take, drop, refl, sym, ap, ◌∙◌, arith, Some, None, length-append}
use Rattle.std.proofs.lemmas.Option.{same_Some}
use Rattle.std.specs.Prelude.{nat_eq, codes}
use Rattle.std.specs.List.{prefix_len, starts_with}
use Rattle.std.proofs.lemmas.Bool.{eqb-true, eqb-false}
use Rattle.std.proofs.lemmas.List.{take_at, drop_at}
use Rattle.tml_span.specs.Bytes.{is_text_byte}
use Rattle.tml_span.specs.Units.{Attribute, Kind, text, start_tag, end_tag, empty_tag, PlainUnit, bom_bytes, SpelledKind}
use Rattle.tml_span.specs.Cutting.{Ends, Stops, FindsUnit}
use Rattle.tml_span.specs.Reading.{after_white, name_at, attribute_at, ReadsAttributes}
use Rattle.tml_span.proofs.Runs.{Not, prefix_len_again}
use Rattle.tml_span.proofs.Parts.{attribute_takes}
use Rattle.tml_span.proofs.Leads.{plain, ending, comments, doctypes, query, opening, lead, lead_after, lead_of, tag_parts}
use Rattle.tml_span.proofs.TagUnits.{text_finds, bom_finds, close_of, tag_of, one_tag_reading, as_tag, tag_finds, no_name_stops, no_close_stops, one_end_tag_reading, end_tag_parts, end_tag_again, end_tag_finds, no_end_tag_stops, no_name_end_stops}

-- ---- one text, one tag

-- two prefixes of one list with the same rest are one
prefixes : (xs ys suffix after : List ℕ) → xs ++ suffix ≡ ys ++ after → length xs ≡ length ys → (xs ≡ ys) × (suffix ≡ after)
prefixes xs ys suffix after e len = (
  sym (take_at xs suffix (length xs) refl) ∙ ap (take (length xs)) e ∙ take_at ys after (length xs) (sym len),
  sym (drop_at xs suffix (length xs) refl) ∙ ap (drop (length xs)) e ∙ drop_at ys after (length xs) (sym len),
)

ends_not : (bytes rest : List ℕ) → Ends (text bytes) rest → Not is_text_byte rest
ends_not bytes [] h = tt
ends_not bytes (b ∷ rest) h = h

pub one_text : (place : ℕ) (t s suffix after : List ℕ) → t ++ suffix ≡ s ++ after → SpelledKind place (text t) t → Ends (text t) suffix → SpelledKind place (text s) s → Ends (text s) after → (t ≡ s) × (suffix ≡ after)
one_text place t s suffix after e h m k n =
    prefixes t s suffix after e (sym (prefix_len_again is_text_byte t suffix h.2 (ends_not t suffix m)) ∙ ap (prefix_len is_text_byte) e ∙ prefix_len_again is_text_byte s after k.2 (ends_not s after n))

pub one_end_tag : (place : ℕ) (name other prefix suffix ahead after : List ℕ) → prefix ++ suffix ≡ ahead ++ after → SpelledKind place (end_tag name) prefix → SpelledKind place (end_tag other) ahead → (end_tag name ≡ end_tag other) × (suffix ≡ after)
one_end_tag place name other prefix suffix ahead after e h k =
    let bytes = name ++ (h.0 ++ 62 ∷ suffix) in
    let parts = end_tag_parts prefix suffix name h.0 h.1 in
    let one = one_end_tag_reading bytes name other suffix after (end_tag_again place bytes name prefix suffix (sym parts) h) (end_tag_again place bytes other ahead after (sym parts ∙ e) k) in
    (ap (λ (n : List ℕ). end_tag n) one.0, one.1)

-- no `>` is a `/>`
one_close : (a b : Bool) (suffix after : List ℕ) → close_of a ++ suffix ≡ close_of b ++ after → (a ≡ b) × (suffix ≡ after)
one_close true true suffix after e = (refl, ap (drop 2) e)
one_close false false suffix after e = (refl, ap (drop 1) e)
one_close true false suffix after e = absurd (omega (arith, ap (λ (x : List ℕ). get_or x 0 0) e))
one_close false true suffix after e = absurd (omega (arith, ap (λ (x : List ℕ). get_or x 0 0) e))

-- the bytes after the `<` of a tag
after_opening : (place : ℕ) (k : Kind) (prefix suffix : List ℕ) → lead_of k ≡ opening → SpelledKind place k prefix → (bytes : List ℕ) × (60 ∷ bytes ≡ prefix ++ suffix)
after_opening place (start_tag name attrs) prefix suffix opens h = (name ++ (h.inner ++ (h.white ++ (codes ">" ++ suffix))), sym (tag_parts place name attrs (codes ">") prefix suffix h))
after_opening place (empty_tag name attrs) prefix suffix opens h = (name ++ (h.inner ++ (h.white ++ (codes "/>" ++ suffix))), sym (tag_parts place name attrs (codes "/>") prefix suffix h))
after_opening place k prefix suffix opens h = absurd cc

pub one_tag : (place : ℕ) (k j : Kind) (prefix suffix ahead after : List ℕ) → prefix ++ suffix ≡ ahead ++ after → lead_of k ≡ opening → lead_of j ≡ opening → SpelledKind place k prefix → SpelledKind place j ahead → (k ≡ j) × (suffix ≡ after)
one_tag place k j prefix suffix ahead after e k_opens j_opens h g =
    let bytes = after_opening place k prefix suffix k_opens h in
    let t = as_tag place k bytes.0 prefix suffix k_opens bytes.1 h in
    let s = as_tag place j bytes.0 ahead after j_opens (bytes.1 ∙ e) g in
    let one = one_tag_reading place bytes.0 t.name s.name (close_of t.is_empty ++ suffix) (close_of s.is_empty ++ after) t.attrs s.attrs t.reads s.reads in
    let closed = one_close t.is_empty s.is_empty suffix after one.2 in
    (t.is ∙ (λ i. tag_of (closed.0 i) (one.0 i) (one.1 i)) ∙ sym s.is, closed.1)

-- ---- a tag or none

-- an attribute has bytes
attribute_shorter : (place : ℕ) (bytes rest : List ℕ) (a : Attribute) → attribute_at place bytes ≡ Some (a, rest) → length rest < length bytes
attribute_shorter place bytes rest a e =
    let t = attribute_takes place bytes a rest e in
    omega (arith, ap length t.1, length-append t.0 rest, simp length-append at (ap length t.2.whole))

no_bytes : (place : ℕ) → attribute_at place [] ≡ None
unfolding attribute_at
no_bytes place = refl

abbrev HasAttributes : ℕ → List ℕ → Type 0
HasAttributes place bytes = (attrs : List Attribute) × ((rest : List ℕ) × ReadsAttributes place bytes attrs rest)

-- bytes begin with as many attributes as there are
pub attributes_found : (fuel : ℕ) (place : ℕ) (bytes : List ℕ) → length bytes ≤ fuel → (attrs : List Attribute) × ((rest : List ℕ) × ReadsAttributes place bytes attrs rest)
attributes_found zero place [] h = ([], ([], (refl, no_bytes place)))
attributes_found zero place (b ∷ bytes) h = absurd (omega arith)
attributes_found (suc fuel) place bytes h = elim (attribute_at place bytes) as (λ o. attribute_at place bytes ≡ o → HasAttributes place bytes) [
  | None ↦ λ e. ([], (bytes, (refl, e)))
  | Some p ↦ λ e.
      let shorter : length p.1 < length bytes = attribute_shorter place bytes p.1 p.0 e in
      let others = attributes_found fuel (place + (length bytes - length p.1)) p.1 (omega arith) in
      (p.0 ∷ others.0, (others.1.0, (p.1, e, others.1.1)))
] refl

-- one byte begins a list, or doesn't
byte_or_none : (c : ℕ) (tail : List ℕ) → ((rest : List ℕ) × (tail ≡ c ∷ rest)) ⊎ ((rest : List ℕ) → tail ≢ c ∷ rest)
byte_or_none c [] = inr (λ rest e. cc)
byte_or_none c (b ∷ bytes) = elim (eqb b c) as (λ t. eqb b c ≡ t → ((rest : List ℕ) × (b ∷ bytes ≡ c ∷ rest)) ⊎ ((rest : List ℕ) → b ∷ bytes ≢ c ∷ rest)) [
  | true ↦ λ e. inl (bytes, ap (λ (x : ℕ). x ∷ bytes) (eqb-true b c e))
  | false ↦ λ e. inr (λ rest whole. eqb-false b c e (cc))
] refl

-- what follows the white space after attributes closes a tag, or doesn't
abbrev CloseOrNone : List ℕ → Type 0
CloseOrNone tail = ((is_empty : Bool) × ((rest : List ℕ) × (tail ≡ close_of is_empty ++ rest))) ⊎ ((is_empty : Bool) (rest : List ℕ) → tail ≢ close_of is_empty ++ rest)

not_closed : (tail : List ℕ) → ((rest : List ℕ) → tail ≢ 62 ∷ rest) → ((rest : List ℕ) → tail ≢ 47 ∷ 62 ∷ rest) → (is_empty : Bool) (rest : List ℕ) → tail ≢ close_of is_empty ++ rest
not_closed tail one two true rest = two rest
not_closed tail one two false rest = one rest

slash_or_none : (tail inner : List ℕ) → ((rest : List ℕ) → tail ≢ 62 ∷ rest) → tail ≡ 47 ∷ inner → ((rest : List ℕ) × (inner ≡ 62 ∷ rest)) ⊎ ((rest : List ℕ) → inner ≢ 62 ∷ rest) → CloseOrNone tail
slash_or_none tail inner none slash (inl two) = inl (true, (two.0, slash ∙ ap (λ (x : List ℕ). 47 ∷ x) two.1))
slash_or_none tail inner none slash (inr other) = inr (not_closed tail none (λ rest e. other rest (ap (drop 1) (sym slash ∙ e))))

close_or : (tail : List ℕ) → ((rest : List ℕ) × (tail ≡ 62 ∷ rest)) ⊎ ((rest : List ℕ) → tail ≢ 62 ∷ rest) → ((rest : List ℕ) × (tail ≡ 47 ∷ rest)) ⊎ ((rest : List ℕ) → tail ≢ 47 ∷ rest) → CloseOrNone tail
close_or tail (inl one) slash = inl (false, one)
close_or tail (inr none) (inl slash) = slash_or_none tail slash.0 none slash.1 (byte_or_none 62 slash.0)
close_or tail (inr none) (inr other) = inr (not_closed tail none (λ rest. other (62 ∷ rest)))

abbrev FoundOrNone : ℕ → List ℕ → Type 0
FoundOrNone place bytes = ((u : PlainUnit) × ((rest : List ℕ) × FindsUnit place bytes u rest)) ⊎ Stops place bytes

closed_or_none : (place : ℕ) (bytes name mid after : List ℕ) (attrs : List Attribute) → lead (60 ∷ bytes) ≡ opening → name_at bytes ≡ Some (name, mid) → ReadsAttributes (place + 1 + length name) mid attrs after → CloseOrNone (after_white after) → FoundOrNone place (60 ∷ bytes)
closed_or_none place bytes name mid after attrs opens named reads (inl close) =
    inl (_, (close.1.0, tag_finds place close.0 bytes name close.1.0 attrs (record { mid = mid; after = after; named = named; attributes = reads; closed = close.1.1 })))
closed_or_none place bytes name mid after attrs opens named reads (inr none) =
    inr (no_close_stops place bytes name (after_white after) attrs opens (record { mid = mid; after = after; named = named; attributes = reads; closed = refl }) none)

pub tag_or_none : (place : ℕ) (bytes : List ℕ) → lead (60 ∷ bytes) ≡ opening → ((u : PlainUnit) × ((rest : List ℕ) × FindsUnit place (60 ∷ bytes) u rest)) ⊎ Stops place (60 ∷ bytes)
tag_or_none place bytes opens = elim (name_at bytes) as (λ o. name_at bytes ≡ o → FoundOrNone place (60 ∷ bytes)) [
  | None ↦ λ e. inr (no_name_stops place bytes opens e)
  | Some p ↦ λ e.
      let attrs = attributes_found (length p.1) (place + 1 + length p.0) p.1 (omega arith) in
      let tail = after_white attrs.1.0 in
      closed_or_none place bytes p.0 p.1 attrs.1.0 attrs.0 opens e attrs.1.1 (close_or tail (byte_or_none 62 tail) (byte_or_none 47 tail))
] refl

ended_or_none : (place : ℕ) (bytes name mid : List ℕ) → name_at bytes ≡ Some (name, mid) → ((rest : List ℕ) × (after_white mid ≡ 62 ∷ rest)) ⊎ ((rest : List ℕ) → after_white mid ≢ 62 ∷ rest) → FoundOrNone place (60 ∷ 47 ∷ bytes)
ended_or_none place bytes name mid named (inl close) = inl (_, (close.0, end_tag_finds place bytes name close.0 (record { mid = mid; named = named; closed = close.1 })))
ended_or_none place bytes name mid named (inr none) = inr (no_end_tag_stops place bytes (λ other rest reads.
    let same : mid ≡ reads.mid = ap (λ (p : List ℕ × List ℕ). p.1) (same_Some _ _ (sym named ∙ reads.named)) in
    none rest (ap after_white same ∙ reads.closed)))

pub end_tag_or_none : (place : ℕ) (bytes : List ℕ) → ((u : PlainUnit) × ((rest : List ℕ) × FindsUnit place (60 ∷ 47 ∷ bytes) u rest)) ⊎ Stops place (60 ∷ 47 ∷ bytes)
end_tag_or_none place bytes = elim (name_at bytes) as (λ o. name_at bytes ≡ o → FoundOrNone place (60 ∷ 47 ∷ bytes)) [
  | None ↦ λ e. inr (no_name_end_stops place bytes e)
  | Some p ↦ λ e. ended_or_none place bytes p.0 p.1 e (byte_or_none 62 (after_white p.1))
] refl

-- ---- a text or a Bom

not_plain : (a b c d : Bool) → cond a ending (cond b (cond c comments doctypes) (cond d query opening)) ≡ plain → ⊥
not_plain true b c d e = cc
not_plain false true true d e = cc
not_plain false true false d e = cc
not_plain false false c true e = cc
not_plain false false c false e = cc

after_not_plain : (bytes : List ℕ) → lead_after bytes ≡ plain → ⊥
after_not_plain [] e = cc
after_not_plain (b ∷ bytes) e = not_plain (nat_eq b 47) (nat_eq b 33) (starts_with nat_eq bytes (codes "--")) (nat_eq b 63) e

plain_first : (t : Bool) (bytes : List ℕ) → cond t (lead_after bytes) plain ≡ plain → t ≡ false
plain_first true bytes e = absurd (after_not_plain bytes e)
plain_first false bytes e = refl

abbrev Found : ℕ → List ℕ → Type 0
Found place bytes = (u : PlainUnit) × ((rest : List ℕ) × FindsUnit place bytes u rest)

text_found : (place b : ℕ) (bytes : List ℕ) → nat_eq b 60 ≡ false → (place ≡ 0 → starts_with nat_eq (b ∷ bytes) bom_bytes ≡ false) → Found place (b ∷ bytes)
text_found place b bytes first other =
    let n = prefix_len is_text_byte (b ∷ bytes) in
    (_, (drop n (b ∷ bytes), text_finds place (b ∷ bytes) (take n (b ∷ bytes)) (drop n (b ∷ bytes)) n refl refl refl (omega arith) (ap not first) other))

bom_or_text : (place b : ℕ) (bytes : List ℕ) (begins starts : Bool) → nat_eq b 60 ≡ false → starts_with nat_eq (b ∷ bytes) bom_bytes ≡ begins → eqb place 0 ≡ starts → Found place (b ∷ bytes)
bom_or_text place b bytes false at first s z = text_found place b bytes first (λ _. s)
bom_or_text place b bytes true false first s z = text_found place b bytes first (λ e. absurd (eqb-false place 0 z e))
bom_or_text place b bytes true true first s z = (_, (_, bom_finds place (b ∷ bytes) (eqb-true place 0 z) s))

pub plain_found : (place b : ℕ) (bytes : List ℕ) → lead (b ∷ bytes) ≡ plain → (u : PlainUnit) × ((rest : List ℕ) × FindsUnit place (b ∷ bytes) u rest)
plain_found place b bytes e = bom_or_text place b bytes (starts_with nat_eq (b ∷ bytes) bom_bytes) (eqb place 0) (plain_first (nat_eq b 60) bytes e) refl refl
