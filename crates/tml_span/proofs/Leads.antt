-- The first bytes of a unit tell what kind it is of.
use Rattle.std.proofs.Common.{◌≡◌, ◌≢◌, ℕ, true, false, cond, List, [], ◌∷◌, ◌++◌, refl, sym, ap, ◌∙◌, append_assoc}
use Rattle.std.specs.Prelude.{nat_eq, codes}
use Rattle.std.specs.List.{starts_with, list_all}
use Rattle.tml_span.specs.Bytes.{is_text_byte, is_name_start, is_name_byte, is_name}
use Rattle.std.proofs.lemmas.Bool.{eqb-true, and_parts, not-true}
use Rattle.tml_span.specs.Units.{Attribute, Kind, bom, declaration, doctype, comment, text, start_tag, end_tag, empty_tag, SpelledTag, SpelledKind}

-- what the first bytes begin
pub data Lead : Type 0 where
  nothing : Lead
  plain : Lead
  ending : Lead
  comments : Lead
  doctypes : Lead
  query : Lead
  opening : Lead

-- after `<`
abbrev pub lead_after : List ℕ → Lead
lead_after [] = opening
lead_after (b ∷ bytes) = cond (nat_eq b 47) ending (cond (nat_eq b 33) (cond (starts_with nat_eq bytes (codes "--")) comments doctypes) (cond (nat_eq b 63) query opening))

abbrev pub lead : List ℕ → Lead
lead [] = nothing
lead (b ∷ bytes) = cond (nat_eq b 60) (lead_after bytes) plain

abbrev pub lead_of : Kind → Lead
lead_of bom = plain
lead_of (declaration bytes) = query
lead_of (doctype bytes) = doctypes
lead_of (comment bytes) = comments
lead_of (text bytes) = plain
lead_of (start_tag name attrs) = opening
lead_of (end_tag name) = ending
lead_of (empty_tag name attrs) = opening

-- a byte that no name begins with is not the first of a name
not_start : (b c : ℕ) → is_name_start c ≡ false → is_name_start b ≡ true → nat_eq b c ≡ false
not_start b c h k = elim (nat_eq b c) as (λ t. nat_eq b c ≡ t → t ≡ false) [
  | true ↦ λ e. let same : b ≡ c = eqb-true b c e in absurd (cc (sym k ∙ ap is_name_start same ∙ h))
  | false ↦ λ e. refl
] refl

-- after `<` a name opens a tag
pub name_leads : (name suffix : List ℕ) → is_name name ≡ true → lead_after (name ++ suffix) ≡ opening
name_leads [] suffix h = absurd cc
name_leads (b ∷ name) suffix h =
    let start = (and_parts (is_name_start b) (list_all is_name_byte name) h).0 in
    rw (not_start b 47 refl start, not_start b 33 refl start, not_start b 63 refl start) refl

-- a text begins with no `<`
text_leads : (t suffix : List ℕ) → t ≢ [] → list_all is_text_byte t ≡ true → lead (t ++ suffix) ≡ plain
text_leads [] suffix some h = absurd (some refl)
text_leads (b ∷ t) suffix some h =
    let first : nat_eq b 60 ≡ false = not-true (nat_eq b 60) (and_parts (is_text_byte b) (list_all is_text_byte t) h).0 in
    rw first refl

-- the parts of a tag, and what follows it
pub tag_parts : (place : ℕ) (name : List ℕ) (attrs : List Attribute) (close prefix suffix : List ℕ) (h : SpelledTag place name attrs close prefix) → prefix ++ suffix ≡ 60 ∷ (name ++ (h.inner ++ (h.white ++ (close ++ suffix))))
tag_parts place name attrs close prefix suffix h = ap (λ (x : List ℕ). x ++ suffix) h.whole ∙ simp append_assoc

-- a tag begins with `<` and a name
tag_leads : (place : ℕ) (name : List ℕ) (attrs : List Attribute) (close prefix suffix : List ℕ) → SpelledTag place name attrs close prefix → lead (prefix ++ suffix) ≡ opening
tag_leads place name attrs close prefix suffix h = ap lead (tag_parts place name attrs close prefix suffix h) ∙ name_leads name (h.inner ++ (h.white ++ (close ++ suffix))) h.named

-- a unit begins as its kind does, whatever follows it
pub leads : (place : ℕ) (k : Kind) (prefix suffix : List ℕ) → SpelledKind place k prefix → lead (prefix ++ suffix) ≡ lead_of k
leads place bom prefix suffix h = rw h.1 refl
leads place (declaration bytes) prefix suffix h = rw (h.0, h.3) refl
leads place (doctype bytes) prefix suffix h = rw (h.0, h.3) refl
leads place (comment bytes) prefix suffix h = rw (h.0, h.2) refl
leads place (text bytes) prefix suffix h = rw h.0 (text_leads bytes suffix h.1 h.2)
leads place (start_tag name attrs) prefix suffix h = tag_leads place name attrs (codes ">") prefix suffix h
leads place (end_tag name) prefix suffix h = rw h.1 refl
leads place (empty_tag name attrs) prefix suffix h = tag_leads place name attrs (codes "/>") prefix suffix h
