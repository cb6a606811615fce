-- Texts and tags: what is read is spelled so, and where nothing is read no unit begins.
use Rattle.std.proofs.Common.{get_or, add-one, ◌≡◌, ◌≢◌, ℕ, ◌+◌, ◌-◌, ◌<◌, Bool, true, false, cond, List, [], ◌∷◌, ◌++◌, length, take, drop, refl, sym, ap, subst, ◌∙◌, append_assoc, arith, Some, None, length-append, length-take}
use Rattle.std.proofs.lemmas.Bool.{and_parts}
use Rattle.std.proofs.lemmas.Option.{same_Some}
use Rattle.std.specs.Prelude.{nat_eq, codes}
use Rattle.std.specs.List.{prefix_len, list_all, starts_with}
use Rattle.std.proofs.lemmas.Bool.Decides.{nat_tests, Decides-eqb}
use Rattle.std.proofs.lemmas.List.{take-append-drop}
use Rattle.std.proofs.lemmas.Slice.Eq.{starts_is}
use Rattle.tml_span.specs.Bytes.{is_white, is_text_byte, is_name_start, is_name_byte}
use Rattle.tml_span.specs.Units.{Attribute, SpelledAttribute, SpelledAttributes, Kind, bom, text, start_tag, end_tag, empty_tag, SpelledTag, bom_bytes, BeginsWith, SpelledKind}
use Rattle.tml_span.specs.Cutting.{Ends, Stops, FindsUnit}
use Rattle.tml_span.specs.Reading.{after_white, after_byte, name_at, attribute_at, ReadsAttributes}
use Rattle.tml_span.proofs.Runs.{Not, prefix_passes, rest_stops, white_again, white_takes, name_takes, name_again}
use Rattle.tml_span.proofs.Parts.{attribute_text, white_no_name, attributes_take, attributes_again, one_reading}
use Rattle.tml_span.proofs.Leads.{ending, opening, lead, lead_of, leads, tag_parts}

-- a spelling is found, and its end is counted from what is left
pub spelled_finds : (place : ℕ) (bytes prefix rest : List ℕ) (k : Kind) → bytes ≡ prefix ++ rest → SpelledKind place k prefix → Ends k rest → FindsUnit place bytes (record { start = place; end = place + (length bytes - length rest); kind = k }) rest
spelled_finds place bytes prefix rest k whole h ends = (prefix, whole, record { kind = h; start = refl; end = ap (λ (n : ℕ). place + n) (omega (arith, ap length whole, length-append prefix rest)) }, ends)

-- ---- a text and the Bom

not_ends : (bytes rest : List ℕ) → Not is_text_byte rest → Ends (text bytes) rest
not_ends bytes [] h = tt
not_ends bytes (b ∷ rest) h = h

text_some : (bytes : List ℕ) → 0 < length bytes → is_text_byte (get_or bytes 0 0) ≡ true → 0 < prefix_len is_text_byte bytes
text_some [] some h = absurd (omega arith)
text_some (b ∷ bs) some h = rw h (omega arith)

-- what begins with the Bom's bytes passes the test for them
no_bom : (bytes t rest : List ℕ) → bytes ≡ t ++ rest → starts_with nat_eq bytes bom_bytes ≡ false → BeginsWith bom_bytes t → ⊥
no_bom bytes t rest whole none begins = cc (sym none ∙ ap (λ (x : List ℕ). starts_with nat_eq x bom_bytes) (whole ∙ ap (λ (x : List ℕ). x ++ rest) begins.1))

pub text_finds : (place : ℕ) (bytes t rest : List ℕ) (n : ℕ) → n ≡ prefix_len is_text_byte bytes → t ≡ take n bytes → rest ≡ drop n bytes → 0 < length bytes → is_text_byte (get_or bytes 0 0) ≡ true → (place ≡ 0 → starts_with nat_eq bytes bom_bytes ≡ false)
    → FindsUnit place bytes (record { start = place; end = place + length t; kind = text t }) rest
text_finds place bytes t rest n en et er some h other =
    let prefix : take (prefix_len is_text_byte bytes) bytes ≡ t = ap (λ (k : ℕ). take k bytes) (sym en) ∙ sym et in
    let suffix : drop (prefix_len is_text_byte bytes) bytes ≡ rest = ap (λ (k : ℕ). drop k bytes) (sym en) ∙ sym er in
    let some_t : t ≡ [] → ⊥ = λ z. omega (arith, text_some bytes some h, ap length z, ap length et, length-take n bytes, en) in
    let whole : bytes ≡ t ++ rest = sym (take-append-drop n bytes) ∙ cc in (
      t,
      whole,
      record { kind = (refl, some_t, rw prefix at (prefix_passes is_text_byte bytes), λ zero. no_bom bytes t rest whole (other zero)); start = refl; end = refl },
      not_ends t rest (rw suffix at (rest_stops is_text_byte bytes)),
    )

pub bom_finds : (place : ℕ) (bytes : List ℕ) → place ≡ 0 → starts_with nat_eq bytes bom_bytes ≡ true → FindsUnit place bytes (record { start = 0; end = 3; kind = bom }) (drop 3 bytes)
bom_finds place bytes zero begins = (bom_bytes, (starts_is Decides-eqb bytes bom_bytes true (sym begins)).0 refl, record { kind = (zero, refl); start = sym zero; end = ap (λ (n : ℕ). n + 3) (sym zero) }, tt)

-- ---- what follows the parts of a tag

-- a list that ends white space and a name
abbrev pub Closing : List ℕ → Type 0
Closing tail = Not is_white tail × Not is_name_byte tail

white_stops : (white tail : List ℕ) → list_all is_white white ≡ true → Not is_name_byte tail → Not is_name_byte (white ++ tail)
white_stops [] tail h n = n
white_stops (b ∷ white) tail h n = white_no_name b (and_parts (is_white b) (list_all is_white white) h).0

before_stops : (before tail : List ℕ) → (before ≡ [] → ⊥) → list_all is_white before ≡ true → Not is_name_byte (before ++ tail)
before_stops [] tail some w = absurd (some refl)
before_stops (b ∷ before) tail some w = white_no_name b (and_parts (is_white b) (list_all is_white before) w).0

attribute_stops : (place : ℕ) (a : Attribute) (prefix rest : List ℕ) → SpelledAttribute place a prefix → Not is_name_byte (prefix ++ rest)
attribute_stops place a prefix rest h =
    let parts : prefix ++ rest ≡ attribute_text h.before h.left h.right a rest = ap (λ (f : List ℕ). f ++ rest) h.whole ∙ simp append_assoc in
    rw parts (before_stops h.before (a.name ++ (h.left ++ (61 ∷ (h.right ++ (a.quote ∷ (a.value ++ (a.quote ∷ rest))))))) h.apart h.white_before)

-- attributes and white space do not go on with a name
inner_stops : (place : ℕ) (attrs : List Attribute) (inner white tail : List ℕ) → SpelledAttributes place attrs inner → list_all is_white white ≡ true → Not is_name_byte tail → Not is_name_byte (inner ++ (white ++ tail))
inner_stops place [] inner white tail h w n = rw h (white_stops white tail w n)
inner_stops place (a ∷ attrs) inner white tail h w n =
    let parts : inner ++ (white ++ tail) ≡ h.0 ++ (h.1 ++ (white ++ tail)) = ap (λ (x : List ℕ). x ++ (white ++ tail)) h.2 ∙ append_assoc h.0 h.1 (white ++ tail) in
    rw parts (attribute_stops place a h.0 (h.1 ++ (white ++ tail)) h.3)

start_is_byte : (b : ℕ) → is_name_byte b ≡ false → is_name_start b ≡ false
start_is_byte b h = grind (arith, nat_tests)

-- no name begins with what ends a name
no_name : (tail : List ℕ) → Not is_name_byte tail → name_at tail ≡ None
unfolding name_at
no_name [] n = refl
no_name (b ∷ tail) n = rw (start_is_byte b n) refl

either_way : {A : Type 0} (t : Bool) (x : A) → cond t x x ≡ x
either_way true x = refl
either_way false x = refl

no_attribute : (white tail : List ℕ) → list_all is_white white ≡ true → Closing tail → (place : ℕ) → attribute_at place (white ++ tail) ≡ None
unfolding attribute_at
no_attribute white tail w closing place = rw (white_again white tail w closing.0, no_name tail closing.1) (either_way _ None)

-- ---- a tag after its `<`

other_byte : (b c : ℕ) → b ≢ c → nat_eq b c ≡ false
other_byte b c h = grind (arith, nat_tests)

-- what is none of `/`, `!` and `?` opens a tag
pub opens : (bytes : List ℕ) → get_or bytes 0 0 ≢ 47 → get_or bytes 0 0 ≢ 33 → get_or bytes 0 0 ≢ 63 → lead (60 ∷ bytes) ≡ opening
opens [] slash bang mark = refl
opens (b ∷ bytes) slash bang mark = rw (other_byte b 47 slash, other_byte b 33 bang, other_byte b 63 mark) refl

-- how it is closed, and of what kind it is
abbrev pub close_of : Bool → List ℕ
close_of is_empty = cond is_empty (codes "/>") (codes ">")

abbrev pub tag_of : Bool → List ℕ → List Attribute → Kind
tag_of is_empty name attrs = cond is_empty (empty_tag name attrs) (start_tag name attrs)

-- its name, its attributes, and what follows the white space after them
pub record ReadsTag (place : ℕ) (bytes name : List ℕ) (attrs : List Attribute) (tail : List ℕ) : Type 0 where
  pub mid : List ℕ
  pub after : List ℕ
  pub named : name_at bytes ≡ Some (name, mid)
  pub attributes : ReadsAttributes (place + 1 + length name) mid attrs after
  pub closed : after_white after ≡ tail

-- what is read is spelled so
tag_takes : (place : ℕ) (bytes name close rest : List ℕ) (attrs : List Attribute) → ReadsTag place bytes name attrs (close ++ rest) → (prefix : List ℕ) × (60 ∷ bytes ≡ prefix ++ rest) × SpelledTag place name attrs close prefix
tag_takes place bytes name close rest attrs h =
    let n = name_takes bytes name h.mid h.named in
    let inner = attributes_take (place + 1 + length name) h.mid attrs h.after h.attributes in
    let white = white_takes h.after in
    let whole : 60 ∷ bytes ≡ 60 ∷ (name ++ (inner.0 ++ (white.0 ++ (close ++ rest)))) =
    ap (λ (x : List ℕ). 60 ∷ x) (n.0 ∙ ap (λ (x : List ℕ). name ++ x) (inner.1 ∙ ap (λ (x : List ℕ). inner.0 ++ x) (white.1 ∙ ap (λ (x : List ℕ). white.0 ++ x) h.closed))) in
    (60 ∷ name ++ inner.0 ++ white.0 ++ close, whole ∙ sym (simp append_assoc), record { inner = inner.0; white = white.0; whole = refl; named = n.1; attributes = inner.2; white_inner = white.2 })

-- what is spelled so is read
tag_again : (place : ℕ) (bytes name close prefix suffix : List ℕ) (attrs : List Attribute) → 60 ∷ bytes ≡ prefix ++ suffix → SpelledTag place name attrs close prefix → Closing (close ++ suffix) → ReadsTag place bytes name attrs (close ++ suffix)
tag_again place bytes name close prefix suffix attrs e h closing =
    let tail = h.white ++ (close ++ suffix) in
    let is : bytes ≡ name ++ (h.inner ++ tail) = cc (e ∙ tag_parts place name attrs close prefix suffix h) in
    record {
      mid = h.inner ++ tail;
      after = tail;
      named = ap name_at is ∙ name_again name (h.inner ++ tail) h.named (inner_stops _ attrs h.inner h.white (close ++ suffix) h.attributes h.white_inner closing.1);
      attributes = attributes_again (place + 1 + length name) attrs h.inner tail h.attributes (no_attribute h.white (close ++ suffix) h.white_inner closing);
      closed = white_again h.white (close ++ suffix) h.white_inner closing.0;
    }

-- a tag is read in one way
pub one_tag_reading : (place : ℕ) (bytes name other tail after : List ℕ) (attrs others : List Attribute) → ReadsTag place bytes name attrs tail → ReadsTag place bytes other others after → (name ≡ other) × (attrs ≡ others) × (tail ≡ after)
one_tag_reading place bytes name other tail after attrs others h k =
    let same = same_Some _ _ (sym h.named ∙ k.named) in
    let reads = subst (λ (p : List ℕ × List ℕ). ReadsAttributes (place + 1 + length p.0) p.1 attrs h.after) same h.attributes in
    let one = one_reading (place + 1 + length other) k.mid attrs others h.after k.after reads k.attributes in
    (ap (λ (p : List ℕ × List ℕ). p.0) same, one.0, sym h.closed ∙ ap after_white one.1 ∙ k.closed)

closes : (is_empty : Bool) (suffix : List ℕ) → Closing (close_of is_empty ++ suffix)
closes true suffix = (refl, refl)
closes false suffix = (refl, refl)

-- a unit that is a start tag or an empty tag, as it is read
pub record AsTag (place : ℕ) (k : Kind) (bytes suffix : List ℕ) : Type 0 where
  pub is_empty : Bool
  pub name : List ℕ
  pub attrs : List Attribute
  pub is : k ≡ tag_of is_empty name attrs
  pub reads : ReadsTag place bytes name attrs (close_of is_empty ++ suffix)

pub as_tag : (place : ℕ) (k : Kind) (bytes prefix suffix : List ℕ) → lead_of k ≡ opening → 60 ∷ bytes ≡ prefix ++ suffix → SpelledKind place k prefix → AsTag place k bytes suffix
as_tag place (start_tag name attrs) bytes prefix suffix opens e h = record { is_empty = false; name = name; attrs = attrs; is = refl; reads = tag_again place bytes name (close_of false) prefix suffix attrs e h (closes false suffix) }
as_tag place (empty_tag name attrs) bytes prefix suffix opens e h = record { is_empty = true; name = name; attrs = attrs; is = refl; reads = tag_again place bytes name (close_of true) prefix suffix attrs e h (closes true suffix) }
as_tag place k bytes prefix suffix opens e h = absurd cc

tag_spelled : (place : ℕ) (is_empty : Bool) (name prefix : List ℕ) (attrs : List Attribute) → SpelledTag place name attrs (close_of is_empty) prefix → SpelledKind place (tag_of is_empty name attrs) prefix
tag_spelled place true name prefix attrs h = h
tag_spelled place false name prefix attrs h = h

tag_ends : (is_empty : Bool) (name rest : List ℕ) (attrs : List Attribute) → Ends (tag_of is_empty name attrs) rest
tag_ends true name rest attrs = tt
tag_ends false name rest attrs = tt

pub tag_finds : (place : ℕ) (is_empty : Bool) (bytes name rest : List ℕ) (attrs : List Attribute) → ReadsTag place bytes name attrs (close_of is_empty ++ rest)
    → FindsUnit place (60 ∷ bytes) (record { start = place; end = place + (length bytes + 1 - length rest); kind = tag_of is_empty name attrs }) rest
tag_finds place is_empty bytes name rest attrs h =
    let t = tag_takes place bytes name (close_of is_empty) rest attrs h in
    rw add-one (spelled_finds place (60 ∷ bytes) t.0 rest (tag_of is_empty name attrs) t.1 (tag_spelled place is_empty name t.0 attrs t.2) (tag_ends is_empty name rest attrs))

-- where no other unit begins, none does where no tag is read
pub no_tag_stops : (place : ℕ) (bytes : List ℕ) → lead (60 ∷ bytes) ≡ opening → ((is_empty : Bool) (name rest : List ℕ) (attrs : List Attribute) → ReadsTag place bytes name attrs (close_of is_empty ++ rest) → ⊥) → Stops place (60 ∷ bytes)
no_tag_stops place bytes opens none u prefix suffix e h =
    let t = as_tag place u.kind bytes prefix suffix (sym (leads place u.kind prefix suffix h.kind) ∙ ap lead (sym e) ∙ opens) e h.kind in
    none t.is_empty t.name suffix t.attrs t.reads

pub no_name_stops : (place : ℕ) (bytes : List ℕ) → lead (60 ∷ bytes) ≡ opening → name_at bytes ≡ None → Stops place (60 ∷ bytes)
no_name_stops place bytes opens nothing = no_tag_stops place bytes opens (λ is_empty name rest attrs reads. cc (sym nothing ∙ reads.named))

pub no_close_stops : (place : ℕ) (bytes name tail : List ℕ) (attrs : List Attribute) → lead (60 ∷ bytes) ≡ opening → ReadsTag place bytes name attrs tail → ((is_empty : Bool) (rest : List ℕ) → tail ≢ close_of is_empty ++ rest) → Stops place (60 ∷ bytes)
no_close_stops place bytes name tail attrs opens h none = no_tag_stops place bytes opens (λ is_empty other rest others reads. none is_empty rest (one_tag_reading place bytes name other tail (close_of is_empty ++ rest) attrs others h reads).2)

-- ---- an end tag after its `</`

-- its name, and what follows the white space and the `>` after it
pub record ReadsEndTag (bytes name rest : List ℕ) : Type 0 where
  pub mid : List ℕ
  pub named : name_at bytes ≡ Some (name, mid)
  pub closed : after_white mid ≡ 62 ∷ rest

-- the parts of an end tag, and what follows it
pub end_tag_parts : (prefix suffix name white : List ℕ) → prefix ≡ 60 ∷ 47 ∷ name ++ white ++ 62 ∷ [] → prefix ++ suffix ≡ 60 ∷ 47 ∷ (name ++ (white ++ 62 ∷ suffix))
end_tag_parts prefix suffix name white e = ap (λ (x : List ℕ). x ++ suffix) e ∙ simp append_assoc

pub end_tag_again : (place : ℕ) (bytes name prefix suffix : List ℕ) → 60 ∷ 47 ∷ bytes ≡ prefix ++ suffix → SpelledKind place (end_tag name) prefix → ReadsEndTag bytes name suffix
end_tag_again place bytes name prefix suffix e h =
    let is : bytes ≡ name ++ (h.0 ++ 62 ∷ suffix) = cc (e ∙ end_tag_parts prefix suffix name h.0 h.1) in
    record { mid = h.0 ++ 62 ∷ suffix; named = ap name_at is ∙ name_again name (h.0 ++ 62 ∷ suffix) h.2 (white_stops h.0 (62 ∷ suffix) h.3 refl); closed = white_again h.0 (62 ∷ suffix) h.3 refl }

-- an end tag is read in one way
pub one_end_tag_reading : (bytes name other rest after : List ℕ) → ReadsEndTag bytes name rest → ReadsEndTag bytes other after → (name ≡ other) × (rest ≡ after)
one_end_tag_reading bytes name other rest after h k =
    let same = same_Some _ _ (sym h.named ∙ k.named) in
    (ap (λ (p : List ℕ × List ℕ). p.0) same, cc (sym h.closed ∙ ap (λ (p : List ℕ × List ℕ). after_white p.1) same ∙ k.closed))

pub end_tag_finds : (place : ℕ) (bytes name rest : List ℕ) → ReadsEndTag bytes name rest → FindsUnit place (60 ∷ 47 ∷ bytes) (record { start = place; end = place + (length bytes + 2 - length rest); kind = end_tag name }) rest
end_tag_finds place bytes name rest h =
    let n = name_takes bytes name h.mid h.named in
    let white = white_takes h.mid in
    let prefix = 60 ∷ 47 ∷ name ++ white.0 ++ 62 ∷ [] in
    let whole : 60 ∷ 47 ∷ bytes ≡ 60 ∷ 47 ∷ (name ++ (white.0 ++ 62 ∷ rest)) = ap (λ (x : List ℕ). 60 ∷ 47 ∷ x) (n.0 ∙ ap (λ (x : List ℕ). name ++ x) (white.1 ∙ ap (λ (x : List ℕ). white.0 ++ x) h.closed)) in
    let two : length (60 ∷ 47 ∷ bytes) ≡ length bytes + 2 = omega arith in
    subst (λ (n : ℕ). FindsUnit place (60 ∷ 47 ∷ bytes) (record { start = place; end = place + (n - length rest); kind = end_tag name }) rest) two
    (spelled_finds place (60 ∷ 47 ∷ bytes) prefix rest (end_tag name) (whole ∙ sym (end_tag_parts prefix rest name white.0 refl)) (white.0, refl, n.1, white.2) tt)

end_tag_is : (place : ℕ) (k : Kind) (bytes prefix suffix : List ℕ) → lead_of k ≡ ending → 60 ∷ 47 ∷ bytes ≡ prefix ++ suffix → SpelledKind place k prefix → (name : List ℕ) × ReadsEndTag bytes name suffix
end_tag_is place (end_tag name) bytes prefix suffix ends e h = (name, end_tag_again place bytes name prefix suffix e h)
end_tag_is place k bytes prefix suffix ends e h = absurd cc

-- after `</` no unit begins where no end tag is read
pub no_end_tag_stops : (place : ℕ) (bytes : List ℕ) → ((name rest : List ℕ) → ReadsEndTag bytes name rest → ⊥) → Stops place (60 ∷ 47 ∷ bytes)
no_end_tag_stops place bytes none u prefix suffix e h =
    let t = end_tag_is place u.kind bytes prefix suffix (sym (leads place u.kind prefix suffix h.kind) ∙ ap lead (sym e)) e h.kind in
    none t.0 suffix t.1

pub no_name_end_stops : (place : ℕ) (bytes : List ℕ) → name_at bytes ≡ None → Stops place (60 ∷ 47 ∷ bytes)
no_name_end_stops place bytes nothing = no_end_tag_stops place bytes (λ name rest reads. cc (sym nothing ∙ reads.named))

pub no_close_end_stops : (place : ℕ) (bytes name mid : List ℕ) → name_at bytes ≡ Some (name, mid) → after_byte 62 (after_white mid) ≡ None → Stops place (60 ∷ 47 ∷ bytes)
no_close_end_stops place bytes name mid named none = no_end_tag_stops place bytes (λ other rest reads.
    let same : mid ≡ reads.mid = ap (λ (p : List ℕ × List ℕ). p.1) (same_Some _ _ (sym named ∙ reads.named)) in
    cc (sym none ∙ ap (λ (x : List ℕ). after_byte 62 (after_white x)) same ∙ ap (after_byte 62) reads.closed))
