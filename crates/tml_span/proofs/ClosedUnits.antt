-- Declarations, doctypes and comments: where none begins, that there is one or none, and that it ends in one way.
use Rattle.std.proofs.Common.{◌≡◌, ◌≢◌, ◌⊎◌, ℕ, ◌+◌, ◌-◌, true, false, List, ◌∷◌, ◌++◌, length, take, drop, refl, sym, ap, subst, ◌∙◌, append_assoc, arith, inl, inr, length-append}
use Rattle.std.specs.Prelude.{nat_eq, codes}
use Rattle.std.specs.List.{starts_with, prefix_len, list_all}
use Rattle.std.proofs.lemmas.Bool.{cond-false}
use Rattle.std.proofs.lemmas.List.{take-append-drop, take_at}
use Rattle.tml_span.specs.Bytes.{is_white, is_doctype_byte}
use Rattle.tml_span.specs.Units.{Lacks, Kind, declaration, doctype, comment, PlainUnit, SpelledKind}
use Rattle.tml_span.specs.Cutting.{Stops, FindsUnit}
use Rattle.tml_span.specs.Reading.{run_at}
use Rattle.tml_span.proofs.Leads.{lead, lead_of, comments, query, doctypes, leads}
use Rattle.tml_span.proofs.Runs.{run_again, prefix_passes}
use Rattle.tml_span.proofs.Closings.{BeginsWithWord, begins_true, begins_or_not, begins_with_word_or_not, find_piece, comment_apart, declaration_apart, one_body}

-- what follows a unit comes after its closing text
parts : (opening body closing spelling suffix : List ℕ) → spelling ≡ opening ++ body ++ closing → spelling ++ suffix ≡ opening ++ (body ++ (closing ++ suffix))
parts opening body closing spelling suffix e = ap (λ (x : List ℕ). x ++ suffix) e ∙ simp append_assoc

-- a unit is found, or none begins
abbrev pub FindsOrStops : ℕ → List ℕ → Type 0
FindsOrStops place bytes = ((u : PlainUnit) × ((rest : List ℕ) × FindsUnit place bytes u rest)) ⊎ Stops place bytes

-- ---- comments

no_comment : (place : ℕ) (k : Kind) (bytes prefix suffix : List ℕ) → ((body rest : List ℕ) → bytes ≡ codes "<!--" ++ (body ++ (codes "-->" ++ rest)) → ⊥) → bytes ≡ prefix ++ suffix → SpelledKind place k prefix → comments ≡ lead_of k → ⊥
no_comment place (comment all) bytes prefix suffix none e h l = none h.1 suffix (e ∙ parts (codes "<!--") h.1 (codes "-->") prefix suffix (h.0 ∙ h.2))
no_comment place k bytes prefix suffix none e h l = absurd cc

comment_stops : (place : ℕ) (bytes : List ℕ) → lead bytes ≡ comments → ((body rest : List ℕ) → bytes ≡ codes "<!--" ++ (body ++ (codes "-->" ++ rest)) → ⊥) → Stops place bytes
comment_stops place bytes l none u prefix suffix e h = no_comment place u.kind bytes prefix suffix none e h.kind (sym l ∙ ap lead e ∙ leads place u.kind prefix suffix h.kind)

-- no comment begins where no closing text follows
pub comment_unclosed : (place : ℕ) (bytes : List ℕ) → lead bytes ≡ comments → Lacks (codes "-->") (drop 4 bytes) → Stops place bytes
comment_unclosed place bytes l none = comment_stops place bytes l (λ body rest e. none body rest (ap (drop 4) e ∙ sym (append_assoc body (codes "-->") rest)))

pub lead_comment : (bytes : List ℕ) → starts_with nat_eq bytes (codes "<!--") ≡ true → lead bytes ≡ comments
lead_comment bytes h = ap lead (begins_true (codes "<!--") bytes h).1

comment_finds : (place : ℕ) (bytes body rest : List ℕ) → bytes ≡ codes "<!--" ++ (body ++ (codes "-->" ++ rest)) → Lacks (codes "-->") body → FindsOrStops place bytes
comment_finds place bytes body rest e l =
    let prefix = codes "<!--" ++ body ++ codes "-->" in
    inl (record { start = place; end = place + length prefix; kind = comment prefix }, (rest, (prefix, e ∙ sym (parts (codes "<!--") body (codes "-->") prefix rest refl), record { kind = (refl, body, refl, l); start = refl; end = refl }, tt)))

pub comment_or_none : (place : ℕ) (bytes : List ℕ) → lead bytes ≡ comments → FindsOrStops place bytes
comment_or_none place bytes l = elim (begins_or_not (codes "<!--") bytes) [
  | yes here ↦ elim (find_piece (codes "-->") here.0 (λ e. absurd cc)) [
    | inl found ↦ comment_finds place bytes found.0 found.1 (here.1 ∙ ap (λ (x : List ℕ). codes "<!--" ++ x) found.2) found.3
    | inr lacks ↦ inr (comment_unclosed place bytes l (subst (Lacks (codes "-->")) (sym (ap (drop 4) here.1)) lacks))
  ]
  | no not_here ↦ inr (comment_stops place bytes l (λ body rest e. not_here (body ++ (codes "-->" ++ rest), e)))
]

pub one_comment : (place : ℕ) (s t suffix after : List ℕ) → s ++ suffix ≡ t ++ after → SpelledKind place (comment s) s → SpelledKind place (comment t) t → s ≡ t
one_comment place s t suffix after e h k =
    let whole = sym (parts (codes "<!--") h.1 (codes "-->") s suffix h.2) ∙ e ∙ parts (codes "<!--") k.1 (codes "-->") t after k.2 in
    let same = one_body (codes "-->") comment_apart h.1 k.1 suffix after (ap (drop 4) whole) h.3 k.3 in
    h.2 ∙ ap (λ (x : List ℕ). codes "<!--" ++ x ++ codes "-->") same ∙ sym k.2

-- ---- declarations

no_declaration : (place : ℕ) (k : Kind) (bytes prefix suffix : List ℕ) → ((white : ℕ) (body rest : List ℕ) → bytes ≡ codes "<?xml" ++ (white ∷ (body ++ (codes "?>" ++ rest))) → is_white white ≡ true → ⊥) → bytes ≡ prefix ++ suffix → SpelledKind place k prefix → query ≡ lead_of k → ⊥
no_declaration place (declaration all) bytes prefix suffix none e h l = none h.1 h.2 suffix (e ∙ parts (codes "<?xml") (h.1 ∷ h.2) (codes "?>") prefix suffix (h.0 ∙ h.3)) h.4
no_declaration place k bytes prefix suffix none e h l = absurd cc

declaration_stops : (place : ℕ) (bytes : List ℕ) → lead bytes ≡ query → ((white : ℕ) (body rest : List ℕ) → bytes ≡ codes "<?xml" ++ (white ∷ (body ++ (codes "?>" ++ rest))) → is_white white ≡ true → ⊥) → Stops place bytes
declaration_stops place bytes l none u prefix suffix e h = no_declaration place u.kind bytes prefix suffix none e h.kind (sym l ∙ ap lead e ∙ leads place u.kind prefix suffix h.kind)

-- no declaration begins where no word and white space do
pub declaration_unnamed : (place : ℕ) (bytes : List ℕ) → lead bytes ≡ query → (BeginsWithWord (codes "<?xml") bytes → ⊥) → Stops place bytes
declaration_unnamed place bytes l none = declaration_stops place bytes l (λ white body rest e w. none (white, body ++ (codes "?>" ++ rest), e, w))

-- nor where no closing text follows
pub declaration_unclosed : (place : ℕ) (bytes : List ℕ) → lead bytes ≡ query → Lacks (codes "?>") (drop 6 bytes) → Stops place bytes
declaration_unclosed place bytes l none = declaration_stops place bytes l (λ white body rest e w. none body rest (ap (drop 6) e ∙ sym (append_assoc body (codes "?>") rest)))

pub lead_declaration : (bytes : List ℕ) → starts_with nat_eq bytes (codes "<?") ≡ true → lead bytes ≡ query
lead_declaration bytes h = ap lead (begins_true (codes "<?") bytes h).1

declaration_finds : (place : ℕ) (bytes : List ℕ) (white : ℕ) (body rest : List ℕ) → bytes ≡ codes "<?xml" ++ (white ∷ (body ++ (codes "?>" ++ rest))) → is_white white ≡ true → Lacks (codes "?>") body → FindsOrStops place bytes
declaration_finds place bytes white body rest e w l =
    let prefix = codes "<?xml" ++ white ∷ body ++ codes "?>" in
    inl (record { start = place; end = place + length prefix; kind = declaration prefix }, (rest, (prefix, e ∙ sym (parts (codes "<?xml") (white ∷ body) (codes "?>") prefix rest refl), record { kind = (refl, white, body, refl, w, l); start = refl; end = refl }, tt)))

pub declaration_or_none : (place : ℕ) (bytes : List ℕ) → lead bytes ≡ query → FindsOrStops place bytes
declaration_or_none place bytes l = elim (begins_with_word_or_not (codes "<?xml") bytes) [
  | yes here ↦ elim (find_piece (codes "?>") here.1 (λ e. absurd cc)) [
    | inl found ↦ declaration_finds place bytes here.0 found.0 found.1 (here.2 ∙ ap (λ (x : List ℕ). codes "<?xml" ++ here.0 ∷ x) found.2) here.3 found.3
    | inr lacks ↦ inr (declaration_unclosed place bytes l (subst (Lacks (codes "?>")) (sym (ap (drop 6) here.2)) lacks))
  ]
  | no not_here ↦ inr (declaration_unnamed place bytes l not_here)
]

pub one_declaration : (place : ℕ) (s t suffix after : List ℕ) → s ++ suffix ≡ t ++ after → SpelledKind place (declaration s) s → SpelledKind place (declaration t) t → s ≡ t
one_declaration place s t suffix after e h k =
    let whole = sym (parts (codes "<?xml") (h.1 ∷ h.2) (codes "?>") s suffix h.3) ∙ e ∙ parts (codes "<?xml") (k.1 ∷ k.2) (codes "?>") t after k.3 in
    let first : h.1 ≡ k.1 = cc in
    let same = one_body (codes "?>") declaration_apart h.2 k.2 suffix after (ap (drop 6) whole) h.5 k.5 in
    h.3 ∙ (λ i. codes "<?xml" ++ first i ∷ same i ++ codes "?>") ∙ sym k.3

-- ---- doctypes

-- what follows the longest body of a doctype
abbrev pub past_body : List ℕ → List ℕ
past_body bytes = drop (prefix_len is_doctype_byte bytes) bytes

past_body_again : (body rest : List ℕ) → list_all is_doctype_byte body ≡ true → run_at is_doctype_byte (body ++ (codes ">" ++ rest)) ≡ (body, codes ">" ++ rest)
past_body_again body rest h = run_again is_doctype_byte body (codes ">" ++ rest) h refl

no_doctype : (place : ℕ) (k : Kind) (bytes prefix suffix : List ℕ) → ((white : ℕ) (body rest : List ℕ) → bytes ≡ codes "<!DOCTYPE" ++ (white ∷ (body ++ (codes ">" ++ rest))) → is_white white ≡ true → list_all is_doctype_byte body ≡ true → ⊥) → bytes ≡ prefix ++ suffix → SpelledKind place k prefix → doctypes ≡ lead_of k → ⊥
no_doctype place (doctype all) bytes prefix suffix none e h l = none h.1 h.2 suffix (e ∙ parts (codes "<!DOCTYPE") (h.1 ∷ h.2) (codes ">") prefix suffix (h.0 ∙ h.3)) h.4 h.5
no_doctype place k bytes prefix suffix none e h l = absurd cc

doctype_stops : (place : ℕ) (bytes : List ℕ) → lead bytes ≡ doctypes → ((white : ℕ) (body rest : List ℕ) → bytes ≡ codes "<!DOCTYPE" ++ (white ∷ (body ++ (codes ">" ++ rest))) → is_white white ≡ true → list_all is_doctype_byte body ≡ true → ⊥) → Stops place bytes
doctype_stops place bytes l none u prefix suffix e h = no_doctype place u.kind bytes prefix suffix none e h.kind (sym l ∙ ap lead e ∙ leads place u.kind prefix suffix h.kind)

-- no doctype begins where no word and white space do
pub doctype_unnamed : (place : ℕ) (bytes : List ℕ) → lead bytes ≡ doctypes → (BeginsWithWord (codes "<!DOCTYPE") bytes → ⊥) → Stops place bytes
doctype_unnamed place bytes l none = doctype_stops place bytes l (λ white body rest e w all. none (white, body ++ (codes ">" ++ rest), e, w))

-- nor where another byte than `>` ends the body
pub doctype_unclosed : (place : ℕ) (bytes end : List ℕ) → lead bytes ≡ doctypes → end ≡ past_body (drop 10 bytes) → ((rest : List ℕ) → end ≢ codes ">" ++ rest) → Stops place bytes
doctype_unclosed place bytes end l is none = doctype_stops place bytes l (λ white body rest e w all.
    none rest (is ∙ ap (λ (x : List ℕ). past_body (drop 10 x)) e ∙ ap (λ (p : List ℕ × List ℕ). p.1) (past_body_again body rest all)))

pub lead_doctype : (bytes : List ℕ) → starts_with nat_eq bytes (codes "<!") ≡ true → starts_with nat_eq bytes (codes "<!--") ≡ false → lead bytes ≡ doctypes
lead_doctype bytes h other =
    let at = begins_true (codes "<!") bytes h in
    let dashes : starts_with nat_eq at.0 (codes "--") ≡ false = ap (λ (x : List ℕ). starts_with nat_eq x (codes "<!--")) (sym at.1) ∙ other in
    ap lead at.1 ∙ cond-false (starts_with nat_eq at.0 (codes "--")) comments doctypes dashes

-- the end of a body, by its length
pub past_body_by_length : (bytes inner end : List ℕ) (len : ℕ) → inner ≡ drop 10 bytes → len ≡ prefix_len is_doctype_byte inner → end ≡ drop len inner → end ≡ past_body (drop 10 bytes)
past_body_by_length bytes inner end len is measured split = split ∙ ap (λ (n : ℕ). drop n inner) measured ∙ ap past_body is

-- a doctype is read up to the end of its body
pub doctype_finds : (place : ℕ) (bytes end rest all : List ℕ) → BeginsWithWord (codes "<!DOCTYPE") bytes → end ≡ past_body (drop 10 bytes) → end ≡ codes ">" ++ rest → all ≡ take (length bytes - length rest) bytes
    → FindsUnit place bytes (record { start = place; end = place + length all; kind = doctype all }) rest
doctype_finds place bytes end rest all here is closed whole =
    let body = take (prefix_len is_doctype_byte here.1) here.1 in
    let prefix = codes "<!DOCTYPE" ++ here.0 ∷ body ++ codes ">" in
    let past : past_body here.1 ≡ codes ">" ++ rest = sym (is ∙ ap (λ (x : List ℕ). past_body (drop 10 x)) here.2) ∙ closed in
    let inner : here.1 ≡ body ++ (codes ">" ++ rest) = sym (take-append-drop (prefix_len is_doctype_byte here.1) here.1) ∙ ap (λ (x : List ℕ). body ++ x) past in
    let split : bytes ≡ prefix ++ rest = here.2 ∙ ap (λ (x : List ℕ). codes "<!DOCTYPE" ++ here.0 ∷ x) inner ∙ sym (parts (codes "<!DOCTYPE") (here.0 ∷ body) (codes ">") prefix rest refl) in
    let len : length prefix ≡ length bytes - length rest = omega (arith, ap length split, length-append prefix rest) in
    let same : prefix ≡ all = sym (whole ∙ ap (take (length bytes - length rest)) split ∙ take_at prefix rest (length bytes - length rest) len) in
    subst (λ (x : List ℕ). FindsUnit place bytes (record { start = place; end = place + length x; kind = doctype x }) rest) same (
      prefix,
      split,
      record { kind = (refl, here.0, body, refl, here.3, prefix_passes is_doctype_byte here.1); start = refl; end = refl },
      tt,
    )

pub doctype_or_none : (place : ℕ) (bytes : List ℕ) → lead bytes ≡ doctypes → FindsOrStops place bytes
doctype_or_none place bytes l = elim (begins_with_word_or_not (codes "<!DOCTYPE") bytes) [
  | yes here ↦ elim (begins_or_not (codes ">") (past_body (drop 10 bytes))) [
    | yes closed ↦
        let all = take (length bytes - length closed.0) bytes in
        inl (record { start = place; end = place + length all; kind = doctype all }, (closed.0, doctype_finds place bytes (past_body (drop 10 bytes)) closed.0 all here refl closed.1 refl))
    | no not_closed ↦ inr (doctype_unclosed place bytes (past_body (drop 10 bytes)) l refl (λ rest e. not_closed (rest, e)))
  ]
  | no not_here ↦ inr (doctype_unnamed place bytes l not_here)
]

pub one_doctype : (place : ℕ) (s t suffix after : List ℕ) → s ++ suffix ≡ t ++ after → SpelledKind place (doctype s) s → SpelledKind place (doctype t) t → s ≡ t
one_doctype place s t suffix after e h k =
    let whole = sym (parts (codes "<!DOCTYPE") (h.1 ∷ h.2) (codes ">") s suffix h.3) ∙ e ∙ parts (codes "<!DOCTYPE") (k.1 ∷ k.2) (codes ">") t after k.3 in
    let first : h.1 ≡ k.1 = cc in
    let same = sym (past_body_again h.2 suffix h.5) ∙ ap (run_at is_doctype_byte) (ap (drop 10) whole) ∙ past_body_again k.2 after k.5 in
    h.3 ∙ (λ i. codes "<!DOCTYPE" ++ first i ∷ (same i).0 ++ codes ">") ∙ sym k.3
