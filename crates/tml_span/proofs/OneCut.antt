-- One source has one cut.
use Rattle.std.proofs.Common.{◌≡◌, ◌≢◌, ℕ, ◌+◌, true, List, [], ◌∷◌, ◌++◌, length, take, refl, sym, ap, subst, ◌∙◌, arith, length-append}
use Rattle.std.proofs.lemmas.List.{take_at, append_cancel_left}
use Rattle.tml_span.specs.Bytes.{is_text_byte}
use Rattle.tml_span.specs.Units.{Kind, bom, declaration, doctype, comment, text, start_tag, end_tag, empty_tag, PlainUnit, bom_bytes, BeginsWith, SpelledKind, Spelled}
use Rattle.tml_span.specs.Cutting.{Ends, CutsFrom}
use Rattle.tml_span.proofs.Leads.{plain, ending, comments, doctypes, query, lead, lead_of, leads}
use Rattle.tml_span.proofs.TagCuts.{one_text, one_end_tag, one_tag}
use Rattle.tml_span.proofs.ClosedUnits.{one_comment, one_declaration, one_doctype}

-- two prefixes of one list with the same rest are one
prefixes : (xs ys suffix after : List ℕ) → xs ++ suffix ≡ ys ++ after → suffix ≡ after → xs ≡ ys
prefixes xs ys suffix after e b =
    let len : length xs ≡ length ys = omega (arith, ap length e, ap length b, length-append xs suffix, length-append ys after) in
    sym (take_at xs suffix (length xs) refl) ∙ ap (take (length xs)) e ∙ take_at ys after (length xs) (sym len)

-- one list has one rest after the same prefix
suffixes : (xs ys suffix after : List ℕ) → xs ++ suffix ≡ ys ++ after → xs ≡ ys → suffix ≡ after
suffixes xs ys suffix after e f = append_cancel_left ys suffix after (ap (λ (x : List ℕ). x ++ suffix) (sym f) ∙ e)

-- where the spellings are one, the units and what follows them are
same_kind : (kind : List ℕ → Kind) (t s prefix suffix ahead after : List ℕ) → prefix ++ suffix ≡ ahead ++ after → prefix ≡ t → ahead ≡ s → (t ++ suffix ≡ s ++ after → t ≡ s) → (kind t ≡ kind s) × (suffix ≡ after)
same_kind kind t s prefix suffix ahead after e f a one =
    let same = one (ap (λ (x : List ℕ). x ++ suffix) (sym f) ∙ e ∙ ap (λ (x : List ℕ). x ++ after) a) in
    (ap kind same, suffixes prefix ahead suffix after e (f ∙ same ∙ sym a))

-- ---- the Bom and texts

-- a text is not ended by a byte of a text
no_end : (t after bytes : List ℕ) (b : ℕ) → is_text_byte b ≡ true → after ≡ b ∷ bytes → Ends (text t) after → ⊥
no_end t [] bytes b passes e ends = cc e
no_end t (c ∷ after) bytes b passes e ends =
    let same : c ≡ b = cc e in
    cc (sym passes ∙ ap is_text_byte (sym same) ∙ ends)

-- a text where the Bom's bytes are begins with them
text_begins : (t suffix after : List ℕ) → bom_bytes ++ suffix ≡ t ++ after → t ≢ [] → Ends (text t) after → BeginsWith bom_bytes t
text_begins [] suffix after e some ends = absurd (some refl)
text_begins (a ∷ []) suffix after e some ends = absurd (no_end (a ∷ []) after (191 ∷ suffix) 187 refl (cc e) ends)
text_begins (a ∷ b ∷ []) suffix after e some ends = absurd (no_end (a ∷ b ∷ []) after suffix 191 refl (cc e) ends)
text_begins (a ∷ b ∷ c ∷ t) suffix after e some ends = (t, cc e)

-- no text is where the Bom is
no_text : (place : ℕ) (t prefix suffix ahead after : List ℕ) → prefix ++ suffix ≡ ahead ++ after → SpelledKind place bom prefix → SpelledKind place (text t) ahead → Ends (text t) after → ⊥
no_text place t prefix suffix ahead after e h g n =
    g.3 h.0 (text_begins t suffix after (ap (λ (x : List ℕ). x ++ suffix) (sym h.1) ∙ e ∙ ap (λ (x : List ℕ). x ++ after) g.0) g.1 n)

with_bom : (place : ℕ) (j : Kind) (prefix suffix ahead after : List ℕ) → plain ≡ lead_of j → prefix ++ suffix ≡ ahead ++ after → SpelledKind place bom prefix → SpelledKind place j ahead → Ends j after → (bom ≡ j) × (suffix ≡ after)
with_bom place bom prefix suffix ahead after l e h g n = (refl, suffixes prefix ahead suffix after e (h.1 ∙ sym g.1))
with_bom place (text t) prefix suffix ahead after l e h g n = absurd (no_text place t prefix suffix ahead after e h g n)
with_bom place j prefix suffix ahead after l e h g n = absurd cc

with_text : (place : ℕ) (t : List ℕ) (j : Kind) (prefix suffix ahead after : List ℕ) → plain ≡ lead_of j → prefix ++ suffix ≡ ahead ++ after → SpelledKind place (text t) prefix → Ends (text t) suffix → SpelledKind place j ahead → Ends j after → (text t ≡ j) × (suffix ≡ after)
with_text place t bom prefix suffix ahead after l e h m g n = absurd (no_text place t ahead after prefix suffix (sym e) g h m)
with_text place t (text s) prefix suffix ahead after l e h m g n =
    same_kind (λ (x : List ℕ). text x) t s prefix suffix ahead after e h.0 g.0 (λ e. (one_text place t s suffix after e (subst (SpelledKind place (text t)) h.0 h) m (subst (SpelledKind place (text s)) g.0 g) n).0)
with_text place t j prefix suffix ahead after l e h m g n = absurd cc

-- ---- what runs up to a closing text

with_declaration : (place : ℕ) (t : List ℕ) (j : Kind) (prefix suffix ahead after : List ℕ) → query ≡ lead_of j → prefix ++ suffix ≡ ahead ++ after → SpelledKind place (declaration t) prefix → SpelledKind place j ahead → (declaration t ≡ j) × (suffix ≡ after)
with_declaration place t (declaration s) prefix suffix ahead after l e h g =
    same_kind (λ (x : List ℕ). declaration x) t s prefix suffix ahead after e h.0 g.0 (λ e. one_declaration place t s suffix after e (subst (SpelledKind place (declaration t)) h.0 h) (subst (SpelledKind place (declaration s)) g.0 g))
with_declaration place t j prefix suffix ahead after l e h g = absurd cc

with_doctype : (place : ℕ) (t : List ℕ) (j : Kind) (prefix suffix ahead after : List ℕ) → doctypes ≡ lead_of j → prefix ++ suffix ≡ ahead ++ after → SpelledKind place (doctype t) prefix → SpelledKind place j ahead → (doctype t ≡ j) × (suffix ≡ after)
with_doctype place t (doctype s) prefix suffix ahead after l e h g =
    same_kind (λ (x : List ℕ). doctype x) t s prefix suffix ahead after e h.0 g.0 (λ e. one_doctype place t s suffix after e (subst (SpelledKind place (doctype t)) h.0 h) (subst (SpelledKind place (doctype s)) g.0 g))
with_doctype place t j prefix suffix ahead after l e h g = absurd cc

with_comment : (place : ℕ) (t : List ℕ) (j : Kind) (prefix suffix ahead after : List ℕ) → comments ≡ lead_of j → prefix ++ suffix ≡ ahead ++ after → SpelledKind place (comment t) prefix → SpelledKind place j ahead → (comment t ≡ j) × (suffix ≡ after)
with_comment place t (comment s) prefix suffix ahead after l e h g =
    same_kind (λ (x : List ℕ). comment x) t s prefix suffix ahead after e h.0 g.0 (λ e. one_comment place t s suffix after e (subst (SpelledKind place (comment t)) h.0 h) (subst (SpelledKind place (comment s)) g.0 g))
with_comment place t j prefix suffix ahead after l e h g = absurd cc

-- ---- all kinds

with_end_tag : (place : ℕ) (name : List ℕ) (j : Kind) (prefix suffix ahead after : List ℕ) → ending ≡ lead_of j → prefix ++ suffix ≡ ahead ++ after → SpelledKind place (end_tag name) prefix → SpelledKind place j ahead → (end_tag name ≡ j) × (suffix ≡ after)
with_end_tag place name (end_tag other) prefix suffix ahead after l e h g = one_end_tag place name other prefix suffix ahead after e h g
with_end_tag place name j prefix suffix ahead after l e h g = absurd cc

same_lead : (place : ℕ) (k j : Kind) (prefix suffix ahead after : List ℕ) → lead_of k ≡ lead_of j → prefix ++ suffix ≡ ahead ++ after → SpelledKind place k prefix → Ends k suffix → SpelledKind place j ahead → Ends j after → (k ≡ j) × (suffix ≡ after)
same_lead place bom j prefix suffix ahead after l e h m g n = with_bom place j prefix suffix ahead after l e h g n
same_lead place (declaration t) j prefix suffix ahead after l e h m g n = with_declaration place t j prefix suffix ahead after l e h g
same_lead place (doctype t) j prefix suffix ahead after l e h m g n = with_doctype place t j prefix suffix ahead after l e h g
same_lead place (comment t) j prefix suffix ahead after l e h m g n = with_comment place t j prefix suffix ahead after l e h g
same_lead place (text t) j prefix suffix ahead after l e h m g n = with_text place t j prefix suffix ahead after l e h m g n
same_lead place (start_tag name attrs) j prefix suffix ahead after l e h m g n = one_tag place (start_tag name attrs) j prefix suffix ahead after e refl (sym l) h g
same_lead place (end_tag name) j prefix suffix ahead after l e h m g n = with_end_tag place name j prefix suffix ahead after l e h g
same_lead place (empty_tag name attrs) j prefix suffix ahead after l e h m g n = one_tag place (empty_tag name attrs) j prefix suffix ahead after e refl (sym l) h g

-- two units at one place of one source have the same lead
one_kind : (place : ℕ) (k j : Kind) (prefix suffix ahead after : List ℕ) → prefix ++ suffix ≡ ahead ++ after → SpelledKind place k prefix → Ends k suffix → SpelledKind place j ahead → Ends j after → (k ≡ j) × (suffix ≡ after)
one_kind place k j prefix suffix ahead after e h m g n = same_lead place k j prefix suffix ahead after (sym (leads place k prefix suffix h) ∙ ap lead e ∙ leads place j ahead after g) e h m g n

pub one_unit : (place : ℕ) (u v : PlainUnit) (prefix suffix ahead after : List ℕ) → prefix ++ suffix ≡ ahead ++ after → Spelled place u prefix → Ends u.kind suffix → Spelled place v ahead → Ends v.kind after → (u ≡ v) × (prefix ≡ ahead) × (suffix ≡ after)
one_unit place u v prefix suffix ahead after e h m g n =
    let one = one_kind place u.kind v.kind prefix suffix ahead after e h.kind m g.kind n in
    let same = prefixes prefix ahead suffix after e one.1 in
    let end : u.end ≡ v.end = h.end ∙ ap (λ (x : List ℕ). place + length x) same ∙ sym g.end in
    ((λ i. record { start = (h.start ∙ sym g.start) i; end = end i; kind = one.0 i }), same, one.1)

pub one_cut_from : (place : ℕ) (source : List ℕ) (units others : List PlainUnit) (rest after : List ℕ) → CutsFrom place source units rest → CutsFrom place source others after → (units ≡ others) × (rest ≡ after)
one_cut_from place source [] [] rest after h k = (refl, sym h.0 ∙ k.0)
one_cut_from place source [] (v ∷ others) rest after h k = absurd (h.1 v k.0 k.1 (sym h.0 ∙ k.2) k.3)
one_cut_from place source (u ∷ units) [] rest after h k = absurd (k.1 u h.0 h.1 (sym k.0 ∙ h.2) h.3)
one_cut_from place source (u ∷ units) (v ∷ others) rest after h k =
    let one = one_unit place u v h.0 h.1 k.0 k.1 (sym h.2 ∙ k.2) h.3 h.4 k.3 k.4 in
    let moved = subst (λ (p : List ℕ × List ℕ). CutsFrom (place + length p.0) p.1 others after) (λ i. (sym one.1 i, sym one.2 i)) k.5 in
    let tail = one_cut_from (place + length h.0) h.1 units others rest after h.5 moved in
    (λ i. one.0 i ∷ tail.0 i, tail.1)
