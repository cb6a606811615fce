-- Where a piece is first within bytes.
use Rattle.std.proofs.Common.{◌≡◌, ◌≢◌, ◌⊎◌, ℕ, ◌+◌, ◌-◌, ◌<◌, ◌≤◌, Bool, true, List, get_or, [], ◌∷◌, ◌++◌, length, take, drop, refl, sym, ap, subst, ◌∙◌, append_assoc, arith, Some, None, inl, inr, length-append, length-take, length-drop}
use Rattle.std.specs.Prelude.{nat_eq, codes, slice_index}
use Rattle.std.specs.Bool.{Decides}
use Rattle.std.specs.List.{ends_with, starts_with}
use Rattle.std.proofs.lemmas.Bool.{cases_lt}
use Rattle.std.proofs.lemmas.Bool.Decides.{Decides-eqb}
use Rattle.std.proofs.lemmas.List.{append_cancel_left, get_or-drop, get_or-take, take-append-drop, take_at, drop_at}
use Rattle.std.proofs.lemmas.List.Prefix.{at_from_reads, at_reads, end_from_reads}
use Rattle.std.proofs.lemmas.Slice.Eq.{ends_is, starts_is}
use Rattle.named.proofs.Deciding.{by_test}
use Rattle.memchr.specs.Find.{OccursAt, FindsNeedle, Nowhere, Passes, is_byte}
use Rattle.tml_span.specs.Bytes.{is_white}
use Rattle.tml_span.specs.Units.{Lacks, BeginsWith}

-- ---- at the prefix

-- the test tells whether the bytes begin with the piece
pub begins_true : (piece bytes : List ℕ) → starts_with nat_eq bytes piece ≡ true → BeginsWith piece bytes
begins_true piece bytes e = (drop (length piece) bytes, (starts_is Decides-eqb bytes piece (starts_with nat_eq bytes piece) refl).0 e)

pub begins_or_not : (piece bytes : List ℕ) → Dec (BeginsWith piece bytes)
begins_or_not piece bytes = by_test (starts_with nat_eq bytes piece) (begins_true piece bytes, λ h. (starts_is Decides-eqb bytes piece (starts_with nat_eq bytes piece) refl).1 h.0 h.1)

-- the bytes begin with a word and one white space
abbrev pub BeginsWithWord : List ℕ → List ℕ → Type 0
BeginsWithWord word bytes = (white : ℕ) × (suffix : List ℕ) × (bytes ≡ word ++ white ∷ suffix) × (is_white white ≡ true)

-- the byte that follows the word decides it
pub word_decides : (word bytes rest : List ℕ) (r : Bool) → bytes ≡ word ++ rest → 1 ≤ length rest → r ≡ is_white (get_or rest 0 0) → Decides r (BeginsWithWord word bytes)
word_decides word bytes [] r e some h = absurd (omega arith)
word_decides word bytes (w ∷ rest) r e some h = (
  λ yes_is. (w, rest, e, sym h ∙ yes_is),
  λ k.
      let same = append_cancel_left word (w ∷ rest) (k.0 ∷ k.1) (sym e ∙ k.2) in
      let first : w ≡ k.0 = cc same in
      h ∙ ap is_white first ∙ k.3,
)

word_or_not : (word bytes rest : List ℕ) → bytes ≡ word ++ rest → Dec (BeginsWithWord word bytes)
word_or_not word bytes [] e = no (λ h. let same = append_cancel_left word [] (h.0 ∷ h.1) (sym e ∙ h.2) in cc same)
word_or_not word bytes (w ∷ rest) e = by_test (is_white w) (word_decides word bytes (w ∷ rest) (is_white w) e (omega arith) refl)

pub begins_with_word_or_not : (word bytes : List ℕ) → Dec (BeginsWithWord word bytes)
begins_with_word_or_not word bytes = elim (begins_or_not word bytes) [
  | yes here ↦ word_or_not word bytes here.0 here.1
  | no not_here ↦ no (λ h. not_here (h.0 ∷ h.1, h.2))
]

-- ---- the first place

lacks_empty : (piece : List ℕ) → piece ≢ [] → Lacks piece []
lacks_empty [] some prefix suffix e = some refl
lacks_empty (p ∷ piece) some [] suffix e = absurd cc
lacks_empty (p ∷ piece) some (c ∷ prefix) suffix e = absurd cc

lacks_more : (piece : List ℕ) (b : ℕ) (bytes : List ℕ) → (BeginsWith piece (b ∷ bytes) → ⊥) → Lacks piece bytes → Lacks piece (b ∷ bytes)
lacks_more piece b bytes not_here l [] suffix e = not_here (suffix, e)
lacks_more piece b bytes not_here l (c ∷ prefix) suffix e = l prefix suffix (cc e)

lacks_tail : (piece : List ℕ) (b : ℕ) (bytes : List ℕ) → Lacks piece (b ∷ bytes) → Lacks piece bytes
lacks_tail piece b bytes l prefix suffix e = l (b ∷ prefix) suffix (ap (λ (x : List ℕ). b ∷ x) e)

-- the bytes are a body that lacks the piece, the piece and a rest
abbrev pub SplitsAt : List ℕ → List ℕ → Type 0
SplitsAt piece bytes = (body : List ℕ) × (rest : List ℕ) × (bytes ≡ body ++ (piece ++ rest)) × Lacks piece body

split_more : (piece : List ℕ) (b : ℕ) (bytes : List ℕ) → (BeginsWith piece (b ∷ bytes) → ⊥) → SplitsAt piece bytes → SplitsAt piece (b ∷ bytes)
split_more piece b bytes not_here s = (
  b ∷ s.0,
  s.1,
  ap (λ (x : List ℕ). b ∷ x) s.2,
  lacks_more piece b s.0 (λ h. not_here (h.0 ++ (piece ++ s.1), ap (λ (x : List ℕ). b ∷ x) s.2 ∙ ap (λ (x : List ℕ). x ++ (piece ++ s.1)) h.1 ∙ append_assoc piece h.0 (piece ++ s.1))) s.3,
)

-- a piece is in the bytes for a first time, or in no part of them
pub find_piece : (piece bytes : List ℕ) → piece ≢ [] → SplitsAt piece bytes ⊎ Lacks piece bytes
find_piece piece [] some = inr (lacks_empty piece some)
find_piece piece (b ∷ bytes) some = elim (begins_or_not piece (b ∷ bytes)) [
  | yes here ↦ inl ([], here.0, here.1, lacks_empty piece some)
  | no not_here ↦ elim (find_piece piece bytes some) [
    | inl split ↦ inl (split_more piece b bytes not_here split)
    | inr lacks ↦ inr (lacks_more piece b bytes not_here lacks)
  ]
]

-- ---- one body

-- the piece can't begin in bytes before it and end in it
abbrev pub IsApart : List ℕ → Type 0
IsApart piece = (b : ℕ) (bytes rest after : List ℕ) → piece ++ rest ≡ b ∷ bytes ++ (piece ++ after) → BeginsWith piece (b ∷ bytes)

two_apart : (a z : ℕ) → (z ≡ a → ⊥) → IsApart (a ∷ z ∷ [])
two_apart a z differ b [] rest after e = absurd (differ (cc e))
two_apart a z differ b (c ∷ bytes) rest after e = (bytes, cc e)

three_apart : (a z : ℕ) → (z ≡ a → ⊥) → IsApart (a ∷ a ∷ z ∷ [])
three_apart a z differ b [] rest after e = absurd (differ (cc e))
three_apart a z differ b (c ∷ []) rest after e = absurd (differ (cc e))
three_apart a z differ b (c ∷ d ∷ bytes) rest after e = (bytes, cc e)

pub comment_apart : IsApart (codes "-->")
comment_apart = three_apart 45 62 (λ e. omega arith)

pub declaration_apart : IsApart (codes "?>")
declaration_apart = two_apart 63 62 (λ e. omega arith)

-- two bodies that lack the piece and are followed by it, in one list, are one
pub one_body : (piece : List ℕ) → IsApart piece → (body other rest after : List ℕ) → body ++ (piece ++ rest) ≡ other ++ (piece ++ after) → Lacks piece body → Lacks piece other → body ≡ other
one_body piece apart [] [] rest after e l k = refl
one_body piece apart [] (c ∷ other) rest after e l k = let at = apart c other rest after e in absurd (k [] at.0 at.1)
one_body piece apart (b ∷ body) [] rest after e l k = let at = apart b body after rest (sym e) in absurd (l [] at.0 at.1)
one_body piece apart (b ∷ body) (c ∷ other) rest after e l k =
    let first : b ≡ c = cc e in
    let same = one_body piece apart body other rest after (cc e) (lacks_tail piece b body l) (lacks_tail piece c other k) in
    λ i. first i ∷ same i

-- ---- what a search says

pub occurs_splits : (bytes piece : List ℕ) (k : ℕ) → OccursAt bytes piece k → bytes ≡ take k bytes ++ (piece ++ drop (k + length piece) bytes)
occurs_splits bytes piece k h = sym (take-append-drop k bytes) ∙ ap (λ (x : List ℕ). take k bytes ++ x) (at_from_reads 0 bytes piece k h.fits h.reads)

pub splits_occurs : (bytes piece prefix suffix : List ℕ) → bytes ≡ prefix ++ piece ++ suffix → OccursAt bytes piece (length prefix)
splits_occurs bytes piece prefix suffix e =
    let whole : bytes ≡ prefix ++ (piece ++ suffix) = e ∙ append_assoc prefix piece suffix in record {
      fits = omega (arith, ap length whole, length-append prefix (piece ++ suffix), length-append piece suffix);
      reads = at_reads 0 bytes piece (length prefix) suffix (ap (drop (length prefix)) whole ∙ drop_at prefix (piece ++ suffix) (length prefix) refl);
    }

-- a search that finds nothing
pub none_lacks : (bytes piece : List ℕ) → FindsNeedle bytes piece 0 None → Lacks piece bytes
none_lacks bytes piece h prefix suffix e =
    let occurs = splits_occurs bytes piece prefix suffix e in
    h (length prefix) (omega arith) (omega (arith, occurs.fits)) occurs

-- before the place that a search finds
pub before_lacks : (bytes piece : List ℕ) (k : ℕ) → 0 < length piece → FindsNeedle bytes piece 0 (Some k) → Lacks piece (take k bytes)
before_lacks bytes piece k some h prefix suffix e =
    let whole : bytes ≡ prefix ++ piece ++ (suffix ++ drop k bytes) = sym (take-append-drop k bytes) ∙ ap (λ (x : List ℕ). x ++ drop k bytes) e ∙ append_assoc (prefix ++ piece) suffix (drop k bytes) in
    let below : length prefix < k = omega (arith, ap length e, length-append (prefix ++ piece) suffix, length-append prefix piece, length-take k bytes) in
    h.0.before (length prefix) (omega arith) below (splits_occurs bytes piece prefix (suffix ++ drop k bytes) whole)

-- the bytes up to past a piece that occurs after a number of them
pub past_piece : (bytes piece : List ℕ) (n k : ℕ) → n ≤ length bytes → OccursAt (drop n bytes) piece k → take (n + k + length piece) bytes ≡ take n bytes ++ take k (drop n bytes) ++ piece
past_piece bytes piece n k within h =
    let inner = drop n bytes in
    let prefix = take n bytes ++ take k inner ++ piece in
    let rest = drop (k + length piece) inner in
    let whole : bytes ≡ prefix ++ rest = sym (take-append-drop n bytes) ∙ ap (λ (x : List ℕ). take n bytes ++ x) (occurs_splits inner piece k h) ∙ sym (simp append_assoc) in
    let long : length prefix ≡ n + k + length piece = omega (arith, h.fits, length-drop n bytes, length-append (take n bytes ++ take k inner) piece, length-append (take n bytes) (take k inner), length-take n bytes, length-take k inner) in
    ap (take (n + k + length piece)) whole ∙ take_at prefix rest (n + k + length piece) long

-- ---- a search by the last byte

-- where a piece occurs, the bytes up to its end end in it
pub occurs_ends : (bytes piece : List ℕ) (k end : ℕ) → OccursAt bytes piece k → k + length piece ≡ end → ends_with nat_eq (take end bytes) piece ≡ true
occurs_ends bytes piece k end h e =
    let ahead = take end bytes in
    let len : length ahead ≡ end = omega (arith, length-take end bytes, h.fits, e) in
    let here : length ahead - length piece ≡ k = omega (arith, len, e) in
    let whole = end_from_reads 0 ahead piece (omega (arith, len, e))
    (λ i lt. get_or-take end bytes (length ahead - length piece + i) 0 (omega (arith, here, e)) ∙ ap (λ (n : ℕ). get_or bytes (n + i) 0) here ∙ h.reads i lt) in
    (ends_is Decides-eqb ahead piece (ends_with nat_eq ahead piece) refl).1 (take (length ahead - length piece) ahead) whole

-- and where they end in it, it occurs
pub ends_occurs : (bytes piece : List ℕ) (end : ℕ) → end ≤ length bytes → length piece ≤ end → ends_with nat_eq (take end bytes) piece ≡ true → OccursAt bytes piece (end - length piece)
ends_occurs bytes piece end within fits e =
    let ahead = take end bytes in
    let len : length ahead ≡ end = omega (arith, length-take end bytes) in
    let prefix = take (length ahead - length piece) ahead in
    let whole : bytes ≡ prefix ++ piece ++ drop end bytes = sym (take-append-drop end bytes) ∙ ap (λ (x : List ℕ). x ++ drop end bytes) ((ends_is Decides-eqb ahead piece (ends_with nat_eq ahead piece) refl).0 e) in
    subst (OccursAt bytes piece) (omega (arith, len, length-take (length ahead - length piece) ahead)) (splits_occurs bytes piece prefix (drop end bytes) whole)

-- where no byte is the last of the piece, no piece ends
pub none_ends : (bytes piece : List ℕ) (end ahead last : ℕ) → 0 < length piece → slice_index piece (length piece - 1) ≡ last → ((k : ℕ) → k + length piece ≤ end → OccursAt bytes piece k → ⊥) → Nowhere (Passes (is_byte last) (drop end bytes)) 0 ahead
    → (k : ℕ) → k + length piece ≤ end + ahead → OccursAt bytes piece k → ⊥
none_ends bytes piece end ahead last some is none nowhere k fits o = elim (cases_lt end (k + length piece)) [
  | inl past ↦
      let at = k + length piece - 1 - end in
      let index : end + at ≡ k + (length piece - 1) = omega arith in
      nowhere at (omega arith) (omega arith) (ap (is_byte last) (get_or-drop end bytes at 0 ∙ ap (λ (n : ℕ). get_or bytes n 0) index ∙ o.reads (length piece - 1) (omega arith) ∙ is) ∙ own last)
  | inr within ↦ none k within o
]
  where
    own : (b : ℕ) → is_byte b b ≡ true
    own b = (Decides-eqb b b).1 refl
