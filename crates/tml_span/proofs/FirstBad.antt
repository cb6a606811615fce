-- Bad places in bytes, in pieces and in units, and the first of them.
use Rattle.std.proofs.Common.{◌≡◌, ◌⊎◌, inl, inr, ℕ, zero, suc, ◌+◌, ◌-◌, ◌<◌, ◌≤◌, true, Some, None, List, [], ◌∷◌, ◌++◌, length, take, drop, map, get_or, refl, sym, ap, subst, ◌∙◌, arith, length-append, length-take, length-drop}
use Rattle.std.specs.Prelude.{slice_index}
use Rattle.std.specs.List.{AllByRecursion}
use Rattle.std.proofs.lemmas.Bool.{eqb-true, eq-eqb, cases_lt}
use Rattle.std.proofs.lemmas.List.{length-map, take-append-drop, take_rest, drop_at, drop_more, take_more, get_or-drop}
use Rattle.memchr.specs.Find.{IsFirstByte, is_byte}
use Rattle.tml_span.specs.declared.unit.Attr.{Attr}
use Rattle.tml_span.specs.Units.{PlainUnit}
use Rattle.tml_span.specs.References.{BeginsReference, IsBadAt, Piece, value_piece, IsBadIn, IsBadInUnits, IsLeastPlace, IsNowhere, EndsWithinAttribute, FollowEachOther}
use Rattle.tml_span.specs.View.{attribute_of}

-- a bad index is one of the bytes
pub bad_at_within : (bytes : List ℕ) (index : ℕ) → IsBadAt bytes index → index < length bytes
bad_at_within bytes index h = omega (arith, h.index_is, ap length h.whole, length-append h.prefix (38 ∷ h.suffix))

-- an `&` is bad if no reference begins there
pub bad_here : (bytes : List ℕ) (index : ℕ) → index < length bytes → slice_index bytes index ≡ 38 → (BeginsReference (drop index bytes) → ⊥) → IsBadAt bytes index
bad_here bytes index within is none =
    let split : drop index bytes ≡ 38 ∷ drop (index + 1) bytes = drop_more bytes index 0 within ∙ ap (λ (b : ℕ). b ∷ drop (index + 1) bytes) is in record {
      prefix = take index bytes;
      suffix = drop (index + 1) bytes;
      whole = sym (take-append-drop index bytes) ∙ ap (λ (x : List ℕ). take index bytes ++ x) split;
      index_is = omega (arith, length-take index bytes, within);
      bad = λ b. none (subst BeginsReference (sym split) b);
    }

-- what follows a bad index begins with `&`
from_bad : (bytes : List ℕ) (index : ℕ) → (h : IsBadAt bytes index) → drop index bytes ≡ 38 ∷ h.suffix
from_bad bytes index h = ap (drop index) h.whole ∙ drop_at h.prefix (38 ∷ h.suffix) index (sym h.index_is)

-- a bad index is an `&`
pub bad_is : (bytes : List ℕ) (index : ℕ) → IsBadAt bytes index → slice_index bytes index ≡ 38
bad_is bytes index h =
    let sum : index ≡ index + 0 = omega arith in
    ap (slice_index bytes) sum ∙ sym (get_or-drop index bytes 0 0) ∙ ap (λ (x : List ℕ). slice_index x 0) (from_bad bytes index h)

-- at a bad index no reference begins
pub not_begun : (bytes : List ℕ) (index : ℕ) → IsBadAt bytes index → BeginsReference (drop index bytes) → ⊥
not_begun bytes index h b = h.bad (subst BeginsReference (from_bad bytes index h) b)

-- no index below this one is bad
abbrev pub NoneBelow : List ℕ → ℕ → Type 0
NoneBelow bytes index = (k : ℕ) → k < index → IsBadAt bytes k → ⊥

-- the bytes from an index on
abbrev pub from : List ℕ → ℕ → List ℕ
from bytes index = take (length bytes - index) (drop index bytes)

-- where there is no `&` from an index on, none is bad
further : (bytes : List ℕ) (i j : ℕ) → NoneBelow bytes i → ((k : ℕ) → k < j → is_byte 38 (slice_index (drop i bytes) k) ≡ true → ⊥) → NoneBelow bytes (i + j)
further bytes i j so_far none k below bad = elim (cases_lt k i) [
  | inl lt ↦ so_far k lt bad
  | inr ge ↦
      let sum : i + (k - i) ≡ k = omega arith in
      let is : slice_index (drop i bytes) (k - i) ≡ 38 = get_or-drop i bytes (k - i) 0 ∙ ap (slice_index bytes) sum ∙ bad_is bytes k bad in
      none (k - i) (omega arith) (eq-eqb _ _ is)
]

-- what is found from an index on is one of the bytes
pub found_within : (bytes : List ℕ) (i ahead : ℕ) → IsFirstByte (is_byte 38) (from bytes i) (Some ahead) → i + ahead + 1 ≤ length bytes
found_within bytes i ahead h = omega (arith, h.0.high, ap length (take_rest bytes i), length-drop i bytes)

-- a search for `&` from an index on passes over nothing that is bad
pub passes_over : (bytes : List ℕ) (i ahead : ℕ) → NoneBelow bytes i → IsFirstByte (is_byte 38) (from bytes i) (Some ahead) → NoneBelow bytes (i + ahead)
passes_over bytes i ahead so_far h =
    let found = subst (λ (r : List ℕ). IsFirstByte (is_byte 38) r (Some ahead)) (take_rest bytes i) h in
    further bytes i ahead so_far (λ k below. found.0.before k (omega arith) below)

-- a search that finds no `&` has passed over all
pub passes_all : (bytes : List ℕ) (i : ℕ) → NoneBelow bytes i → IsFirstByte (is_byte 38) (from bytes i) None → (place : ℕ) → IsBadAt bytes place → ⊥
passes_all bytes i so_far h place bad =
    let none = subst (λ (r : List ℕ). IsFirstByte (is_byte 38) r None) (take_rest bytes i) h in
    further bytes i (length (drop i bytes)) so_far (λ k below. none k (omega arith) below) place (omega (arith, bad_at_within bytes place bad, length-drop i bytes)) bad

-- an `&` that was found with no reference is the first bad one
pub first_found : (bytes : List ℕ) (i ahead : ℕ) → NoneBelow bytes i → IsFirstByte (is_byte 38) (from bytes i) (Some ahead) → (BeginsReference (from bytes (i + ahead)) → ⊥) → IsLeastPlace (IsBadAt bytes) (i + ahead)
first_found bytes i ahead so_far h none =
    let found = subst (λ (r : List ℕ). IsFirstByte (is_byte 38) r (Some ahead)) (take_rest bytes i) h in
    let is : slice_index bytes (i + ahead) ≡ 38 = sym (get_or-drop i bytes ahead 0) ∙ eqb-true _ _ found.1 in
    let below = passes_over bytes i ahead so_far h in
    let bad = bad_here bytes (i + ahead) (omega (arith, found.0.high, length-drop i bytes)) is (λ b. none (subst BeginsReference (sym (take_rest bytes (i + ahead))) b)) in
    (bad, λ other h'. elim (cases_lt other (i + ahead)) [ inl lt ↦ absurd (below other lt h') | inr ge ↦ ge ])

-- an `&` that was found with a reference is passed over
pub passes_reference : (bytes : List ℕ) (i ahead : ℕ) → NoneBelow bytes i → IsFirstByte (is_byte 38) (from bytes i) (Some ahead) → BeginsReference (from bytes (i + ahead)) → NoneBelow bytes (i + ahead + 1)
passes_reference bytes i ahead so_far h begun k below bad = elim (cases_lt k (i + ahead)) [
  | inl lt ↦ passes_over bytes i ahead so_far h k lt bad
  | inr ge ↦
      let here : k ≡ i + ahead = omega arith in
      not_begun bytes k bad (subst BeginsReference (take_rest bytes (i + ahead) ∙ ap (λ (n : ℕ). drop n bytes) (sym here)) begun)
]

-- what is bad in pieces that follow each other is bad in the first of them or in the others
pub bad_in-append : (xs ys : List Piece) (place : ℕ) → IsBadIn (xs ++ ys) place → IsBadIn xs place ⊎ IsBadIn ys place
bad_in-append [] ys place h = inr h
bad_in-append (x ∷ xs) ys place (inl here) = inl (inl here)
bad_in-append (x ∷ xs) ys place (inr later) = elim (bad_in-append xs ys place later) [ inl h ↦ inl (inr h) | inr h ↦ inr h ]

-- what is bad in the first pieces is bad in all
pub bad_in-append_left : (xs ys : List Piece) (place : ℕ) → IsBadIn xs place → IsBadIn (xs ++ ys) place
bad_in-append_left [] ys place h = absurd h
bad_in-append_left (x ∷ xs) ys place (inl here) = inl here
bad_in-append_left (x ∷ xs) ys place (inr later) = inr (bad_in-append_left xs ys place later)

-- what is bad in the last pieces is bad in all
pub bad_in-append_right : (xs ys : List Piece) (place : ℕ) → IsBadIn ys place → IsBadIn (xs ++ ys) place
bad_in-append_right [] ys place h = h
bad_in-append_right (x ∷ xs) ys place h = inr (bad_in-append_right xs ys place h)

-- pieces in order end no earlier than they begin
follows-le : (pieces : List Piece) (low high : ℕ) → FollowEachOther low pieces high → low ≤ high
follows-le [] low high h = h
follows-le (piece ∷ pieces) low high h = omega (arith, h.0, follows-le pieces (piece.0 + length piece.1) high h.1)

-- a bad place lies between where the pieces begin and where they end
pub bad_in_from : (pieces : List Piece) (low high place : ℕ) → FollowEachOther low pieces high → IsBadIn pieces place → (low ≤ place) × (place < high)
bad_in_from [] low high place h bad = absurd bad
bad_in_from (piece ∷ pieces) low high place h (inl here) =
    let within = bad_at_within piece.1 here.0 here.1 in
    let after = follows-le pieces (piece.0 + length piece.1) high h.1 in
    (omega (arith, h.0, here.2), omega (arith, here.2, within, after))
bad_in_from (piece ∷ pieces) low high place h (inr later) =
    let rest = bad_in_from pieces (piece.0 + length piece.1) high place h.1 later in
    (omega (arith, h.0, rest.0), rest.1)

-- pieces in order, from one of them on
follows_on : (xs ys : List Piece) (low high : ℕ) → FollowEachOther low (xs ++ ys) high → (mid : ℕ) × FollowEachOther mid ys high
follows_on [] ys low high h = (low, h)
follows_on (x ∷ xs) ys low high h = follows_on xs ys (x.0 + length x.1) high h.1

-- the first bad index of bytes at a place
pub first_at : (start index : ℕ) (bytes : List ℕ) → IsLeastPlace (IsBadAt bytes) index → IsLeastPlace (IsBadIn ((start, bytes) ∷ [])) (start + index)
first_at start index bytes first = (
  inl (index, first.0, refl),
  λ other bad. elim bad as (λ _. start + index ≤ other) [ inl here ↦ omega (arith, here.2, first.1 here.0 here.1) | inr nothing ↦ absurd nothing ],
)

-- where no index is bad, no place is
pub nowhere_at : (start : ℕ) (bytes : List ℕ) → IsNowhere (IsBadAt bytes) → IsNowhere (IsBadIn ((start, bytes) ∷ []))
nowhere_at start bytes none place (inl here) = none here.0 here.1
nowhere_at start bytes none place (inr nothing) = nothing

-- the first bad place of the first piece with a bad one is the first of all
pub first_in : (xs : List Piece) (piece : Piece) (ys : List Piece) (low high place : ℕ) → FollowEachOther low (xs ++ piece ∷ ys) high → IsNowhere (IsBadIn xs) → IsLeastPlace (IsBadIn (piece ∷ [])) place → IsLeastPlace (IsBadIn (xs ++ piece ∷ ys)) place
first_in xs piece ys low high place h none first =
    let on = follows_on xs (piece ∷ ys) low high h in
    let one = (bad_in_from (piece ∷ []) on.0 (piece.0 + length piece.1) place (on.1.0, omega arith) first.0).1 in
    let least = λ (other : ℕ) (bad : IsBadIn ((piece ∷ []) ++ ys) other). elim (bad_in-append (piece ∷ []) ys other bad) as (λ _. place ≤ other) [
      | inl here ↦ first.1 other here
      | inr beyond ↦ omega (arith, one, (bad_in_from ys (piece.0 + length piece.1) high other on.1.1 beyond).0)
    ] in (
      bad_in-append_right xs (piece ∷ ys) place (bad_in-append_left (piece ∷ []) ys place first.0),
      λ other bad. elim (bad_in-append xs (piece ∷ ys) other bad) [ inl before ↦ absurd (none other before) | inr bad' ↦ least other bad' ],
    )

-- the pieces are those below an index, the piece there, and those after it
split_at : (pieces : List Piece) (i : ℕ) (piece : Piece) → i < length pieces → get_or pieces i piece ≡ piece → pieces ≡ take i pieces ++ piece ∷ drop (i + 1) pieces
split_at pieces i piece below is =
    sym (take-append-drop i pieces) ∙ ap (λ (x : List Piece). take i pieces ++ x) (drop_more pieces i piece below ∙ ap (λ (x : Piece). x ∷ drop (i + 1) pieces) is)

-- the first bad place of the first piece with a bad one, which is at an index, is the first of all
pub first_in_piece : (pieces : List Piece) (i : ℕ) (piece : Piece) (low high place : ℕ) → i < length pieces → get_or pieces i piece ≡ piece → FollowEachOther low pieces high → IsNowhere (IsBadIn (take i pieces)) → IsLeastPlace (IsBadIn (piece ∷ [])) place → IsLeastPlace (IsBadIn pieces) place
first_in_piece pieces i piece low high place below is h none first =
    let split = split_at pieces i piece below is in
    subst (λ (x : List Piece). IsLeastPlace (IsBadIn x) place) (sym split)
    (first_in (take i pieces) piece (drop (i + 1) pieces) low high place (subst (λ (x : List Piece). FollowEachOther low x high) split h) none first)

-- one more piece with nothing bad
pub none_in_more : (pieces : List Piece) (i : ℕ) (piece : Piece) → i < length pieces → get_or pieces i piece ≡ piece → IsNowhere (IsBadIn (take i pieces)) → IsNowhere (IsBadIn (piece ∷ [])) → IsNowhere (IsBadIn (take (i + 1) pieces))
none_in_more pieces i piece below is none here place bad =
    let more : take (i + 1) pieces ≡ take i pieces ++ piece ∷ [] = take_more pieces i piece below ∙ ap (λ (x : Piece). take i pieces ++ x ∷ []) is in
    elim (bad_in-append (take i pieces) (piece ∷ []) place (subst (λ (x : List Piece). IsBadIn x place) more bad)) [
      | inl before ↦ none place before
      | inr last ↦ here place last
    ]

-- the pieces that the values of attributes are
abbrev pub values : List Attr → List Piece
values attrs = map value_piece (map attribute_of attrs)

-- there is one piece for each attribute
length-values : (attrs : List Attr) → length (values attrs) ≡ length attrs
length-values attrs = length-map (map attribute_of attrs) value_piece ∙ length-map attrs attribute_of

-- the value of the attribute at an index is the piece there
value_at : (attrs : List Attr) (i : ℕ) (d : Attr) → i < length attrs → get_or (values attrs) i (value_piece (attribute_of (get_or attrs i d))) ≡ value_piece (attribute_of (get_or attrs i d))
value_at [] i d below = absurd (omega arith)
value_at (a ∷ attrs) zero d below = refl
value_at (a ∷ attrs) (suc i) d below = value_at attrs i d (omega arith)

-- the value of the attribute at an index ends before it does
pub value_within : (attrs : List Attr) (i : ℕ) (d : Attr) → i < length attrs → AllByRecursion EndsWithinAttribute (map attribute_of attrs) → EndsWithinAttribute (attribute_of (get_or attrs i d))
value_within [] i d below h = absurd (omega arith)
value_within (a ∷ attrs) zero d below h = h.0
value_within (a ∷ attrs) (suc i) d below h = value_within attrs i d (omega arith) h.1

-- the first bad place of the first value with a bad one is the first of all
pub first_in_value : (attrs : List Attr) (i : ℕ) (d : Attr) (place : ℕ) → i < length attrs → (low : ℕ) × (high : ℕ) × FollowEachOther low (values attrs) high → IsNowhere (IsBadIn (take i (values attrs))) → IsLeastPlace (IsBadIn (value_piece (attribute_of (get_or attrs i d)) ∷ [])) place → IsLeastPlace (IsBadIn (values attrs)) place
first_in_value attrs i d place below h none first =
    let piece = value_piece (attribute_of (get_or attrs i d)) in
    first_in_piece (values attrs) i piece h.0 h.1 place (omega (arith, length-values attrs, below)) (value_at attrs i d below) h.2 none first

-- one more value with nothing bad
pub none_in_value : (attrs : List Attr) (i : ℕ) (d : Attr) → i < length attrs → IsNowhere (IsBadIn (take i (values attrs))) → IsNowhere (IsBadIn (value_piece (attribute_of (get_or attrs i d)) ∷ [])) → IsNowhere (IsBadIn (take (i + 1) (values attrs)))
none_in_value attrs i d below none here =
    let piece = value_piece (attribute_of (get_or attrs i d)) in
    none_in_more (values attrs) i piece (omega (arith, length-values attrs, below)) (value_at attrs i d below) none here

-- what is bad in units that follow each other is bad in the first of them or in the others
pub bad-append : (us vs : List PlainUnit) (place : ℕ) → IsBadInUnits (us ++ vs) place → IsBadInUnits us place ⊎ IsBadInUnits vs place
bad-append [] vs place h = inr h
bad-append (u ∷ us) vs place (inl here) = inl (inl here)
bad-append (u ∷ us) vs place (inr later) = elim (bad-append us vs place later) [ inl h ↦ inl (inr h) | inr h ↦ inr h ]

-- what is bad in the first units is bad in all
pub bad-append_left : (us vs : List PlainUnit) (place : ℕ) → IsBadInUnits us place → IsBadInUnits (us ++ vs) place
bad-append_left [] vs place h = absurd h
bad-append_left (u ∷ us) vs place (inl here) = inl here
bad-append_left (u ∷ us) vs place (inr later) = inr (bad-append_left us vs place later)

-- what is bad in the last units is bad in all
pub bad-append_right : (us vs : List PlainUnit) (place : ℕ) → IsBadInUnits vs place → IsBadInUnits (us ++ vs) place
bad-append_right [] vs place h = h
bad-append_right (u ∷ us) vs place h = inr (bad-append_right us vs place h)
