-- Tags at places that rise.
use Rattle.std.proofs.Common.{◌≡◌, ℕ, ◌+◌, ◌<◌, ◌≤◌, List, [], ◌∷◌, ◌++◌, map, length, take, drop, get_or, sym, ap, subst, ◌∙◌, append_assoc, arith, length-append}
use Rattle.std.specs.List.{All}
use Rattle.std.proofs.lemmas.List.Elements.{All-cons, All-head, All-nil, All-tail}
use Rattle.std.proofs.lemmas.List.{map-append, take-append-drop, take_more}
use Rattle.named.proofs.Cuts.{inside}
use Rattle.tml_types.specs.declared.typed.TypedTag.{TypedTag}
use Rattle.tml_types.specs.Content.{PlainTyped}
use Rattle.tml_types.specs.Places.{HaveRisingPlaces, IsPlaceSmall, Rises, place_of}
use Rattle.tml_types.specs.View.{typed_of}

above : (low : ℕ) (mid after : List PlainTyped) (t : PlainTyped) → Rises low (map place_of (mid ++ t ∷ after)) → low ≤ t.place
above low [] after t h = h.0
above low (m ∷ mid) after t h = omega (arith, h.0, above (m.place + 1) mid after t h.1)

rises_past : (low : ℕ) (before mid after : List PlainTyped) (s t : PlainTyped) → Rises low (map place_of (before ++ (s ∷ (mid ++ t ∷ after)))) → s.place < t.place
rises_past low [] mid after s t h = omega (arith, above (s.place + 1) mid after t h.1)
rises_past low (b ∷ before) mid after s t h = rises_past (b.place + 1) before mid after s t h.1

module _ (all : List PlainTyped) (placed : HaveRisingPlaces all) where
  -- a tag before another begins before it
  pub begins_before : (before mid after : List PlainTyped) (s t : PlainTyped) → all ≡ (before ++ s ∷ mid) ++ t ∷ after → s.place < t.place
  begins_before before mid after s t whole =
      rises_past 0 before mid after s t (subst (λ (ts : List PlainTyped). Rises 0 (map place_of ts)) (whole ∙ append_assoc before (s ∷ mid) (t ∷ after)) placed.rising)

  pub place_small : (before after : List PlainTyped) (t : PlainTyped) → all ≡ before ++ t ∷ after → IsPlaceSmall t
  place_small before after t whole = inside IsPlaceSmall before after t (subst (All IsPlaceSmall) whole placed.small)

pub before_last : (tags : List PlainTyped) (tag : PlainTyped) (before after : List PlainTyped) (t : PlainTyped) → HaveRisingPlaces (tags ++ tag ∷ []) → tags ≡ before ++ t ∷ after → t.place < tag.place
before_last tags tag before after t placed whole = begins_before (tags ++ tag ∷ []) placed before after [] t tag (ap (λ (ts : List PlainTyped). ts ++ tag ∷ []) whole)

-- ---- the first tags

rises_prefix : (low : ℕ) (xs ys : List PlainTyped) → Rises low (map place_of (xs ++ ys)) → Rises low (map place_of xs)
rises_prefix low [] ys h = tt
rises_prefix low (x ∷ xs) ys h = (h.0, rises_prefix (x.place + 1) xs ys h.1)

small_prefix : (xs ys : List PlainTyped) → All IsPlaceSmall (xs ++ ys) → All IsPlaceSmall xs
small_prefix [] ys h = All-nil IsPlaceSmall
small_prefix (x ∷ xs) ys h = All-cons IsPlaceSmall x xs (All-head IsPlaceSmall x (xs ++ ys) h) (small_prefix xs ys (All-tail IsPlaceSmall x (xs ++ ys) h))

pub placed_prefix : (xs ys : List PlainTyped) → HaveRisingPlaces (xs ++ ys) → HaveRisingPlaces xs
placed_prefix xs ys h = record {
  rising = rises_prefix 0 xs ys h.rising;
  small = small_prefix xs ys h.small;
  few = omega (arith, h.few, length-append xs ys);
}

-- ---- typed tags that are taken one by one

module _ (items : List TypedTag) (i : ℕ) (item : TypedTag) (inside : i < length items) (is : item ≡ get_or items i item) where
  pub next_plain : map typed_of (take (i + 1) items) ≡ map typed_of (take i items) ++ typed_of item ∷ []
  next_plain = ap (map typed_of) (take_more items i item inside) ∙ map-append typed_of (take i items) (get_or items i item ∷ []) ∙ ap (λ (t : TypedTag). map typed_of (take i items) ++ typed_of t ∷ []) (sym is)

  pub next_placed : (all : List PlainTyped) → map typed_of items ≡ all → HaveRisingPlaces all → HaveRisingPlaces (map typed_of (take i items) ++ typed_of item ∷ [])
  next_placed all e placed =
      let whole : all ≡ map typed_of (take (i + 1) items) ++ map typed_of (drop (i + 1) items) = sym e ∙ ap (map typed_of) (sym (take-append-drop (i + 1) items)) ∙ map-append typed_of (take (i + 1) items) (drop (i + 1) items) in
      subst HaveRisingPlaces next_plain (placed_prefix (map typed_of (take (i + 1) items)) (map typed_of (drop (i + 1) items)) (subst HaveRisingPlaces whole placed))
