-- What is made of the items of a list, one item after another.
use Rattle.std.proofs.Common.{◌≡◌, ℕ, ◌+◌, List, [], ◌∷◌, ◌++◌, map, take, refl, ap, ◌∙◌, Some}
use Rattle.std.specs.List.{AllZip, slice_get}
use Rattle.std.proofs.lemmas.List.{map-append, take_more}
use Rattle.std.proofs.lemmas.Option.{get_or_from_slice_get, slice_get_within}
use Rattle.std.proofs.lemmas.Slice.Zip.{all_zipped_more}

-- the first items and the next one
taken_more : {X : Type 0} (xs : List X) (i : ℕ) (x : X) → slice_get xs i ≡ Some x → take (i + 1) xs ≡ take i xs ++ x ∷ []
taken_more xs i x h = take_more xs i x (slice_get_within xs i x h) ∙ ap (λ y. take i xs ++ y ∷ []) (get_or_from_slice_get xs i x x h)

-- where the first items agree with others one by one, and the next item with one more, so do all of these
pub zip_next : {X Y : Type 0} (R : X → Y → Type 0) (xs : List X) (i : ℕ) (x : X) (ys : List Y) (y : Y) (new : List Y) → slice_get xs i ≡ Some x
    → AllZip R (take i xs) ys → R x y → new ≡ ys ++ y ∷ [] → AllZip R (take (i + 1) xs) new
zip_next R xs i x ys y new h zipped agree more = rw (more, taken_more xs i x h) (all_zipped_more R (take i xs) ys x y zipped agree)

-- what is made of the first items, and then what is made of the next
pub map_next : {X Y : Type 0} (f : X → Y) (xs : List X) (i : ℕ) (x : X) (ys new : List Y) → slice_get xs i ≡ Some x
    → ys ≡ map f (take i xs) → new ≡ ys ++ f x ∷ [] → new ≡ map f (take (i + 1) xs)
map_next f xs i x ys new h so_far more = rw (more, so_far, taken_more xs i x h, map-append f (take i xs) (x ∷ [])) refl
