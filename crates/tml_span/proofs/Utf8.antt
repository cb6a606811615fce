-- UTF-8 that is parted at bytes of ASCII.
use Rattle.std.proofs.Common.{◌≡◌, ◌≢◌, ℕ, ◌+◌, ◌<◌, Bool, true, List, [], ◌∷◌, ◌++◌, length, drop, get_or, refl, sym, ap, subst, ◌∙◌, append_assoc, arith, length-append}
use Rattle.std.specs.Prelude.{nat_lt, IsUtf8}
use Rattle.std.specs.List.{list_all}
use Rattle.std.specs.Str.{IsAscii}
use Rattle.std.proofs.lemmas.Bool.{and_parts, ltb-true}
use Rattle.std.proofs.lemmas.List.{append-nil, drop_at, get_or_at, take_at}
use Rattle.std.proofs.lemmas.Str.{IsCharBoundary-after_ascii, IsCharBoundary-before_ascii, IsUtf8-append, IsUtf8-drop, IsUtf8-from_ascii, IsUtf8-take}
use Rattle.std.proofs.lemmas.Str.Ascii.{IsAscii-nil, IsAscii-cons}

-- a byte of ASCII
abbrev pub is_ascii : ℕ → Bool
is_ascii b = nat_lt b 128

-- ---- ASCII

-- the test of bytes gives what std says of ASCII
below_128 : (bs : List ℕ) → list_all is_ascii bs ≡ true → IsAscii bs
below_128 [] h = IsAscii-nil
below_128 (b ∷ bs) h = let s = and_parts (is_ascii b) (list_all is_ascii bs) h in IsAscii-cons b bs (ltb-true b 128 s.0) (below_128 bs s.1)

-- ASCII is UTF-8
pub ascii_utf8 : (bs : List ℕ) → list_all is_ascii bs ≡ true → IsUtf8 bs
ascii_utf8 bs h = IsUtf8-from_ascii bs (below_128 bs h)

-- ---- parts

-- what stands before a byte of ASCII in UTF-8, and what stands after it, are UTF-8
pub parted : (xs : List ℕ) (b : ℕ) (ys : List ℕ) → is_ascii b ≡ true → IsUtf8 (xs ++ b ∷ ys) → IsUtf8 xs × IsUtf8 ys
parted xs b ys ascii h =
    let all = xs ++ b ∷ ys in
    let at : get_or all (length xs) 0 ≡ b = get_or_at xs b ys 0 (length xs) refl in
    let below : b < 128 = ltb-true b 128 ascii in
    let low : get_or all (length xs) 0 < 128 = omega arith in
    let within : length xs < length all = omega (arith, length-append xs (b ∷ ys)) in
    let again : (xs ++ b ∷ []) ++ ys ≡ all = append_assoc xs (b ∷ []) ys in
    let after : drop (length xs + 1) all ≡ ys = ap (drop (length xs + 1)) (sym again) ∙ drop_at (xs ++ b ∷ []) ys (length xs + 1) (length-append xs (b ∷ [])) in (
      subst IsUtf8 (take_at xs (b ∷ ys) (length xs) refl) (IsUtf8-take all (length xs) h (IsCharBoundary-before_ascii all (length xs) within low)),
      subst IsUtf8 after (IsUtf8-drop all (length xs + 1) h (IsCharBoundary-after_ascii all (length xs) h within low)),
    )

-- what stands after ASCII in UTF-8 is UTF-8
pub after_ascii : (xs ys : List ℕ) → list_all is_ascii xs ≡ true → IsUtf8 (xs ++ ys) → IsUtf8 ys
after_ascii [] ys ascii h = h
after_ascii (b ∷ xs) ys ascii h =
    let s = and_parts (is_ascii b) (list_all is_ascii xs) ascii in
    after_ascii xs ys s.1 (parted [] b (xs ++ ys) s.0 h).1

-- what stands before ASCII in UTF-8 is UTF-8
pub before_ascii : (xs ys : List ℕ) → list_all is_ascii ys ≡ true → IsUtf8 (xs ++ ys) → IsUtf8 xs
before_ascii xs [] ascii h = subst IsUtf8 (append-nil xs) h
before_ascii xs (b ∷ ys) ascii h = (parted xs b ys (and_parts (is_ascii b) (list_all is_ascii ys) ascii).0 h).0

-- what stands before some bytes of ASCII in UTF-8, and what stands after them, are UTF-8
pub parted_by : (xs middle ys : List ℕ) → middle ≢ [] → list_all is_ascii middle ≡ true → IsUtf8 (xs ++ (middle ++ ys)) → IsUtf8 xs × IsUtf8 ys
parted_by xs [] ys some ascii h = absurd (some refl)
parted_by xs (b ∷ middle) ys some ascii h =
    let s = and_parts (is_ascii b) (list_all is_ascii middle) ascii in
    let both = parted xs b (middle ++ ys) s.0 h in
    (both.0, after_ascii middle ys s.1 both.1)

-- three pieces of UTF-8 joined
pub three_utf8 : (xs ys zs : List ℕ) → IsUtf8 xs → IsUtf8 ys → IsUtf8 zs → IsUtf8 (xs ++ ys ++ zs)
three_utf8 xs ys zs h k l = IsUtf8-append (xs ++ ys) zs (IsUtf8-append xs ys h k) l
