-- The words of a call, as bytes.
use Rattle.std.specs.Prelude.{◌≡◌, ◌⊎◌, ◌==◌, ℕ, Bool, true, List, [], ◌∷◌, ◌++◌}
use Rattle.std.specs.List.{slice_split}
use Rattle.std.specs.Str.{IsUtf8}

-- what stands between the zero bytes
abbrev pub between_zeros : List ℕ → List (List ℕ)
between_zeros bytes = slice_split (λ byte. byte == 0) bytes

-- some bytes have these words: they are UTF-8, and a zero byte ends each word, the last one too
pub record AreWords (bytes : List ℕ) (words : List (List ℕ)) : Type 0 where
  pub utf8 : IsUtf8 bytes
  pub ended : between_zeros bytes ≡ words ++ [] ∷ []

-- they have some
abbrev pub HaveWords : List ℕ → Type 0
HaveWords bytes = (words : List (List ℕ)) × AreWords bytes words

-- they have none
abbrev pub HaveNoWords : List ℕ → Type 0
HaveNoWords bytes = (words : List (List ℕ)) → AreWords bytes words → ⊥

-- some bytes are taken for these words: those that they have, or else the empty word, which has no form
abbrev pub AreTakenFor : List ℕ → List (List ℕ) → Type 0
AreTakenFor bytes words = AreWords bytes words ⊎ (HaveNoWords bytes × (words ≡ [] ∷ []))

-- the last byte is zero, or there is none
abbrev pub is_ended : List ℕ → Bool
is_ended [] = true
is_ended (byte ∷ []) = byte == 0
is_ended (byte ∷ next ∷ more) = is_ended (next ∷ more)
