-- The first bytes of a name as a number, byte by byte.
use Rattle.std.proofs.Common.{◌≡◌, ℕ, suc, ◌+◌, ◌*◌, ◌%◌, ◌^◌, List, ◌∷◌, take, refl, sym, ap, ◌∙◌, arith}
use Rattle.tml_types.specs.Heads.{number_from}

number_more : (n m byte : ℕ) (bytes : List ℕ) → number_from n (take (suc m) (byte ∷ bytes)) ≡ number_from ((n * 256 % 2 ^ 64 + byte) % 2 ^ 64) (take m bytes)
unfolding number_from
number_more n m byte bytes = refl

-- one byte more is taken, and those that are left complete the same number
pub head_more : (n m k byte next all : ℕ) (bytes rest : List ℕ) → bytes ≡ byte ∷ rest → m + 1 ≡ k → next ≡ byte → number_from n (take k bytes) ≡ all
    → number_from ((n * 256 % 2 ^ 64 + next) % 2 ^ 64) (take m rest) ≡ all
head_more n m k byte next all bytes rest e f g h =
    let size : k ≡ suc m = omega (arith, f) in
    ap (λ (b : ℕ). number_from ((n * 256 % 2 ^ 64 + b) % 2 ^ 64) (take m rest)) g
    ∙ sym (number_more n m byte rest)
    ∙ sym (λ i. number_from n (take (size i) (e i)))
    ∙ h
