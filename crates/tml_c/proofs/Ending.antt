-- Bytes of which the last one is zero have words, and others have none.
use Rattle.std.proofs.Common.{◌≡◌, ◌==◌, ◌<◌, ◌-◌, ℕ, suc, Bool, true, false, cond, List, [], ◌∷◌, ◌++◌, length, refl, ap, sym, subst, ◌∙◌, arith}
use Rattle.std.specs.Prelude.{slice_index}
use Rattle.std.specs.List.{join_with_byte, onto_first}
use Rattle.std.proofs.lemmas.List.Splits.{join_with_byte-slice_split}
use Rattle.tml_c.specs.Words.{between_zeros, is_ended}

-- what stands between zeros, by the first byte
parts_from : (byte : ℕ) (bytes : List ℕ) (b : Bool) → byte == 0 ≡ b → between_zeros (byte ∷ bytes) ≡ cond b ([] ∷ between_zeros bytes) (onto_first byte (between_zeros bytes))
parts_from byte bytes b e = ap (λ (t : Bool). cond t ([] ∷ between_zeros bytes) (onto_first byte (between_zeros bytes))) e

one_more : (byte next : ℕ) (more : List ℕ) (words : List (List ℕ)) (b : Bool) → byte == 0 ≡ b → between_zeros (next ∷ more) ≡ words ++ [] ∷ [] → (all : List (List ℕ)) × (between_zeros (byte ∷ next ∷ more) ≡ all ++ [] ∷ [])
one_more byte next more words true e h = ([] ∷ words, parts_from byte (next ∷ more) true e ∙ ap (λ (parts : List (List ℕ)). [] ∷ parts) h)
one_more byte next more [] false e h =
    let none : next ∷ more ≡ [] = sym (join_with_byte-slice_split 0 (next ∷ more)) ∙ ap (join_with_byte 0) h in
    absurd (omega (arith, ap (λ (bytes : List ℕ). length bytes) none))
one_more byte next more (word ∷ words) false e h = ((byte ∷ word) ∷ words, parts_from byte (next ∷ more) false e ∙ ap (onto_first byte) h)

pub ended_have_words : (bytes : List ℕ) → is_ended bytes ≡ true → (words : List (List ℕ)) × (between_zeros bytes ≡ words ++ [] ∷ [])
ended_have_words [] e = ([], refl)
ended_have_words (byte ∷ []) e = ([] ∷ [], parts_from byte [] true e)
ended_have_words (byte ∷ next ∷ more) e = let rest = ended_have_words (next ∷ more) e in one_more byte next more rest.0 (byte == 0) refl rest.1

-- a word, a zero byte and what is ended
ended_after : (word rest : List ℕ) → is_ended rest ≡ true → is_ended (word ++ 0 ∷ rest) ≡ true
ended_after [] [] h = refl
ended_after [] (byte ∷ rest) h = h
ended_after (byte ∷ []) rest h = ended_after [] rest h
ended_after (byte ∷ next ∷ word) rest h = ended_after (next ∷ word) rest h

joined_is_ended : (words : List (List ℕ)) → is_ended (join_with_byte 0 (words ++ [] ∷ [])) ≡ true
joined_is_ended [] = refl
joined_is_ended (word ∷ []) = ended_after word [] refl
joined_is_ended (word ∷ next ∷ words) = ended_after word (join_with_byte 0 (next ∷ words ++ [] ∷ [])) (joined_is_ended (next ∷ words))

pub words_are_ended : (bytes : List ℕ) (words : List (List ℕ)) → between_zeros bytes ≡ words ++ [] ∷ [] → is_ended bytes ≡ true
words_are_ended bytes words h = subst (λ (b : List ℕ). is_ended b ≡ true) (ap (join_with_byte 0) (sym h) ∙ join_with_byte-slice_split 0 bytes) (joined_is_ended words)

-- the last byte says whether they are
pub by_last : (bytes : List ℕ) → 0 < length bytes → is_ended bytes ≡ (slice_index bytes (length bytes - 1) == 0)
by_last [] some = absurd (omega (arith, some))
by_last (byte ∷ []) some = refl
by_last (byte ∷ next ∷ more) some =
    let index : suc (length (next ∷ more) - 1) ≡ length (byte ∷ next ∷ more) - 1 = omega arith in
    by_last (next ∷ more) (omega arith) ∙ ap (λ (k : ℕ). slice_index (byte ∷ next ∷ more) k == 0) index
