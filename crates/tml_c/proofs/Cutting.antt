-- Cutting bytes at their zero bytes, word by word.
use Rattle.std.proofs.Common.{◌≡◌, ◌==◌, ◌<◌, ℕ, true, false, List, [], ◌∷◌, ◌++◌, length, String, ap, sym, ◌∙◌, reverse, arith}
use Rattle.std.specs.List.{after_first, before_first, position_or_len}
use Rattle.std.specs.Prelude.{string_bytes}
use Rattle.std.specs.declared.alloc.Global.{Global}
use Rattle.std.proofs.Math.ListN.{get_or}
use Rattle.std.proofs.lemmas.List.{append_assoc, map-append, reverse-append}
use Rattle.std.proofs.lemmas.List.Elements.{All-from_get_or}
use Rattle.std.proofs.lemmas.List.Splits.{slice_split_first, slice_split_none}
use Rattle.std.proofs.lemmas.List.Sums.{fails_before_first}
use Rattle.tml_c.specs.Words.{between_zeros, is_ended}
use Rattle.tml_c.proofs.Ending.{ended_have_words}
use Rattle.runs.specs.Words.{texts_of}

-- where the first zero byte stands
abbrev pub first_zero : List ℕ → ℕ
first_zero bytes = position_or_len (λ byte. byte == 0) bytes

-- a word is cut off, and comes after those before it
pub next_word : (bytes rest after : List ℕ) (words more : List (String Global)) (word : String Global)
    → between_zeros bytes ≡ texts_of words ++ between_zeros rest → first_zero rest < length rest
    → string_bytes word ≡ before_first (λ byte. byte == 0) rest → after ≡ after_first (λ byte. byte == 0) rest → more ≡ words ++ word ∷ []
    → between_zeros bytes ≡ texts_of more ++ between_zeros after
next_word bytes rest after words more word h within is_word is_after is_more =
    let p = λ (byte : ℕ). byte == 0 in
    let cut : between_zeros rest ≡ string_bytes word ∷ between_zeros after =
    slice_split_first p rest 0 within ∙ ap (λ w. w ∷ between_zeros (after_first p rest)) (sym is_word) ∙ ap (λ a. string_bytes word ∷ between_zeros a) (sym is_after) in
    let texts : texts_of more ≡ texts_of words ++ string_bytes word ∷ [] =
    ap (λ m. texts_of m) is_more ∙ map-append (λ (w : String Global). string_bytes w) words (word ∷ []) in
    h ∙ ap (λ parts. texts_of words ++ parts) cut ∙ sym (append_assoc (texts_of words) (string_bytes word ∷ []) (between_zeros after))
    ∙ ap (λ t. t ++ between_zeros after) (sym texts)

-- where there is no zero byte, the bytes are one part
pub last_part : (rest : List ℕ) → first_zero rest ≡ length rest → between_zeros rest ≡ rest ∷ []
last_part rest e =
    let p = λ (byte : ℕ). byte == 0 in
    slice_split_none p rest (All-from_get_or (λ byte. p byte ≡ false) rest 0 (λ i within. fails_before_first p rest i 0 (omega (arith, e, within))))

-- lists with one last item
pub same_last : (words other : List (List ℕ)) (x y : List ℕ) → words ++ x ∷ [] ≡ other ++ y ∷ [] → x ≡ y
same_last words other x y e =
    ap (λ parts. get_or parts 0 []) (sym (reverse-append words (x ∷ [])) ∙ ap (λ parts. reverse parts) e ∙ reverse-append other (y ∷ []))

-- where nothing comes after the last zero byte, all words were cut off
pub all_words : (bytes rest : List ℕ) (words : List (List ℕ)) → is_ended bytes ≡ true → between_zeros bytes ≡ words ++ between_zeros rest → first_zero rest ≡ length rest
    → between_zeros bytes ≡ words ++ [] ∷ []
all_words bytes rest words ended h none =
    let others = ended_have_words bytes ended in
    let last = ap (λ parts. words ++ parts) (sym (last_part rest none)) ∙ sym h ∙ others.1 in
    let empty : rest ≡ [] = same_last words others.0 rest [] last in
    h ∙ ap (λ parts. words ++ parts) (last_part rest none ∙ ap (λ r. r ∷ []) empty)
