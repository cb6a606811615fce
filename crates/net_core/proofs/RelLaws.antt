-- The texts of the relations of TLINK tell them apart, and are short.
use Rattle.std.proofs.Common.{◌≡◌, ℕ, suc, ◌≤◌, nat_le, true, false, cond, List, [], ◌∷◌, length, Some, arith, rules}
use Rattle.std.specs.List.{Contains}
use Rattle.std.specs.Str.{bytes_eq}
use Rattle.std.proofs.lemmas.Bool.{leb-true}
use Rattle.named.specs.Texts.{AreApart, named_of}
use Rattle.net_core.specs.Rels.{all_rels, rel_text}
use Rattle.net_core.specs.declared.rels.Rel.{Rel}

pub rels_apart : AreApart rel_text all_rels
rels_apart = search rules

-- what is found by its text is one of these
pub found_is_there : {T : Type 0} (text_of : T → List ℕ) (vs : List T) (text : List ℕ) (v : T) → named_of text_of vs text ≡ Some v → Contains vs v
found_is_there text_of [] text v e = absurd cc
found_is_there text_of (w ∷ vs) text v e = elim (bytes_eq (text_of w) text) as (λ b. cond b (Some w) (named_of text_of vs text) ≡ Some v → Contains (w ∷ vs) v) [
  | true ↦ λ is. (0, omega arith, cc)
  | false ↦ λ is. let later = found_is_there text_of vs text v is in (suc later.0, omega (arith, later.1), later.2)
] e

-- each relation stands in the table
pub in_table : (r : Rel) → Contains all_rels r
in_table r = found_is_there rel_text all_rels (rel_text r) r (rels_apart r)

-- the text of a relation has at most 16 bytes
short_test : (r : Rel) → nat_le (length (rel_text r)) 16 ≡ true
short_test r = search rules

pub text_short : (r : Rel) → length (rel_text r) ≤ 16
text_short r = leb-true (length (rel_text r)) 16 (short_test r)
