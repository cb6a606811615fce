-- Values one after another, as a loop reads them.
use Rattle.std.proofs.Common.{◌≡◌, ℕ, suc, ◌-◌, ◌+◌, ◌≤◌, ◌<◌, List, [], ◌∷◌, ◌++◌, Ok, Err, refl, sym, ap, ◌∙◌, append_assoc, arith}
use Rattle.std.proofs.lemmas.List.{append-nil}
use Rattle.line_texts.specs.declared.stop.Stop.{Stop}
use Rattle.line_texts.specs.declared.stop.Stop.TheVariants as stop
use Rattle.line_texts.specs.Lines.{Lines, lines_of}
use Rattle.line_texts.specs.Reading.{Read, ◌>>=◌, many_at}
use Rattle.line_texts.specs.Given.{ReadingStopsAt}

-- what was read before, and what is still read
abbrev pub with_prefix : {A : Type 0} → List A → Read (List A) → Read (List A)
with_prefix prefix read = read >>= λ x. Ok (prefix ++ x.0, x.1)

-- a value more comes to those before
pub regroup : {A : Type 0} (prefix : List A) (a : A) (read : Read (List A)) → with_prefix prefix (read >>= λ x. Ok (a ∷ x.0, x.1)) ≡ with_prefix (prefix ++ a ∷ []) read
regroup {A} prefix a (Ok x) = ap (λ (vs : List A). Ok (vs, x.1)) (simp append_assoc)
regroup prefix a (Err f) = refl

-- a value was read: it comes to those before
pub goes_on : {A : Type 0} (p : Lines → Read A) (prefix : List A) (count i : ℕ) (ls : Lines) (a : A) (after : Lines) (total : Read (List A)) → i < count → p ls ≡ Ok (a, after)
    → with_prefix prefix (many_at p (count - i) ls) ≡ total → with_prefix (prefix ++ a ∷ []) (many_at p (count - (i + 1)) after) ≡ total
unfolding many_at
goes_on p prefix count i ls a after total lt h so_far =
    let k : count - i ≡ suc (count - (i + 1)) = omega arith in
    let one : with_prefix prefix (many_at p (count - i) ls) ≡ with_prefix (prefix ++ a ∷ []) (many_at p (count - (i + 1)) after) = rw (k, h) (regroup prefix a (many_at p (count - (i + 1)) after)) in
    sym one ∙ so_far

-- no value was read: so all of them are not
pub ends : {A : Type 0} (p : Lines → Read A) (e : Stop) (prefix : List A) (count i : ℕ) (ls : Lines) (total : Read (List A)) → i < count → ReadingStopsAt e (p ls)
    → with_prefix prefix (many_at p (count - i) ls) ≡ total → ReadingStopsAt e total
unfolding many_at
ends p stop.Memory prefix count i ls total lt h so_far = tt
ends p (stop.BadLine rest) prefix count i ls total lt h so_far =
    let k : count - i ≡ suc (count - (i + 1)) = omega arith in
    let one : with_prefix prefix (many_at p (count - i) ls) ≡ Err (lines_of rest.now) = rw (k, h) refl in
    sym so_far ∙ one

-- no value is still to be read: all of them are
pub is_done : {A : Type 0} (p : Lines → Read A) (prefix : List A) (count i : ℕ) (ls : Lines) (total : Read (List A)) → count ≤ i → with_prefix prefix (many_at p (count - i) ls) ≡ total → total ≡ Ok (prefix, ls)
unfolding many_at
is_done {A} p prefix count i ls total le so_far =
    let k : count - i ≡ 0 = omega arith in
    let one : with_prefix prefix (many_at p (count - i) ls) ≡ Ok (prefix, ls) = rw k (ap (λ (vs : List A). Ok (vs, ls)) (append-nil prefix)) in
    sym so_far ∙ one
