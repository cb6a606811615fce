-- Readers that are exact: they read each value and no other, and stop at the first line with which the lines begin none.
use Rattle.std.proofs.Common.{◌≡◌, ℕ, List, [], ◌∷◌, ◌++◌, Option, Some, None, Result, Ok, Err, ◌⊎◌, inl, inr, refl, sym, ap, subst, ◌∙◌, append_assoc}
use Rattle.std.proofs.lemmas.List.{append-nil}
use Rattle.line_texts.specs.Lines.{Lines}
use Rattle.line_texts.specs.Reading.{Read, ◌>>=◌, taken, line_at, ended}
use Rattle.line_texts.specs.Grammar.{Begins, Then, Stuck}

-- lines begin a value; the lines of a value are read, and nothing else is; and reading stops where the lines are stuck
pub record Exact {A : Type 0} (G : A → Lines → Type 0) (p : Lines → Read A) : Type 0 where
  pub alive : Begins G []
  pub again : (a : A) (prefix rest : Lines) → G a prefix → p (prefix ++ rest) ≡ Ok (a, rest)
  pub found : (ls rest : Lines) (a : A) → p ls ≡ Ok (a, rest) → (prefix : Lines) × G a prefix × (ls ≡ prefix ++ rest)
  pub bad : (ls rest : Lines) → p ls ≡ Err rest → Stuck G ls rest

-- of two ways to part a list, one goes further
pub parted : {T : Type 0} (a b c d : List T) → a ++ b ≡ c ++ d → ((m : List T) × (c ≡ a ++ m) × (b ≡ m ++ d)) ⊎ ((m : List T) × (a ≡ c ++ m) × (d ≡ m ++ b))
parted [] b c d e = inl (c, refl, e)
parted (x ∷ a) b [] d e = inr (x ∷ a, refl, sym e)
parted {T} (x ∷ a) b (y ∷ c) d e =
    let heads : x ≡ y = cc in
    let tails : a ++ b ≡ c ++ d = cc in
    elim (parted a b c d tails) [
      | inl h ↦ inl (h.0, (let k = h.1 in cc), h.2)
      | inr h ↦ inr (h.0, (let k = h.1 in cc), h.2)
    ]

-- where two steps give a value, so do both
bind_ok : {A B : Type 0} (r : Result A Lines) (f : A → Result B Lines) (y : B) → (r >>= f) ≡ Ok y → (x : A) × (r ≡ Ok x) × (f x ≡ Ok y)
bind_ok (Ok x) f y e = (x, refl, e)
bind_ok (Err d) f y e = absurd cc

-- where two steps stop, one of them does
bind_err : {A B : Type 0} (r : Result A Lines) (f : A → Result B Lines) (d : Lines) → (r >>= f) ≡ Err d → (r ≡ Err d) ⊎ ((x : A) × (r ≡ Ok x) × (f x ≡ Err d))
bind_err (Ok x) f d e = inr (x, refl, e)
bind_err (Err c) f d e = inl cc

-- a value that was read
abbrev done : {A : Type 0} → A → Result A Lines
done x = Ok x

-- what was read is one value
ok_is : {A : Type 0} (x y : A) → done x ≡ done y → x ≡ y
ok_is x y e = cc

-- ---- one line

-- a line that was taken has a value
taken_found : {A : Type 0} (o : Option A) (l : List ℕ) (ls rest : Lines) (a : A) → taken o l ls ≡ Ok (a, rest) → (o ≡ Some a) × (ls ≡ rest)
taken_found {A} (Some b) l ls rest a e = let same : (b, ls) ≡ (a, rest) = ok_is (b, ls) (a, rest) e in (ap (λ (x : A × Lines). Some x.0) same, ap (λ (x : A × Lines). x.1) same)
taken_found None l ls rest a e = absurd cc

-- a line that was not taken has none
taken_bad : {A : Type 0} (o : Option A) (l : List ℕ) (ls rest : Lines) → taken o l ls ≡ Err rest → (o ≡ None) × (l ∷ ls ≡ rest)
taken_bad (Some b) l ls rest e = absurd cc
taken_bad None l ls rest e = (refl, cc)

-- a line that was read is the next one, and of the form
line_found : {A : Type 0} (form : List ℕ → Option A) (ls rest : Lines) (a : A) → line_at form ls ≡ Ok (a, rest) → (l : List ℕ) × (form l ≡ Some a) × (ls ≡ l ∷ rest)
line_found form [] rest a e = absurd cc
line_found form (l ∷ ls) rest a e = let t = taken_found (form l) l ls rest a e in (l, t.0, ap (λ (xs : Lines). l ∷ xs) t.1)

-- a line that was not read is of no value by the form, or is not there
line_bad : {A : Type 0} (form : List ℕ → Option A) (ls rest : Lines) → line_at form ls ≡ Err rest → (ls ≡ rest) × ((l : List ℕ) (more : Lines) → rest ≡ l ∷ more → form l ≡ None)
line_bad form [] rest e = (cc, λ l more k. cc)
line_bad form (l ∷ ls) rest e = let t = taken_bad (form l) l ls rest e in (t.1, λ m more k. let same : l ≡ m = cc in ap form (sym same) ∙ t.0)

-- a form that takes the line of each value, and no other line, is exact
pub exact_line : {A : Type 0} (text : A → List ℕ) (Fits : A → Type 0) (form : List ℕ → Option A) → (some : A) → Fits some
    → ((a : A) → Fits a → form (text a) ≡ Some a) → ((l : List ℕ) (a : A) → form l ≡ Some a → (text a ≡ l) × Fits a)
    → Exact (λ a ls. Fits a × (ls ≡ text a ∷ [])) (line_at form)
exact_line {A} text Fits form some fits again found =
    record {
      alive = (some, text some ∷ [], (fits, refl));
      again = λ a prefix rest g. rw (g.1, again a g.0) refl;
      found = λ ls rest a e.
          let h = line_found form ls rest a e in
          let f = found h.0 a h.1 in
          (text a ∷ [], (f.1, refl), h.2 ∙ ap (λ (l : List ℕ). l ∷ rest) (sym f.0));
      bad = λ ls rest e.
          let h = line_bad form ls rest e in (
            [],
            h.0,
            (some, text some ∷ [], (fits, refl)),
            λ l more k g.
                let first : l ≡ text g.0 = let whole = g.2.1 in cc in
                let read : form l ≡ Some g.0 = ap form first ∙ again g.0 g.2.0 in
                let none = h.1 l more k in cc,
          );
    }

-- ---- a value, and then another one

-- the lines of a value, and first lines of another one that goes with it
pub then_begins : {A B : Type 0} (G : A → Lines → Type 0) (H : A → B → Lines → Type 0) (a : A) (f ls : Lines) → G a f → Begins (H a) ls → Begins (Then G H) (f ++ ls)
then_begins G H a f ls g h = (h.0, h.1, (a, f, ls ++ h.1, g, h.2, append_assoc f ls h.1))

-- the first lines of a value begin both, where another one goes with it
pub first_begins : {A B : Type 0} (G : A → Lines → Type 0) (H : A → B → Lines → Type 0) (ls : Lines) → (h : Begins G ls) → Begins (H h.0) [] → Begins (Then G H) ls
first_begins G H ls h k = (k.0, h.1 ++ k.1, (h.0, ls ++ h.1, k.1, h.2, k.2, sym (append_assoc ls h.1 k.1)))

-- lines that begin both stop at the first or go on into the second
then_splits : {A B : Type 0} (G : A → Lines → Type 0) (H : A → B → Lines → Type 0) (ls : Lines) → Begins (Then G H) ls → Begins G ls ⊎ ((a : A) × (f m : Lines) × G a f × Begins (H a) m × (ls ≡ f ++ m))
then_splits G H ls h =
    let t = h.2 in
    elim (parted ls h.1 t.1 t.2 t.5) [
      | inl k ↦ inl (t.0, k.0, subst (G t.0) k.1 t.3)
      | inr k ↦ inr (t.0, t.1, k.0, t.3, (h.0, h.1, subst (H t.0 h.0) k.2 t.4), k.1)
    ]

-- what is read after each value is exact for what goes with it
abbrev Sequel : {A B : Type 0} (G : A → Lines → Type 0) (H : A → B → Lines → Type 0) (q : A → Lines → Read B) → Type 0
Sequel {A} G H q = (a : A) (prefix : Lines) → G a prefix → Exact (H a) (q a)

-- both are stuck where the first one is
first_bad : {A B : Type 0} (G : A → Lines → Type 0) (H : A → B → Lines → Type 0) (p : Lines → Read A) (q : A → Lines → Read B)
    → Exact G p → Sequel G H q → (ls rest : Lines) → p ls ≡ Err rest → Stuck (Then G H) ls rest
first_bad G H p q P Q ls rest o =
    let s = P.bad ls rest o in (
      s.0,
      s.1,
      first_begins G H s.0 s.2 (Q s.2.0 (s.0 ++ s.2.1) s.2.2).alive,
      λ l more k begins.
          elim (then_splits G H (s.0 ++ l ∷ []) begins) [
            | inl h ↦ s.3 l more k h
            | inr h ↦
                let longer : ls ≡ h.1 ++ (h.2 ++ more) = s.1 ∙ ap (λ (x : Lines). s.0 ++ x) k ∙ (sym (append_assoc s.0 (l ∷ []) more) ∙ ap (λ (x : Lines). x ++ more) h.5 ∙ append_assoc h.1 h.2 more) in
                let read = ap p longer ∙ P.again h.0 h.1 (h.2 ++ more) h.3 in
                absurd cc
          ],
    )

-- both are stuck where the second one is
second_bad : {A B : Type 0} (G : A → Lines → Type 0) (H : A → B → Lines → Type 0) (p : Lines → Read A) (q : A → Lines → Read B)
    → Exact G p → Sequel G H q → (ls rest : Lines) (a : A) (mid : Lines) → p ls ≡ Ok (a, mid) → q a mid ≡ Err rest → Stuck (Then G H) ls rest
second_bad {A} G H p q P Q ls rest a mid o e =
    let f = P.found ls mid a o in
    let s = (Q a f.0 f.1).bad mid rest e in (
      f.0 ++ s.0,
      f.2 ∙ ap (λ (x : Lines). f.0 ++ x) s.1 ∙ sym (append_assoc f.0 s.0 rest),
      then_begins G H a f.0 s.0 f.1 s.2,
      λ l more k begins.
          let t = begins.2 in
          let all : f.0 ++ (s.0 ++ l ∷ [] ++ begins.1) ≡ t.1 ++ t.2 = sym (append_assoc f.0 (s.0 ++ l ∷ []) begins.1) ∙ ap (λ (x : Lines). x ++ begins.1) (sym (append_assoc f.0 s.0 (l ∷ []))) ∙ t.5 in
          let one = P.again a f.0 (s.0 ++ l ∷ [] ++ begins.1) f.1 in
          let two = P.again t.0 t.1 t.2 t.3 in
          let same : (t.0, t.2) ≡ (a, s.0 ++ l ∷ [] ++ begins.1) = ok_is (t.0, t.2) (a, s.0 ++ l ∷ [] ++ begins.1) (sym two ∙ ap p (sym all) ∙ one) in
          s.3 l more k (begins.0, begins.1, subst (λ (x : A × Lines). H x.0 begins.0 x.1) same t.4),
    )

-- a value, and then another one that depends on it
pub exact_then : {A B : Type 0} (G : A → Lines → Type 0) (H : A → B → Lines → Type 0) (p : Lines → Read A) (q : A → Lines → Read B)
    → Exact G p → Sequel G H q → Exact (Then G H) (λ ls. p ls >>= λ x. q x.0 x.1)
exact_then {A} {B} G H p q P Q =
    let alive_after = λ (a : A) (prefix : Lines) (g : G a prefix). (Q a prefix g).alive in
    record {
      alive = first_begins G H [] P.alive (alive_after P.alive.0 P.alive.1 P.alive.2);
      again = λ b prefix rest t.
          let regrouped : prefix ++ rest ≡ t.1 ++ (t.2 ++ rest) = rw t.5 (append_assoc t.1 t.2 rest) in
          ap (λ ls. p ls >>= λ x. q x.0 x.1) regrouped ∙ rw (P.again t.0 t.1 (t.2 ++ rest) t.3) ((Q t.0 t.1 t.3).again b t.2 rest t.4);
      found = λ ls rest b e.
          let o = bind_ok (p ls) (λ x. q x.0 x.1) (b, rest) e in
          let f = P.found ls o.0.1 o.0.0 o.1 in
          let k = (Q o.0.0 f.0 f.1).found o.0.1 rest b o.2 in
          (f.0 ++ k.0, (o.0.0, f.0, k.0, f.1, k.1, refl), f.2 ∙ ap (λ (x : Lines). f.0 ++ x) k.2 ∙ sym (append_assoc f.0 k.0 rest));
      bad = λ ls rest e. elim (bind_err (p ls) (λ x. q x.0 x.1) rest e) [
        | inl o ↦ first_bad G H p q P Q ls rest o
        | inr o ↦ second_bad G H p q P Q ls rest o.0.0 o.0.1 o.1 o.2
      ];
    }

-- ---- a value without lines, the same values said otherwise, and a value with no line after it

-- a value without lines
pub exact_give : {B : Type 0} (b : B) → Exact (λ c ls. (c ≡ b) × (ls ≡ [])) (λ ls. Ok (b, ls))
exact_give {B} b = record {
  alive = (b, [], (refl, refl));
  again = λ c prefix rest g. rw (g.0, g.1) refl;
  found = λ ls rest c e. let same = ok_is (b, ls) (c, rest) e in ([], (sym (ap (λ (x : B × Lines). x.0) same), refl), ap (λ (x : B × Lines). x.1) same);
  bad = λ ls rest e. absurd cc;
}

-- lines that begin a value begin it, said otherwise
regraded : {A : Type 0} (G H : A → Lines → Type 0) → ((a : A) (ls : Lines) → G a ls → H a ls) → (ls : Lines) → Begins G ls → Begins H ls
regraded G H to ls b = (b.0, b.1, to b.0 (ls ++ b.1) b.2)

-- the same values, said otherwise
pub exact_same : {A : Type 0} (G H : A → Lines → Type 0) (p : Lines → Read A) → ((a : A) (ls : Lines) → G a ls → H a ls) → ((a : A) (ls : Lines) → H a ls → G a ls) → Exact G p → Exact H p
exact_same G H p to from P = record {
  alive = regraded G H to [] P.alive;
  again = λ a prefix rest h. P.again a prefix rest (from a prefix h);
  found = λ ls rest a e. let f = P.found ls rest a e in (f.0, to a f.0 f.1, f.2);
  bad = λ ls rest e. let s = P.bad ls rest e in (s.0, s.1, regraded G H to s.0 s.2, λ l more k h. s.3 l more k (regraded H G from (s.0 ++ l ∷ []) h));
}

-- all lines are read
abbrev pub all_of : {A : Type 0} → (Lines → Read A) → Lines → Result A Lines
all_of p ls = p ls >>= λ x. ended x.0 x.1

-- a value with no line after it
ended_ok : {A : Type 0} (a b : A) (ls : Lines) → ended a ls ≡ Ok b → (a ≡ b) × (ls ≡ [])
ended_ok a b [] e = (ok_is a b e, refl)
ended_ok a b (l ∷ ls) e = absurd cc

-- a value with a line after it
ended_err : {A : Type 0} (a : A) (ls rest : Lines) → ended a ls ≡ Err rest → (l : List ℕ) × (more : Lines) × (ls ≡ l ∷ more) × (rest ≡ ls)
ended_err a [] rest e = absurd cc
ended_err a (l ∷ ls) rest e = (l, ls, refl, cc)

-- all lines of a value are read
pub all_again : {A : Type 0} (G : A → Lines → Type 0) (p : Lines → Read A) → Exact G p → (a : A) (ls : Lines) → G a ls → all_of p ls ≡ Ok a
all_again G p P a ls g =
    let read = ap p (sym (append-nil ls)) ∙ P.again a ls [] g in
    rw read refl

-- all lines that are read are those of the value
pub all_found : {A : Type 0} (G : A → Lines → Type 0) (p : Lines → Read A) → Exact G p → (a : A) (ls : Lines) → all_of p ls ≡ Ok a → G a ls
all_found {A} G p P a ls e =
    let o = bind_ok (p ls) (λ x. ended x.0 x.1) a e in
    let d = ended_ok o.0.0 a o.0.1 o.2 in
    let f = P.found ls o.0.1 o.0.0 o.1 in
    let whole : f.0 ≡ ls = sym (f.2 ∙ ap (λ (x : Lines). f.0 ++ x) d.1 ∙ append-nil f.0) in
    subst (λ (b : A). G b ls) d.0 (subst (G o.0.0) whole f.1)

-- where not all lines are read, they are stuck
pub all_bad : {A : Type 0} (G : A → Lines → Type 0) (p : Lines → Read A) → Exact G p → (ls rest : Lines) → all_of p ls ≡ Err rest → Stuck G ls rest
all_bad {A} G p P ls rest e =
    elim (bind_err (p ls) (λ x. ended x.0 x.1) rest e) [
      | inl o ↦ P.bad ls rest o
      | inr o ↦
          let d = ended_err o.0.0 o.0.1 rest o.2 in
          let f = P.found ls o.0.1 o.0.0 o.1 in (
            f.0,
            f.2 ∙ ap (λ (x : Lines). f.0 ++ x) (sym d.3),
            (o.0.0, [], subst (G o.0.0) (sym (append-nil f.0)) f.1),
            λ l more k h.
                let one = P.again h.0 (f.0 ++ l ∷ [] ++ h.1) [] h.2 in
                let two = P.again o.0.0 f.0 (l ∷ h.1) f.1 in
                let same_lines : (f.0 ++ l ∷ [] ++ h.1) ++ [] ≡ f.0 ++ (l ∷ h.1) = append-nil (f.0 ++ l ∷ [] ++ h.1) ∙ append_assoc f.0 (l ∷ []) h.1 in
                let same = ok_is (h.0, []) (o.0.0, l ∷ h.1) (sym one ∙ ap p same_lines ∙ two) in
                let no : [] ≡ l ∷ h.1 = ap (λ (x : A × Lines). x.1) same in
                absurd cc,
          )
    ]

-- ---- there is one place where lines get stuck

-- the first of lines that begin a value begin it too
begins_prefix : {A : Type 0} (G : A → Lines → Type 0) (a b : Lines) → Begins G (a ++ b) → Begins G a
begins_prefix G a b h = (h.0, b ++ h.1, subst (G h.0) (append_assoc a b h.1) h.2)

-- after lines that are stuck no further line begins a value
no_further : {A : Type 0} (G : A → Lines → Type 0) (prefix rest m : Lines) → ((l : List ℕ) (more : Lines) → rest ≡ l ∷ more → Begins G (prefix ++ l ∷ []) → ⊥) → (tail : Lines) → rest ≡ m ++ tail → Begins G (prefix ++ m) → m ≡ []
no_further G prefix rest [] stop tail e h = refl
no_further G prefix rest (l ∷ m) stop tail e h = absurd (stop l (m ++ tail) e (begins_prefix G (prefix ++ l ∷ []) m (subst (Begins G) (sym (append_assoc prefix (l ∷ []) m)) h)))

-- lines are stuck at one place
pub one_place : {A : Type 0} (G : A → Lines → Type 0) (ls rest other : Lines) → (s : Stuck G ls rest) → (t : Stuck G ls other) → s.0 ≡ t.0
one_place G ls rest other s t =
    elim (parted s.0 rest t.0 other (sym s.1 ∙ t.1)) [
      | inl m ↦ let none = no_further G s.0 rest m.0 s.3 other m.2 (subst (Begins G) m.1 t.2) in sym (m.1 ∙ ap (λ (x : Lines). s.0 ++ x) none ∙ append-nil s.0)
      | inr m ↦ let none = no_further G t.0 other m.0 t.3 rest m.2 (subst (Begins G) m.1 s.2) in m.1 ∙ ap (λ (x : Lines). t.0 ++ x) none ∙ append-nil t.0
    ]
