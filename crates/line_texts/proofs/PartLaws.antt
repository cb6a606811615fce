-- Begun parts of a text: the first lines of whole ones, which go on to whole ones.
use Rattle.std.proofs.Common.{◌≡◌, ℕ, suc, ◌+◌, ◌-◌, ◌<◌, ◌≤◌, ◌⊎◌, inl, inr, List, [], ◌∷◌, ◌++◌, length, map, replicate, sym, refl, ap, subst, ◌∙◌, append_assoc, length-append, arith}
use Rattle.std.specs.List.{All, AllByRecursion, flat_map}
use Rattle.std.proofs.lemmas.Grind.{flat_map-append}
use Rattle.std.proofs.lemmas.List.{append-nil, map-append, length-replicate}
use Rattle.std.proofs.lemmas.List.Elements.{All-nil, All-cons, All-append, All-replicate, All-from_recursion, recursion_from_All}
use Rattle.named.proofs.Lists.{each_parts}
use Rattle.line_texts.specs.Lines.{Lines, last_line}
use Rattle.line_texts.specs.Grammar.{Begins}
use Rattle.line_texts.specs.Numbers.{IsNumber, one_number}
use Rattle.line_texts.specs.Parts.{MayBegin, AreBegunParts, IsBegunText}
use Rattle.line_texts.proofs.Exact.{parted}
use Rattle.line_texts.proofs.ReaderLaws.{Has, AreCounted, AreMany}

-- how many values there are, and a line for each
abbrev pub counted_lines : {A : Type 0} → List ℕ → (A → List ℕ) → List A → Lines
counted_lines keyword line vs = one_number keyword (length vs) ∷ map line vs

-- how many values there are, and a line for each of no more: so timelines and walks are begun
abbrev pub IsBegunCount : {A : Type 0} → List ℕ → (A → List ℕ) → (A → Type 0) → Lines → Type 0
IsBegunCount {A} keyword line Fits ls = (n : ℕ) × (vs : List A) × IsNumber n × All Fits vs × (length vs ≤ n) × (ls ≡ one_number keyword n ∷ map line vs)

-- ---- the first lines of whole ones

-- the first of the lines of values are those of the first values
pub prefix_map : {A : Type 0} (f : A → List ℕ) (vs : List A) (xs ys : Lines) → xs ++ ys ≡ map f vs → (us : List A) × (ws : List A) × (vs ≡ us ++ ws) × (xs ≡ map f us)
prefix_map f vs [] ys e = ([], vs, refl, refl)
prefix_map f [] (x ∷ xs) ys e = absurd cc
prefix_map f (v ∷ vs) (x ∷ xs) ys e =
    let heads : x ≡ f v = cc in
    let tails : xs ++ ys ≡ map f vs = cc in
    let more = prefix_map f vs xs ys tails in
    (v ∷ more.0, more.1, ap (λ us. v ∷ us) more.2, (let rest = more.3 in cc))

-- the first lines have the first line, or are none
pub prefix_cons : (xs ys : Lines) (l : List ℕ) (rest : Lines) → xs ++ ys ≡ l ∷ rest → (xs ≡ []) ⊎ ((more : Lines) × (xs ≡ l ∷ more) × (more ++ ys ≡ rest))
prefix_cons [] ys l rest e = inl refl
prefix_cons (x ∷ xs) ys l rest e = inr (xs, (let k = e in cc), (let k = e in cc))

-- the first lines of a count and this number of values
pub counted_prefix : {A : Type 0} (keyword : List ℕ) (line : A → List ℕ) (Fits : A → Type 0) (vs : List A) (xs ys : Lines) → AreCounted Fits vs → xs ++ ys ≡ counted_lines keyword line vs → MayBegin (IsBegunCount keyword line Fits) xs
counted_prefix keyword line Fits vs xs ys fit e =
    elim (prefix_cons xs ys (one_number keyword (length vs)) (map line vs) e) [
      | inl none ↦ inl none
      | inr m ↦
          let f = prefix_map line vs m.0 ys m.2 in
          let first = (each_parts Fits f.0 f.1 (subst (AllByRecursion Fits) f.2 (recursion_from_All Fits vs fit.0))).0 in
          let few : length f.0 ≤ length vs = omega (arith, ap length f.2, length-append f.0 f.1) in
          inr (length vs, f.0, fit.1, All-from_recursion Fits f.0 first, few, m.1 ∙ ap (λ (x : Lines). one_number keyword (length vs) ∷ x) f.3)
    ]

-- one whole part more
one_more : {A : Type 0} (IsWhole : A → Type 0) (lines : A → Lines) (IsBegunPart : Lines → Type 0) (a : A) (n : ℕ) (ls : Lines) → IsWhole a → AreBegunParts IsWhole lines IsBegunPart n ls → AreBegunParts IsWhole lines IsBegunPart (suc n) (lines a ++ ls)
one_more IsWhole lines IsBegunPart a n ls fit h = (
  a ∷ h.0,
  h.1,
  All-cons IsWhole a h.0 fit h.2,
  ap (λ (x : Lines). lines a ++ x) h.3 ∙ sym (append_assoc (lines a) (flat_map lines h.0) h.1),
  elim h.4 [ inl k ↦ inl ((let few = k.0 in omega arith), k.1) | inr k ↦ inr (ap suc k.0, k.1) ],
)

-- the first lines of parts, where those of a part may begin
pub many_prefix : {A : Type 0} (IsWhole : A → Type 0) (lines : A → Lines) (IsBegunPart : Lines → Type 0) → ((a : A) (xs ys : Lines) → IsWhole a → xs ++ ys ≡ lines a → MayBegin IsBegunPart xs)
    → (parts : List A) (xs ys : Lines) → AllByRecursion IsWhole parts → xs ++ ys ≡ flat_map lines parts → AreBegunParts IsWhole lines IsBegunPart (length parts) xs
many_prefix IsWhole lines IsBegunPart each [] [] ys fit e = ([], [], All-nil IsWhole, refl, inr (refl, refl))
many_prefix IsWhole lines IsBegunPart each [] (x ∷ xs) ys fit e = absurd cc
many_prefix IsWhole lines IsBegunPart each (a ∷ parts) xs ys fit e =
    elim (parted xs ys (lines a) (flat_map lines parts) e) [
      | inl m ↦ ([], xs, All-nil IsWhole, refl, inl (omega arith, each a xs m.0 fit.0 (sym m.1)))
      | inr m ↦ subst (AreBegunParts IsWhole lines IsBegunPart (suc (length parts))) (sym m.1) (one_more IsWhole lines IsBegunPart a (length parts) m.0 fit.0 (many_prefix IsWhole lines IsBegunPart each parts m.0 ys fit.1 (sym m.2)))
    ]

-- the first of one line
prefix_one : (xs ys : Lines) (l : List ℕ) → xs ++ ys ≡ l ∷ [] → (xs ≡ []) ⊎ (xs ≡ l ∷ [])
prefix_one [] ys l e = inl refl
prefix_one (x ∷ []) ys l e = inr cc
prefix_one (x ∷ y ∷ xs) ys l e = absurd cc

-- the first lines of lines and the last line: the first of those lines, or all
pub closed_prefix : (xs ys ls : Lines) → xs ++ ys ≡ ls ++ last_line ∷ [] → ((m : Lines) × (xs ++ m ≡ ls)) ⊎ (xs ≡ ls ++ last_line ∷ [])
closed_prefix xs ys ls e =
    elim (parted xs ys ls (last_line ∷ []) e) [
      | inl k ↦ inl (k.0, sym k.1)
      | inr k ↦ elim (prefix_one k.0 ys last_line (sym k.2)) [
        | inl none ↦ inl ([], append-nil xs ∙ k.1 ∙ ap (λ (x : Lines). ls ++ x) none ∙ append-nil ls)
        | inr all ↦ inr (k.1 ∙ ap (λ (x : Lines). ls ++ x) all)
      ]
    ]

-- the first lines of a text: none, the first line and the first ones of its body, or all
between_prefix : (first : List ℕ) (body xs ys : Lines) → xs ++ ys ≡ first ∷ (body ++ last_line ∷ [])
    → (xs ≡ []) ⊎ ((ls : Lines) × (more : Lines) × (xs ≡ first ∷ ls) × (ls ++ more ≡ body)) ⊎ (xs ≡ first ∷ (body ++ last_line ∷ []))
between_prefix first body xs ys e =
    elim (prefix_cons xs ys first (body ++ last_line ∷ []) e) [
      | inl none ↦ inl none
      | inr m ↦ elim (closed_prefix m.0 ys body m.2) [
        | inl k ↦ inr (inl (m.0, k.0, m.1, k.1))
        | inr all ↦ inr (inr (m.1 ∙ ap (λ (x : Lines). first ∷ x) all))
      ]
    ]

-- ---- begun lines go on to whole ones

-- a begun count goes on to this number of values
pub count_begins : {A : Type 0} (keyword : List ℕ) (line : A → List ℕ) (Fits : A → Type 0) (some : A) → Fits some → (ls : Lines) → IsBegunCount keyword line Fits ls → Begins (Has (AreCounted Fits) (counted_lines keyword line)) ls
count_begins {A} keyword line Fits some fits ls t =
    let more : List A = replicate (t.0 - length t.1) some in
    let all = All-append Fits t.1 more t.3 (All-replicate Fits (t.0 - length t.1) some fits) in
    let len : length (t.1 ++ more) ≡ t.0 = omega (arith, length-append t.1 more, length-replicate {A = A} (t.0 - length t.1) some, t.4) in
    let whole : ls ++ map line more ≡ counted_lines keyword line (t.1 ++ more) = ap (λ (x : Lines). x ++ map line more) t.5 ∙ ap (λ (x : Lines). one_number keyword t.0 ∷ x) (sym (map-append line t.1 more)) ∙ ap (λ (n : ℕ). one_number keyword n ∷ map line (t.1 ++ more)) (sym len) in
    (t.1 ++ more, map line more, ((all, subst IsNumber (sym len) t.2), whole))

-- what may begin begins, where no line does
pub may_begin : {A : Type 0} (G : A → Lines → Type 0) (IsBegunPart : Lines → Type 0) → Begins G [] → ((ls : Lines) → IsBegunPart ls → Begins G ls) → (ls : Lines) → MayBegin IsBegunPart ls → Begins G ls
may_begin G IsBegunPart empty part ls (inl none) = subst (Begins G) (sym none) empty
may_begin G IsBegunPart empty part ls (inr begun) = part ls begun

-- whole parts, fewer than this number, and the lines of one more, go on to this number
many_fill : {A : Type 0} (IsWhole : A → Type 0) (lines : A → Lines) (some : A) → IsWhole some → (n : ℕ) (parts : List A) (rest : Lines) → All IsWhole parts → length parts < n → Begins (Has IsWhole lines) rest → Begins (AreMany IsWhole lines n) (flat_map lines parts ++ rest)
many_fill {A} IsWhole lines some fits n parts rest whole few p =
    let more : List A = replicate (n - (length parts + 1)) some in
    let all : All IsWhole (parts ++ p.0 ∷ more) = All-append IsWhole parts (p.0 ∷ more) whole (All-cons IsWhole p.0 more p.2.0 (All-replicate IsWhole (n - (length parts + 1)) some fits)) in
    let len : length (parts ++ p.0 ∷ more) ≡ n = omega (arith, length-append parts (p.0 ∷ more), length-replicate {A = A} (n - (length parts + 1)) some) in
    let last : rest ++ (p.1 ++ flat_map lines more) ≡ lines p.0 ++ flat_map lines more = sym (append_assoc rest p.1 (flat_map lines more)) ∙ ap (λ (x : Lines). x ++ flat_map lines more) p.2.1 in
    let joined : (flat_map lines parts ++ rest) ++ (p.1 ++ flat_map lines more) ≡ flat_map lines (parts ++ p.0 ∷ more) =
    append_assoc (flat_map lines parts) rest (p.1 ++ flat_map lines more) ∙ ap (λ (x : Lines). flat_map lines parts ++ x) last ∙ sym (flat_map-append lines parts (p.0 ∷ more)) in
    (parts ++ p.0 ∷ more, p.1 ++ flat_map lines more, (recursion_from_All IsWhole (parts ++ p.0 ∷ more) all, len, joined))

-- begun parts go on to this number, where a begun one goes on to a whole one
pub many_begin : {A : Type 0} (IsWhole : A → Type 0) (lines : A → Lines) (IsBegunPart : Lines → Type 0) (some : A) → IsWhole some → ((ls : Lines) → IsBegunPart ls → Begins (Has IsWhole lines) ls)
    → (n : ℕ) (ls : Lines) → AreBegunParts IsWhole lines IsBegunPart n ls → Begins (AreMany IsWhole lines n) ls
many_begin IsWhole lines IsBegunPart some fits part n ls h =
    elim h.4 [
      | inl k ↦
          let p = may_begin (Has IsWhole lines) IsBegunPart (some, lines some, (fits, refl)) part h.1 k.1 in
          subst (Begins (AreMany IsWhole lines n)) (sym h.3) (many_fill IsWhole lines some fits n h.0 h.1 h.2 k.0 p)
      | inr k ↦
          let whole : ls ++ [] ≡ flat_map lines h.0 = append-nil ls ∙ h.3 ∙ ap (λ (x : Lines). flat_map lines h.0 ++ x) k.1 ∙ append-nil (flat_map lines h.0) in
          (h.0, [], (recursion_from_All IsWhole h.0 h.2, k.0, whole))
    ]

-- after the first line, a body that goes on to a whole one goes on to a text
between_begins : {A : Type 0} (first : List ℕ) (Fits : A → Type 0) (body : A → Lines) (ls rest : Lines) → ls ≡ first ∷ rest → Begins (Has Fits body) rest → Begins (Has Fits (λ a. first ∷ (body a ++ last_line ∷ []))) ls
between_begins first Fits body ls rest e h =
    (h.0, h.1 ++ last_line ∷ [], (h.2.0, ap (λ (x : Lines). x ++ (h.1 ++ last_line ∷ [])) e ∙ ap (λ (x : Lines). first ∷ x) (sym (append_assoc rest h.1 (last_line ∷ [])) ∙ ap (λ (x : Lines). x ++ last_line ∷ []) h.2.1)))

-- ---- a text between a first line and the last one

module _ {A : Type 0} (Fits : A → Type 0) (first : List ℕ) (body : A → Lines) (IsBegunBody : Lines → Type 0) where
  -- after the first line, a body that may begin
  opened : (ls more : Lines) → ls ≡ first ∷ more → MayBegin IsBegunBody more → IsBegunText Fits first body IsBegunBody ls
  opened ls more start (inl none) = inr (inl (start ∙ ap (λ (x : Lines). first ∷ x) none))
  opened ls more start (inr begun) = inr (inr (inl (more, begun, start)))

  -- lines that begin a text are begun by its parts, where those that begin a body are
  pub text_prefix : ((a : A) (xs ys : Lines) → Fits a → xs ++ ys ≡ body a → MayBegin IsBegunBody xs)
      → (ls : Lines) → Begins (Has Fits (λ a. first ∷ (body a ++ last_line ∷ []))) ls → IsBegunText Fits first body IsBegunBody ls
  text_prefix each ls h =
      elim (between_prefix first (body h.0) ls h.1 h.2.1) [
        | inl none ↦ inl none
        | inr k ↦ elim k [
          | inl m ↦ opened ls m.0 m.2 (each h.0 m.0 m.1 h.2.0 m.3)
          | inr all ↦ inr (inr (inr (h.0, h.2.0, all)))
        ]
      ]

  -- and lines that are begun by its parts begin a text, where a begun body goes on to a whole one
  pub text_begins : (some : A) → Fits some → ((ls : Lines) → IsBegunBody ls → Begins (Has Fits body) ls)
      → (ls : Lines) → IsBegunText Fits first body IsBegunBody ls → Begins (Has Fits (λ a. first ∷ (body a ++ last_line ∷ []))) ls
  text_begins some fits on ls (inl none) = (some, first ∷ (body some ++ last_line ∷ []), (fits, ap (λ (x : Lines). x ++ (first ∷ (body some ++ last_line ∷ []))) none))
  text_begins some fits on ls (inr (inl start)) = between_begins first Fits body ls [] start (some, body some, (fits, refl))
  text_begins some fits on ls (inr (inr (inl t))) = between_begins first Fits body ls t.0 t.2 (on t.0 t.1)
  text_begins some fits on ls (inr (inr (inr w))) = (w.0, [], (w.1, append-nil ls ∙ w.2))
