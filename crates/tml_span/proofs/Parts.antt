-- Values and attributes: what is read is spelled so, and what is spelled so is read.
use Rattle.std.proofs.Common.{◌≡◌, ℕ, ◌+◌, ◌-◌, Bool, true, false, cond, eqb, eq-eqb, List, [], ◌∷◌, ◌++◌, length, refl, sym, ap, subst, ◌∙◌, append_assoc, arith, Option, Some, None, length-append}
use Rattle.std.proofs.lemmas.Option.{same_Some, cond_some}
use Rattle.std.specs.List.{prefix_len, list_all}
use Rattle.std.proofs.lemmas.Bool.{eqb-true, and_parts}
use Rattle.std.proofs.lemmas.Bool.Decides.{nat_tests}
use Rattle.std.proofs.lemmas.List.{take-append-drop}
use Rattle.tml_span.specs.Bytes.{is_white, is_name_byte, is_name, is_name_start, is_quote, is_value_byte}
use Rattle.tml_span.specs.Units.{Attribute, SpelledAttribute, SpelledAttributes}
use Rattle.tml_span.specs.Reading.{◌>>=◌, run_at, after_white, after_byte, name_at, quote_at, value_at, attribute_at, ReadsAttributes}
use Rattle.tml_span.proofs.Runs.{when, Not, run_again, prefix_passes, prefix_len_again, white_again, white_takes, name_takes, name_again}

-- the value of a step that did not fail
pub bind_some : {A B : Type 0} (o : Option A) (f : A → Option B) (y : B) → (o >>= f) ≡ Some y → (x : A) × (o ≡ Some x) × (f x ≡ Some y)
bind_some (Some x) f y e = (x, refl, e)
bind_some None f y e = absurd cc

pub guard_bind : {A B : Type 0} (t : Bool) (x : A) (f : A → Option B) (y : B) → (cond t (Some x) None >>= f) ≡ Some y → (t ≡ true) × (f x ≡ Some y)
guard_bind true x f y e = (refl, e)
guard_bind false x f y e = absurd cc

pub when_bind : {A B : Type 0} (t : Bool) (x : A) (f : A → Option B) → t ≡ true → (cond t (Some x) None >>= f) ≡ f x
when_bind true x f e = refl
when_bind false x f e = absurd cc

-- a test with which there is nothing
pub guard_not : {A : Type 0} (t : Bool) (o : Option A) (y : A) → cond t None o ≡ Some y → (t ≡ false) × (o ≡ Some y)
guard_not true o y e = absurd cc
guard_not false o y e = (refl, e)

-- ---- one byte

pub byte_takes : (b : ℕ) (bytes rest : List ℕ) → after_byte b bytes ≡ Some rest → bytes ≡ b ∷ rest
byte_takes b [] rest e = absurd cc
byte_takes b (c ∷ bytes) rest e =
    let g = cond_some (eqb c b) bytes rest e in
    let same = eqb-true c b g.0 in
    cc g.1

pub byte_again : (b : ℕ) (rest : List ℕ) → after_byte b (b ∷ rest) ≡ Some rest
byte_again b rest = when (eqb b b) _ _ (eq-eqb b b refl)

-- ---- tests

zero_is : (n : ℕ) → n ≡ 0 → eqb n 0 ≡ false → ⊥
zero_is n z e = cc (ap (λ (k : ℕ). eqb k 0) z)

pub white_no_name : (b : ℕ) → is_white b ≡ true → is_name_byte b ≡ false
white_no_name b h = grind (arith, nat_tests)

start_not_white : (b : ℕ) → is_name_start b ≡ true → is_white b ≡ false
start_not_white b h = grind (arith, nat_tests)

-- ---- a value

pub value_takes : (bytes : List ℕ) (q : ℕ) (value rest : List ℕ) → value_at bytes ≡ Some (q, value, rest) → (bytes ≡ q ∷ value ++ q ∷ rest) × (is_quote q ≡ true) × (list_all (is_value_byte q) value ≡ true)
unfolding value_at quote_at
value_takes [] q value rest e = absurd cc
value_takes (b ∷ bs) q value rest e =
    let x = guard_bind (is_quote b) (b, bs) _ (q, value, rest) e in
    let run = run_at (is_value_byte b) bs in
    let y = bind_some (after_byte b run.1) _ (q, value, rest) x.1 in
    subst (λ (t : ℕ × List ℕ × List ℕ). (b ∷ bs ≡ t.0 ∷ t.1 ++ t.0 ∷ t.2) × (is_quote t.0 ≡ true) × (list_all (is_value_byte t.0) t.1 ≡ true)) (same_Some _ _ y.2) (
      ap (λ (r : List ℕ). b ∷ r) (sym (take-append-drop (prefix_len (is_value_byte b) bs) bs) ∙ ap (λ (r : List ℕ). run.0 ++ r) (byte_takes b run.1 y.0 y.1)),
      x.0,
      prefix_passes (is_value_byte b) bs,
    )

pub value_again : (q : ℕ) (value rest : List ℕ) → is_quote q ≡ true → list_all (is_value_byte q) value ≡ true → value_at (q ∷ value ++ q ∷ rest) ≡ Some (q, value, rest)
unfolding value_at quote_at
value_again q value rest hq hv =
    let f = λ (r : List ℕ × List ℕ). after_byte q r.1 >>= λ rest. Some (q, r.0, rest) in
    let ends : is_value_byte q q ≡ false = rw (eq-eqb q q refl) refl in
    when_bind (is_quote q) (q, value ++ q ∷ rest) _ hq ∙ ap f (run_again (is_value_byte q) value (q ∷ rest) hv ends) ∙ ap (λ (o : Option (List ℕ)). o >>= λ rest. Some (q, value, rest)) (byte_again q rest)

-- ---- an attribute

-- the text of an attribute, and what follows it
abbrev pub attribute_text : List ℕ → List ℕ → List ℕ → Attribute → List ℕ → List ℕ
attribute_text before left right a rest = before ++ (a.name ++ (left ++ (61 ∷ (right ++ (a.quote ∷ (a.value ++ (a.quote ∷ rest)))))))

spelled_parts : (place : ℕ) (bytes before left right rest : List ℕ) (a : Attribute) → bytes ≡ attribute_text before left right a rest
    → list_all is_white before ≡ true → list_all is_white left ≡ true → list_all is_white right ≡ true
    → is_name a.name ≡ true → is_quote a.quote ≡ true → list_all (is_value_byte a.quote) a.value ≡ true
    → (length before ≡ 0 → ⊥) → a.start ≡ place + length before → a.end ≡ place + (length bytes - length rest)
    → (prefix : List ℕ) × (bytes ≡ prefix ++ rest) × SpelledAttribute place a prefix
spelled_parts place bytes before left right rest a whole wb wl wr name quote value some start end =
    let prefix = before ++ a.name ++ left ++ 61 ∷ right ++ a.quote ∷ a.value ++ a.quote ∷ [] in
    let parts : bytes ≡ prefix ++ rest = whole ∙ sym (simp append_assoc) in (
      prefix,
      parts,
      record {
        before = before;
        left = left;
        right = right;
        whole = refl;
        white_before = wb;
        white_left = wl;
        white_right = wr;
        apart = λ e. some (ap length e);
        name = name;
        quote = quote;
        value = value;
        start = start;
        end = end ∙ ap (λ (n : ℕ). place + n) (omega (arith, ap length parts, length-append prefix rest));
      },
    )

pub attribute_takes : (place : ℕ) (bytes : List ℕ) (a : Attribute) (rest : List ℕ) → attribute_at place bytes ≡ Some (a, rest) → (prefix : List ℕ) × (bytes ≡ prefix ++ rest) × SpelledAttribute place a prefix
unfolding attribute_at
attribute_takes place bytes a rest e =
    let some_white = guard_not (eqb (prefix_len is_white bytes) 0) _ (a, rest) e in
    let n = bind_some (name_at (after_white bytes)) _ (a, rest) some_white.1 in
    let r = bind_some (after_byte 61 (after_white n.0.1)) _ (a, rest) n.2 in
    let v = bind_some (value_at (after_white r.0)) _ (a, rest) r.2 in
    let before = white_takes bytes in
    let name = name_takes (after_white bytes) n.0.0 n.0.1 n.1 in
    let left = white_takes n.0.1 in
    let right = white_takes r.0 in
    let value = value_takes (after_white r.0) v.0.0 v.0.1 v.0.2 v.1 in
    let whole =
    before.1 ∙ ap (λ (x : List ℕ). before.0 ++ x) (name.0 ∙ ap (λ (x : List ℕ). n.0.0 ++ x) (left.1 ∙ ap (λ (x : List ℕ). left.0 ++ x) (byte_takes 61 (after_white n.0.1) r.0 r.1
    ∙ ap (λ (x : List ℕ). 61 ∷ x) (right.1 ∙ ap (λ (x : List ℕ). right.0 ++ x) value.0)))) in
    let some : length before.0 ≡ 0 → ⊥ = λ z. zero_is (prefix_len is_white bytes) (before.3 ∙ z) some_white.0 in
    subst (λ (p : Attribute × List ℕ). (prefix : List ℕ) × (bytes ≡ prefix ++ p.1) × SpelledAttribute place p.0 prefix) (same_Some _ _ v.2)
    (spelled_parts place bytes before.0 left.0 right.0 v.0.2 _ whole before.2 left.2 right.2 name.1 value.1 value.2 some (ap (λ (k : ℕ). place + k) before.3) refl)

name_stops : (left rest : List ℕ) → list_all is_white left ≡ true → Not is_name_byte (left ++ 61 ∷ rest)
name_stops [] rest h = refl
name_stops (b ∷ left) rest h = white_no_name b (and_parts (is_white b) (list_all is_white left) h).0

quote_stops : (q : ℕ) → is_quote q ≡ true → is_white q ≡ false
quote_stops q h = grind (arith, nat_tests)

same_attribute : (a : Attribute) (s f : ℕ) → s ≡ a.start → f ≡ a.end → record { start = s; end = f; name = a.name; value = a.value; quote = a.quote } ≡ a
same_attribute a s f e g = ap (λ (p : ℕ × ℕ). record { start = p.0; end = p.1; name = a.name; value = a.value; quote = a.quote }) (cc)

name_not_white : (name rest : List ℕ) → is_name name ≡ true → Not is_white (name ++ rest)
name_not_white [] rest h = absurd cc
name_not_white (b ∷ bs) rest h = start_not_white b (and_parts (is_name_start b) (list_all is_name_byte bs) h).0

some_len : (xs : List ℕ) → (xs ≡ [] → ⊥) → eqb (length xs) 0 ≡ false
some_len [] h = absurd (h refl)
some_len (x ∷ xs) h = grind (arith, nat_tests)

pub bind_is : {A B : Type 0} (o : Option A) (x : A) (f : A → Option B) → o ≡ Some x → (o >>= f) ≡ f x
bind_is o x f e = rw e refl

-- the text of an attribute is read
attribute_reads : (place : ℕ) (before left right rest : List ℕ) (a : Attribute) → list_all is_white before ≡ true → list_all is_white left ≡ true → list_all is_white right ≡ true
    → is_name a.name ≡ true → is_quote a.quote ≡ true → list_all (is_value_byte a.quote) a.value ≡ true → (before ≡ [] → ⊥)
    → a.start ≡ place + length before → a.end ≡ place + (length (attribute_text before left right a rest) - length rest)
    → attribute_at place (attribute_text before left right a rest) ≡ Some (a, rest)
unfolding attribute_at
attribute_reads place before left right rest a wb wl wr name quote value some start end =
    let valued = a.quote ∷ (a.value ++ (a.quote ∷ rest)) in
    let equals = left ++ (61 ∷ (right ++ valued)) in
    let named = a.name ++ equals in
    let starts = name_not_white a.name equals name in
    let len : prefix_len is_white (before ++ named) ≡ length before = prefix_len_again is_white before named wb starts in
    let test = some_len before some in
    rw (white_again before named wb starts, len, test) (
    bind_is (name_at named) (a.name, equals) _ (name_again a.name equals name (name_stops left (right ++ valued) wl))
    ∙ rw (white_again left (61 ∷ (right ++ valued)) wl refl) (
    rw (white_again right valued wr (quote_stops a.quote quote)) (
    bind_is (value_at valued) (a.quote, a.value, rest) _ (value_again a.quote a.value rest quote value)
    ∙ ap (λ (x : Attribute). Some (x, rest)) (same_attribute a _ _ (sym start) (sym end)))))

pub attribute_again : (place : ℕ) (a : Attribute) (prefix rest : List ℕ) → SpelledAttribute place a prefix → attribute_at place (prefix ++ rest) ≡ Some (a, rest)
attribute_again place a prefix rest h =
    let parts : prefix ++ rest ≡ attribute_text h.before h.left h.right a rest = ap (λ (f : List ℕ). f ++ rest) h.whole ∙ simp append_assoc in
    let end : a.end ≡ place + (length (attribute_text h.before h.left h.right a rest) - length rest) = h.end ∙ ap (λ (n : ℕ). place + n) (omega (arith, ap length parts, length-append prefix rest)) in
    rw parts (attribute_reads place h.before h.left h.right rest a h.white_before h.white_left h.white_right h.name h.quote h.value h.apart h.start end)

-- ---- all attributes

pub attributes_take : (place : ℕ) (bytes : List ℕ) (attrs : List Attribute) (rest : List ℕ) → ReadsAttributes place bytes attrs rest → (prefix : List ℕ) × (bytes ≡ prefix ++ rest) × SpelledAttributes place attrs prefix
attributes_take place bytes [] rest h = ([], h.0, refl)
attributes_take place bytes (a ∷ attrs) rest h =
    let one = attribute_takes place bytes a h.0 h.1 in
    let len : length bytes - length h.0 ≡ length one.0 = omega (arith, ap length one.1, length-append one.0 h.0) in
    let others = attributes_take (place + (length bytes - length h.0)) h.0 attrs rest h.2 in
    (one.0 ++ others.0, one.1 ∙ ap (λ (x : List ℕ). one.0 ++ x) others.1 ∙ sym (append_assoc one.0 others.0 rest), (one.0, others.0, refl, one.2, subst (λ (n : ℕ). SpelledAttributes (place + n) attrs others.0) len others.2))

pub attributes_again : (place : ℕ) (attrs : List Attribute) (prefix rest : List ℕ) → SpelledAttributes place attrs prefix → ((at : ℕ) → attribute_at at rest ≡ None) → ReadsAttributes place (prefix ++ rest) attrs rest
attributes_again place [] prefix rest h none = (ap (λ (x : List ℕ). x ++ rest) h, rw h (none place))
attributes_again place (a ∷ attrs) prefix rest h none =
    let f = h.0 in
    let suffix = h.1 in
    let parts : prefix ++ rest ≡ f ++ (suffix ++ rest) = ap (λ (x : List ℕ). x ++ rest) h.2 ∙ append_assoc f suffix rest in
    let len : length (prefix ++ rest) - length (suffix ++ rest) ≡ length f = omega (arith, ap length parts, length-append f (suffix ++ rest)) in
    (suffix ++ rest, rw parts (attribute_again place a f (suffix ++ rest) h.3), rw len (attributes_again (place + length f) attrs suffix rest h.4 none))

pub one_reading : (place : ℕ) (bytes : List ℕ) (attrs others : List Attribute) (rest after : List ℕ) → ReadsAttributes place bytes attrs rest → ReadsAttributes place bytes others after → (attrs ≡ others) × (rest ≡ after)
one_reading place bytes [] [] rest after h k = (refl, cc)
one_reading place bytes [] (b ∷ others) rest after h k = absurd cc
one_reading place bytes (a ∷ attrs) [] rest after h k = absurd cc
one_reading place bytes (a ∷ attrs) (b ∷ others) rest after h k =
    let same = same_Some _ _ (sym h.1 ∙ k.1) in
    let mid : k.0 ≡ h.0 = sym (ap (λ (p : Attribute × List ℕ). p.1) same) in
    let first : a ≡ b = ap (λ (p : Attribute × List ℕ). p.0) same in
    let tail = one_reading (place + (length bytes - length h.0)) h.0 attrs others rest after h.2 (subst (λ (m : List ℕ). ReadsAttributes (place + (length bytes - length m)) m others after) mid k.2) in
    (cc (first, tail.0), tail.1)
