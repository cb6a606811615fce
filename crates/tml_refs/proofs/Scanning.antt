-- The first place at which a name is repeated.
use Rattle.std.proofs.Common.{◌≡◌, ◌⊎◌, ℕ, suc, zero, ◌+◌, ◌-◌, ◌<◌, ◌≤◌, min, max, Bool, true, false, cond, List, [], ◌∷◌, ◌++◌, length, take, drop, drop-cons, get_or, refl, sym, ap, subst, ◌∙◌, inl, inr, arith, eq-eqb}
use mathlib.Core.Bool.{true≢false}
use Rattle.std.specs.List.{Contains, count_by}
use Rattle.std.specs.Str.{bytes_eq}
use Rattle.std.proofs.lemmas.Slice.Eq.{bytes_eq-Decides}
use Rattle.std.proofs.lemmas.Bool.{cases_lt}
use Rattle.std.proofs.lemmas.List.{take_more, take_all, take-append-drop, get_or_default}
use Rattle.std.proofs.lemmas.List.Elements.{Contains-append_left, Contains-get_or, Contains-push, Contains-push_cases}
use Rattle.std.proofs.lemmas.List.Sums.{sum_by-append, sum_by-cons}
use Rattle.tml_refs.specs.declared.name_index.Entry.{Entry}
use Rattle.tml_refs.specs.NameIndex.{AreEntriesInOrder, IsFirstRepeat, Repeats, entry_name, is_at}
use Rattle.tml_refs.proofs.Runs.{place_in, side_by_side}

-- Of the first entries, this many: no name is repeated at a position before `first`, a name is repeated there, if it is no end, and `least` is the first position of the entries of this name.
pub record IsScanned (entries : List Entry) (tags first least i : ℕ) (name : List ℕ) : Type 0 where
  pub at_most : first ≤ tags
  pub none_before : (e other : Entry) → Contains (take i entries) e → Contains (take i entries) other → entry_name e ≡ entry_name other → e.place < other.place → first ≤ other.place
  pub here : first < tags → Repeats entries first
  pub low : (e : Entry) → Contains (take i entries) e → entry_name e ≡ name → least ≤ e.place
  pub least_is : (e : Entry) × Contains (take i entries) e × (entry_name e ≡ name) × (e.place ≡ least)

-- ---- positions

one_more : (b : Bool) (n k : ℕ) → b ≡ true → k ≡ cond b 1 0 + n → 1 ≤ k
one_more true n k e h = omega arith
one_more false n k e h = absurd cc

count_at : (p : Entry → Bool) (xs : List Entry) (i : ℕ) (d : Entry) → i < length xs → p (get_or xs i d) ≡ true → 1 ≤ count_by p xs
count_at p [] i d h t = absurd (omega (arith, h))
count_at p (y ∷ xs) zero d h t = one_more (p y) (count_by p xs) (count_by p (y ∷ xs)) t (sum_by-cons (λ (x : Entry). cond (p x) 1 0) y xs)
count_at p (y ∷ xs) (suc i) d h t = omega (arith, count_at p xs i d (omega (arith, h)) t, sum_by-cons (λ (x : Entry). cond (p x) 1 0) y xs)

module _ (entries : List Entry) (order : AreEntriesInOrder entries) where
  -- an entry before another has another position
  apart_from : (i : ℕ) (e d : Entry) → i < length entries → Contains (take i entries) e → e.place ≡ (get_or entries i d).place → ⊥
  apart_from i e d below h same =
      let test = is_at e.place in
      let own : test e ≡ true = eq-eqb e.place e.place refl in
      let its : test (get_or entries i d) ≡ true = eq-eqb (get_or entries i d).place e.place (sym same) in
      let stands : test (get_or (take i entries) h.0 e) ≡ true = ap test h.2 ∙ own in
      let before = count_at test (take i entries) h.0 e h.1 stands in
      let after : 1 ≤ count_by test (get_or entries i d ∷ drop (suc i) entries) = count_at test (get_or entries i d ∷ drop (suc i) entries) 0 d (omega arith) its in
      let whole : count_by test entries ≡ count_by test (take i entries) + count_by test (get_or entries i d ∷ drop (suc i) entries) =
      ap (count_by test) (sym (take-append-drop i entries) ∙ ap (λ (xs : List Entry). take i entries ++ xs) (drop-cons entries i d below))
      ∙ sum_by-append (λ (x : Entry). cond (test x) 1 0) (take i entries) (get_or entries i d ∷ drop (suc i) entries) in
      absurd (omega (arith, before, after, whole, order.apart e.place))

  -- two entries of one name, of which the positions are two
  repeats_at : (e other : Entry) (place : ℕ) → Contains entries e → Contains entries other → entry_name e ≡ entry_name other → (e.place ≡ other.place → ⊥) → place ≡ max e.place other.place → Repeats entries place
  repeats_at e other place x y n apart m = elim (cases_lt e.place other.place) [
    | inl before ↦ (e, other, x, y, n, before, omega (arith, m, before))
    | inr after ↦ (other, e, y, x, sym n, omega (arith, after, apart), omega (arith, m, after))
  ]

  from_prefix : (i : ℕ) (e : Entry) → Contains (take i entries) e → Contains entries e
  from_prefix i e h = let at = place_in entries i e h in (at.0, at.2, at.3)

  -- an entry of a prefix of one more
  one_of : (i : ℕ) (e d : Entry) → i < length entries → Contains (take (i + 1) entries) e → Contains (take i entries) e ⊎ (get_or entries i d ≡ e)
  one_of i e d below h = Contains-push_cases (take i entries) (get_or entries i d) e (subst (λ (xs : List Entry). Contains xs e) (take_more entries i d below) h)

  last_of : (i : ℕ) (d : Entry) → i < length entries → Contains (take (i + 1) entries) (get_or entries i d)
  last_of i d below = subst (λ (xs : List Entry). Contains xs (get_or entries i d)) (sym (take_more entries i d below)) (Contains-push (take i entries) (get_or entries i d))

  kept_in : (i : ℕ) (e d : Entry) → i < length entries → Contains (take i entries) e → Contains (take (i + 1) entries) e
  kept_in i e d below h = subst (λ (xs : List Entry). Contains xs e) (sym (take_more entries i d below)) (Contains-append_left (take i entries) (get_or entries i d ∷ []) e h)

  place_of : (e other : Entry) → e ≡ other → e.place ≡ other.place
  place_of e other h = ap (λ (f : Entry). f.place) h

  -- ---- one entry more

  module _ (tags first least i : ℕ) (d : Entry) (from : 1 ≤ i) (below : i < length entries) (scanned : IsScanned entries tags first least i (entry_name (get_or entries (i - 1) d))) where
    abbrev entry : Entry
    entry = get_or entries i d

    abbrev last : List ℕ
    last = entry_name (get_or entries (i - 1) d)

    -- of the name of the last one
    same_name : (now low : ℕ) → last ≡ entry_name entry → now ≡ min first (max least entry.place) → low ≡ min least entry.place → IsScanned entries tags now low (i + 1) (entry_name entry)
    same_name now low n f l = record {
      at_most = omega (arith, scanned.at_most, f);
      none_before = λ e other x y same less. elim (one_of i e d below x) [
        | inl old ↦ elim (one_of i other d below y) [
          | inl older ↦ omega (arith, scanned.none_before e other old older same less, f)
          | inr new ↦ omega (arith, scanned.low e old (same ∙ ap entry_name (sym new) ∙ sym n), place_of entry other new, less, f)
        ]
        | inr new ↦ elim (one_of i other d below y) [
          | inl older ↦ omega (arith, scanned.low other older (sym same ∙ ap entry_name (sym new) ∙ sym n), place_of entry e new, less, f)
          | inr newer ↦ absurd (omega (arith, place_of entry e new, place_of entry other newer, less))
        ]
      ];
      here = λ less. elim (cases_lt (max least entry.place) first) [
        | inl earlier ↦
            let e = scanned.least_is.0 in
            let stands = scanned.least_is.1 in
            repeats_at e entry now (from_prefix i e stands) (Contains-get_or entries i d below) (scanned.least_is.2 ∙ n) (apart_from i e d below stands) (omega (arith, f, earlier, scanned.least_is.3))
        | inr later ↦ let old : first ≡ now = omega (arith, f, later) in subst (λ (place : ℕ). Repeats entries place) old (scanned.here (omega (arith, old, less)))
      ];
      low = λ e x same. elim (one_of i e d below x) [
        | inl old ↦ omega (arith, scanned.low e old (same ∙ sym n), l)
        | inr new ↦ omega (arith, place_of entry e new, l)
      ];
      least_is = elim (cases_lt entry.place least) [
        | inl lower ↦ (entry, last_of i d below, refl, omega (arith, l, lower))
        | inr higher ↦
            let e = scanned.least_is.0 in
            (e, kept_in i e d below scanned.least_is.1, scanned.least_is.2 ∙ n, omega (arith, scanned.least_is.3, l, higher))
      ];
    }

    new_name : (e : Entry) → (last ≡ entry_name entry → ⊥) → Contains (take i entries) e → entry_name e ≡ entry_name entry → ⊥
    new_name e other x same = other (sym (side_by_side entries order i e d from below x same) ∙ same)

    -- of another name
    other_name : (low : ℕ) → (last ≡ entry_name entry → ⊥) → low ≡ entry.place → IsScanned entries tags first low (i + 1) (entry_name entry)
    other_name low n l = record {
      at_most = scanned.at_most;
      none_before = λ e other x y same less. elim (one_of i e d below x) [
        | inl old ↦ elim (one_of i other d below y) [
          | inl older ↦ scanned.none_before e other old older same less
          | inr new ↦ absurd (new_name e n old (same ∙ ap entry_name (sym new)))
        ]
        | inr new ↦ elim (one_of i other d below y) [
          | inl older ↦ absurd (new_name other n older (sym same ∙ ap entry_name (sym new)))
          | inr newer ↦ absurd (omega (arith, place_of entry e new, place_of entry other newer, less))
        ]
      ];
      here = scanned.here;
      low = λ e x same. elim (one_of i e d below x) [
        | inl old ↦ absurd (new_name e n old same)
        | inr new ↦ omega (arith, place_of entry e new, l)
      ];
      least_is = (entry, last_of i d below, refl, sym l);
    }

  -- ---- the steps of the loop

  abbrev pub IsScannedTo : ℕ → ℕ → ℕ → ℕ → Type 0
  IsScannedTo tags first least i = (d : Entry) → IsScanned entries tags first least i (entry_name (get_or entries (i - 1) d))

  module _ (tags first least i : ℕ) (e : Entry) (from : 1 ≤ i) (below : i < length entries) (scanned : IsScannedTo tags first least i) where
    moved : (now low : ℕ) → IsScanned entries tags now low (i + 1) (entry_name (get_or entries i e)) → IsScannedTo tags now low (i + 1)
    moved now low h d =
        let place : i ≡ i + 1 - 1 = omega arith in
        let same : get_or entries i e ≡ get_or entries (i + 1 - 1) d = get_or_default entries i e d below ∙ ap (λ (n : ℕ). get_or entries n d) place in
        subst (λ (x : Entry). IsScanned entries tags now low (i + 1) (entry_name x)) same h

    pub scanned_same : (now low : ℕ) → bytes_eq (entry_name (get_or entries (i - 1) e)) (entry_name (get_or entries i e)) ≡ true
        → now ≡ min first (max least (get_or entries i e).place) → low ≡ min least (get_or entries i e).place → IsScannedTo tags now low (i + 1)
    scanned_same now low t f l = moved now low (same_name tags first least i e from below (scanned e) now low ((bytes_eq-Decides _ _).0 t) f l)

    pub scanned_other : (now low : ℕ) → bytes_eq (entry_name (get_or entries (i - 1) e)) (entry_name (get_or entries i e)) ≡ false
        → now ≡ first → low ≡ (get_or entries i e).place → IsScannedTo tags now low (i + 1)
    scanned_other now low t f l =
        let other : entry_name (get_or entries (i - 1) e) ≡ entry_name (get_or entries i e) → ⊥ = λ n. true≢false (sym ((bytes_eq-Decides _ _).1 n) ∙ t) in
        moved now low (subst (λ (n : ℕ). IsScanned entries tags n low (i + 1) (entry_name (get_or entries i e))) (sym f) (other_name tags first least i e from below (scanned e) low other l))

-- ---- all entries

scanned_all : (entries : List Entry) (tags first least i : ℕ) (name : List ℕ) → length entries ≤ i → IsScanned entries tags first least i name → (place : ℕ) → Repeats entries place → first ≤ place
scanned_all entries tags first least i name h s place r =
    let whole : take i entries ≡ entries = take_all i entries h in
    let e = r.0 in
    let other = r.1 in
    omega (arith, s.none_before e other (subst (λ (xs : List Entry). Contains xs e) (sym whole) r.2) (subst (λ (xs : List Entry). Contains xs other) (sym whole) r.3) r.4 r.5, r.6)

some_entry : (entries : List Entry) → 1 ≤ length entries → Entry
some_entry [] h = absurd (omega (arith, h))
some_entry (e ∷ entries) h = e

pub scanned_to_end : (entries : List Entry) (tags first least i : ℕ) → 1 ≤ length entries → length entries ≤ i → ((d : Entry) → IsScanned entries tags first least i (entry_name (get_or entries (i - 1) d))) → IsFirstRepeat entries tags first
scanned_to_end entries tags first least i some h s =
    let scanned = s (some_entry entries some) in
    record { at_most = scanned.at_most; none_before = scanned_all entries tags first least i _ h scanned; here = scanned.here }
