-- Texts of sets of base relations, each of which is made once.
use Rattle.std.proofs.Common.{◌≡◌, ◌-◌, ◌<◌, ◌≤◌, ℕ, List, [], ◌∷◌, ◌++◌, length, set, replicate, take, drop, refl, sym, ap, subst, ◌∙◌, arith, inl, inr, length-append, Result, Ok, Err, OnOk, is_ok, if◌then◌else◌}
use Rattle.std.proofs.lemmas.Bool.{cases_eq}
use Rattle.std.proofs.lemmas.List.{drop-append-le, get_or-replicate, get_or-set_other, get_or-set_same, length-replicate, length-set, length-drop, take-append-le, take_all}
use Rattle.possible_answers.specs.Matrix.{words_of}
use Rattle.possible_answers.specs.SetTexts.{AreTexts, HasSetText, part, place_at}
use Rattle.possible_answers.specs.declared.set_texts.Place.{Place}
use Rattle.tml_possible.specs.Sets.{has, number}
use Rattle.tml_possible.specs.declared.base_set.BaseSet.{BaseSet}
use Rattle.net_core.specs.declared.rels.Rel.{Rel}
use Rattle.tml_possible.proofs.Bases.{has_number}

abbrev nowhere : Place
nowhere = record { start = 0; end = 0 }

-- no texts yet
pub no_texts : (bytes : List ℕ) (places : List Place) → places ≡ replicate 8192 nowhere → AreTexts bytes places
no_texts bytes places e = record {
  size = ap length e ∙ length-replicate 8192 nowhere;
  placed = λ k lt.
      let at : place_at places k ≡ nowhere = ap (λ (ps : List Place). place_at ps k) e ∙ get_or-replicate 8192 k nowhere nowhere lt in
      subst (λ (p : Place). HasSetText bytes p k) (sym at) (record { order = omega arith; within = omega arith; words = λ less. absurd (omega arith) });
}

-- what stands at a place stays where bytes are appended
kept_part : (bytes more : List ℕ) (place : Place) → place.start ≤ place.end → place.end ≤ length bytes → part (bytes ++ more) place ≡ part bytes place
kept_part bytes more place order within =
    ap (take (place.end - place.start)) (drop-append-le place.start bytes more (omega (arith, order, within)))
    ∙ take-append-le (place.end - place.start) (drop place.start bytes) more (omega (arith, length-drop place.start bytes, order, within))

-- appended words stand at their place
new_part : (bytes words : List ℕ) → part (bytes ++ words) (record { start = length bytes; end = length (bytes ++ words) }) ≡ words
new_part bytes words =
    ap (take (length (bytes ++ words) - length bytes)) (drop_first bytes words)
    ∙ take_all (length (bytes ++ words) - length bytes) words (omega (arith, length-append bytes words))
  where
    drop_first : (bytes words : List ℕ) → drop (length bytes) (bytes ++ words) ≡ words
    drop_first [] words = refl
    drop_first (b ∷ bytes) words = drop_first bytes words

-- the words of a set are those of its number
words_by_number : (set : BaseSet) → words_of (has set) ≡ words_of (has (record { bits = number set }))
words_by_number set = λ i. words_of (λ (r : Rel). sym (has_number set r) i)

-- with the words of a set there are still texts
pub made_texts : (bytes : List ℕ) (places : List Place) (s : BaseSet) → AreTexts bytes places → number s < 8192
    → AreTexts (bytes ++ words_of (has s)) (set places (number s) (record { start = length bytes; end = length (bytes ++ words_of (has s)) }))
made_texts bytes places s texts small = record {
  size = length-set places k new ∙ texts.size;
  placed = λ j lt. elim (cases_eq j k) [
    | inl same ↦
        let at : place_at (set places k new) j ≡ new = ap (place_at (set places k new)) same ∙ get_or-set_same places k new nowhere (omega (arith, small, texts.size)) in
        subst (λ (p : Place). HasSetText (bytes ++ words) p j) (sym at) (subst (HasSetText (bytes ++ words) new) (sym same) (record {
          order = omega (arith, length-append bytes words);
          within = omega arith;
          words = λ less. new_part bytes words ∙ words_by_number s;
        }))
    | inr other ↦
        let old = texts.placed j lt in
        let at : place_at (set places k new) j ≡ place_at places j = get_or-set_other places k j new nowhere other in
        subst (λ (p : Place). HasSetText (bytes ++ words) p j) (sym at) (record {
          order = old.order;
          within = omega (arith, old.within, length-append bytes words);
          words = λ less. kept_part bytes words (place_at places j) old.order old.within ∙ old.words less;
        })
  ];
}
  where
    k : ℕ
    k = number s

    words : List ℕ
    words = words_of (has s)

    new : Place
    new = record { start = length bytes; end = length (bytes ++ words) }

-- the words of a set by its place
pub words_placed : (bytes : List ℕ) (places : List Place) (s : BaseSet) → AreTexts bytes places → number s < 8192 → (let place = place_at places (number s) in place.start < place.end)
    → part bytes (place_at places (number s)) ≡ words_of (has s)
words_placed bytes places s texts small some = (texts.placed (number s) small).words some ∙ sym (words_by_number s)

-- what is appended where that succeeds
pub ok_appended : {U E : Type 0} (r : Result U E) (old new more words : List ℕ) → new ≡ (if is_ok r then old ++ more else old) → more ≡ words → OnOk r (new ≡ old ++ words)
ok_appended (Ok u) old new more words e same = e ∙ ap (λ (t : List ℕ). old ++ t) same
ok_appended (Err err) old new more words e same = tt
