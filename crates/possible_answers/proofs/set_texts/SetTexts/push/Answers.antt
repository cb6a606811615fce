use Rattle.std.proofs.Common.{◌≡◌, ◌<◌, ℕ, List, length, ap, sym, subst, ◌∙◌, arith}
use Rattle.std.proofs.lemmas.List.{get_or_default}
use Rattle.possible_answers.specs.SetTexts.{AreTexts, part, place_at}
use Rattle.possible_answers.specs.declared.set_texts.Place.{Place}
use Rattle.possible_answers.specs.declared.set_texts.SetTexts.{SetTexts}
use Rattle.possible_answers.specs.Matrix.{words_of}
use Rattle.tml_possible.specs.Sets.{has}
use Rattle.possible_answers.proofs.Texts.{ok_appended, words_placed}
use Rattle.possible_answers.proofs.set_texts.SetTexts.push.Goals as goal
use Rattle.possible_answers.proofs.set_texts.SetTexts.push.Goals.{then-index+in_ok-make, else-index}

-- there are texts, and one of the set of this number
abbrev HasText : ℕ → SetTexts → Type 0
HasText k texts = AreTexts texts.bytes.items texts.places.items × (let place = place_at texts.places.items k in place.start < place.end)

pub returns-clause-out : goal.returns-clause-out
returns-clause-out c =
    let s = c.args.set in
    let at = c.number-k.ensures.number in
    let small = subst (λ (k : ℕ). k < 8192) at c.number-k.ensures.small in
    let now = c.if-index.self in
    let has_text : HasText c.number-k.result now = elim c.if-index.branch [
      | then-index+in_ok-make w ↦ subst (HasText c.number-k.result) (sym w.self-is) (w.in_ok-make.ensures.texts, rw at w.in_ok-make.ensures.made)
      | else-index w ↦
          let order = (c.requires.texts.placed c.number-k.result c.number-k.ensures.small).order in
          let places = c.args.self.now.places.items in
          let within : c.number-k.result < length places = omega (arith, c.number-k.ensures.small, c.requires.texts.size) in
          let first : c.index.result.now ≡ place_at places c.number-k.result = c.index.ensures ∙ get_or_default places c.number-k.result _ _ within in
          let second : c.index-2.result.now ≡ place_at places c.number-k.result = c.index-2.ensures ∙ get_or_default places c.number-k.result _ _ within in
          subst (HasText c.number-k.result) (sym w.self-is) (c.requires.texts, omega (arith, order, w.if-index.false, ap (λ (p : Place). p.start) first, ap (λ (p : Place). p.end) second))
    ] in
    let words = words_placed now.bytes.items now.places.items s has_text.0 small (rw (← at) has_text.1) in
    let place = place_at now.places.items c.number-k.result in
    let within : c.number-k.result < length now.places.items = omega (arith, c.number-k.ensures.small, has_text.0.size) in
    let third : c.index-3.result.now ≡ place = c.index-3.ensures ∙ get_or_default now.places.items c.number-k.result _ _ within in
    let here : part now.bytes.items place ≡ words_of (has s) = rw at words in
    let slice = subst (λ (p : Place). part c.deref.result.now p ≡ words_of (has s)) (sym third) (subst (λ (bytes : List ℕ). part bytes place ≡ words_of (has s)) (sym c.deref.ensures.value) here) in
    ok_appended c.extend_from_slice.result c.args.out.now.items c.extend_from_slice.new.self.items (part c.deref.result.now c.index-3.result.now) (words_of (has s)) c.extend_from_slice.ensures.items slice
