use Rattle.std.proofs.Common.{◌≡◌, ◌++◌, ◌<◌, ℕ, List, length, slice_set, ap, sym, subst, ◌∙◌}
use Rattle.possible_answers.specs.Matrix.{words_of}
use Rattle.possible_answers.specs.SetTexts.{AreTexts}
use Rattle.tml_possible.specs.Sets.{has}
use Rattle.possible_answers.proofs.Texts.{made_texts}
use Rattle.possible_answers.proofs.set_texts.SetTexts.make.Goals as goal

pub returns-clause-texts : goal.returns-clause-texts
returns-clause-texts c =
    let bytes = c.args.self.now.bytes.items in
    let places = c.args.self.now.places.items in
    let s = c.args.set in
    let all : c.push_words.new.out.items ≡ bytes ++ words_of (has s) = c.in_ok-push_words.ensures in
    let at = c.number.ensures.number in
    let start = ap length c.as_slice-start.ensures.value in
    let end : length c.as_slice-end.result.now ≡ length (bytes ++ words_of (has s)) = ap length (c.as_slice-end.ensures.value ∙ all) in
    let made = made_texts bytes places s c.requires (subst (λ (k : ℕ). k < 8192) at c.number.ensures.small) in
    subst (λ (x : List ℕ × ℕ × ℕ × ℕ). AreTexts x.0 (slice_set places x.1 (record { start = x.2; end = x.3 }))) (λ i. (sym all i, sym at i, sym start i, sym end i)) made
