use Rattle.std.proofs.Common.{◌≡◌, ◌+◌, ◌<◌, ◌++◌, ℕ, Bor, List, length, map, append_assoc, ap, sym, subst, ◌∙◌, arith}
use Rattle.std.proofs.lemmas.List.{length-map}
use Rattle.answers.specs.Names.{AreNames}
use Rattle.possible_answers.specs.Matrix.{lines_from, matrix_lines}
use Rattle.tml_refs.specs.Documents.{interval_name}
use Rattle.possible_answers.proofs.Lines.{next_lines}
use Rattle.possible_answers.proofs.matrix.matrix_text.Goals as goal

pub loop-a-preserved : goal.loop-a-preserved
loop-a-preserved c =
    let intervals = c.args.document.now.intervals in
    let text_of = λ (name : Bor (List ℕ)). name.now in
    let given = c.deref.result.now in
    let n = length intervals in
    let a = c.loop-a.a in
    let are : AreNames intervals (map text_of given) = subst (λ (names : List (Bor (List ℕ))). AreNames intervals (map text_of names)) (sym c.deref.ensures.value) c.loop-a.invariant.names in
    let many : length given ≡ n = sym (length-map given text_of) ∙ ap length are ∙ length-map intervals interval_name in
    let la : a < n = omega (arith, c.loop-a-test.true, c.loop-a.invariant.end) in record {
      end = c.loop-a.invariant.end;
      names = c.loop-a.invariant.names;
      texts = c.in_ok-push_from.ensures.texts;
      lines = λ can tells.
          let left = matrix_lines intervals n can (a + 1) in
          let more = subst (λ (m : ℕ). c.push_from.new.out.items ≡ c.loop-a.text.items ++ lines_from intervals m can a (a + 1)) many (c.in_ok-push_from.ensures.lines intervals can are tells) in
          ap (λ (t : List ℕ). t ++ left) more
          ∙ append_assoc c.loop-a.text.items (lines_from intervals n can a (a + 1)) left
          ∙ ap (λ (t : List ℕ). c.loop-a.text.items ++ t) (sym (next_lines (λ i. lines_from intervals n can i (i + 1)) a n la))
          ∙ c.loop-a.invariant.lines can tells;
    }
