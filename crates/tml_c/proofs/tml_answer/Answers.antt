use Rattle.std.proofs.Common.{rules, ap, ◌∙◌}
use Rattle.runs.specs.Status.{status_number}
use Rattle.tml_c.specs.Answers.{laid_over}
use Rattle.tml_c.specs.View.{status_of, text_of}
use Rattle.tml_c.proofs.tml_answer.Goals as goal

pub returns : goal.returns
returns c =
    let answer = c.answer_to_bytes-answer in
    record {
      status = status_of answer.result;
      text = text_of answer.result;
      answers = answer.ensures;
      number_is = c.number.ensures ∙ ap status_number c.status.ensures;
      needed_is = search rules;
      room_is = c.lay_over.ensures ∙ ap (λ text. laid_over text c.args.text.now) c.text-said.ensures;
    }
