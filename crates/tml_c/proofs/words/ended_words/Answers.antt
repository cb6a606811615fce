use Rattle.std.proofs.Common.{rules, arith, ◌∙◌}
use Rattle.runs.specs.Words.{texts_of}
use Rattle.tml_c.proofs.Cutting.{all_words, next_word}
use Rattle.tml_c.proofs.words.ended_words.Goals as goal

pub loop-word-preserved : goal.loop-word-preserved
loop-word-preserved c =
    let found = c.in-Some.ensures.byte (omega arith) (λ w o h. h) in
    record {
      text = search rules;
      cut = next_word c.args.text.now c.loop-word.rest.now c.in-Some.after.now c.loop-word.words.items c.push.new.self.items c.in_ok-from_str.field-0
          c.loop-word.invariant.cut found.2 (c.in_ok-from_str.ensures.ok ∙ found.0) found.1 c.in_ok-push.ensures.items;
    }

pub returns : goal.returns
returns c = all_words c.args.text.now c.loop-word.rest.now (texts_of c.loop-word.words.items) c.requires c.loop-word.invariant.cut (c.in_default.ensures.byte (omega arith) (λ w o h. h))
