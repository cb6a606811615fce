use Rattle.std.proofs.Common.{refl}
use Rattle.tml_c.specs.Given.{two_files}
use Rattle.runs.specs.Words.{texts_of}
use Rattle.tml_c.proofs.Whole.{no_memory_is_reply, reply_of_run}
use Rattle.tml_c.proofs.answer.answer_to_words.Goals as goal

pub returns-in-Some : goal.returns-in-Some
returns-in-Some c =
    let run = c.run-status.ensures in
    reply_of_run _ _ (two_files c.args.first.now c.args.second.now) (texts_of c.args.words.now) _ _ _ _ c.run-status.result c.in-Some.text.items run.outcome run.usage
    c.new-inputs.ensures.files c.new-inputs.ensures.faults refl c.new-sink.ensures.written c.in-Some.ensures.1 c.new-sink.ensures.faults c.in-Some.ensures.0

pub returns-in-None : goal.returns-in-None
returns-in-None c =
    let run = c.run-status.ensures in
    rw (c.out_of_memory.ensures.status, c.out_of_memory.ensures.text)
    (no_memory_is_reply (two_files c.args.first.now c.args.second.now) (texts_of c.args.words.now) (λ none. c.in_default.not-Usage (run.usage.1 none)))
