use Rattle.line_texts.proofs.Reading.{is_found, is_read, none_reads, refuses, tells}
use Rattle.seconds_core.specs.View.{evidence_of}
use Rattle.seconds_format.proofs.Reading.{texts}
use Rattle.seconds_format.proofs.read.read_seconds.Goals as goal

pub refusal-requires-clause-within : goal.refusal-requires-clause-within
refusal-requires-clause-within c = (refuses texts c.args.text.now c.in-Err.stop c.in-Err.ensures).0

pub returns-in-Ok-clause-found : goal.returns-in-Ok-clause-found
returns-in-Ok-clause-found c = is_found texts (evidence_of c.in-Ok.evidence) c.args.text.now c.in-Ok.ensures

pub returns-in-Ok-clause-only : goal.returns-in-Ok-clause-only
returns-in-Ok-clause-only c = λ e h. let one = is_read texts e c.args.text.now h in let two = c.in-Ok.ensures in cc

pub returns-in-Err-clause-only : goal.returns-in-Err-clause-only
returns-in-Err-clause-only c = λ e has. rw c.refusal.ensures (none_reads texts evidence_of c.args.text.now _ e (refuses texts c.args.text.now c.in-Err.stop c.in-Err.ensures).1 has)

pub returns-in-Err-clause-fault : goal.returns-in-Err-clause-fault
returns-in-Err-clause-fault c = rw c.refusal.ensures (tells texts c.args.text.now _ (refuses texts c.args.text.now c.in-Err.stop c.in-Err.ensures).1)
