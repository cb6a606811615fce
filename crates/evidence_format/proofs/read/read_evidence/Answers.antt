use Rattle.line_texts.proofs.Reading.{is_found, is_read, none_reads, refuses, tells}
use Rattle.evidence_format.specs.View.{plain}
use Rattle.evidence_format.proofs.Reading.{texts}
use Rattle.evidence_format.proofs.read.read_evidence.Goals as goal

pub refusal-requires-clause-within : goal.refusal-requires-clause-within
refusal-requires-clause-within c = (refuses texts c.args.text.now c.in-Err.stop c.in-Err.ensures).0

pub returns-in-Ok-clause-ok : goal.returns-in-Ok-clause-ok
returns-in-Ok-clause-ok c = is_found texts (plain c.in-Ok.evidence) c.args.text.now c.in-Ok.ensures

pub returns-in-Ok-clause-only : goal.returns-in-Ok-clause-only
returns-in-Ok-clause-only c = λ e h. let one = is_read texts e c.args.text.now h in let two = c.in-Ok.ensures in cc

pub returns-in-Err-clause-only : goal.returns-in-Err-clause-only
returns-in-Err-clause-only c = λ e has. rw c.refusal.ensures (none_reads texts plain c.args.text.now _ e (refuses texts c.args.text.now c.in-Err.stop c.in-Err.ensures).1 has)

pub returns-in-Err-clause-err : goal.returns-in-Err-clause-err
returns-in-Err-clause-err c = rw c.refusal.ensures (tells texts c.args.text.now _ (refuses texts c.args.text.now c.in-Err.stop c.in-Err.ensures).1)
