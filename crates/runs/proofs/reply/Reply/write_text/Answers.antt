use Rattle.runs.proofs.reply.Reply.write_text.Goals as goal

pub returns-in-ReadFault-clause-err : goal.returns-in-ReadFault-clause-err
returns-in-ReadFault-clause-err g c = rw c.in-ReadFault.is c.write_all-in-ReadFault.ensures.err
