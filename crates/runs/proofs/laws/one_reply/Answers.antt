use Rattle.runs.proofs.OneReply as replies
use Rattle.runs.proofs.laws.one_reply.Goals as goal

pub returns : goal.returns
returns g c = λ words. replies.one_reply (g.P.Program.rows words) (c.all_are_answered.ensures words).one_next
