use Rattle.runs.proofs.EveryReply.{exactly_one_reply}
use Rattle.runs.proofs.laws.every_question_is_answered.Goals as goal

pub returns-clause-next : goal.returns-clause-next
returns-clause-next g c = λ words. (c.all_are_answered.ensures words).next

pub returns-clause-reply : goal.returns-clause-reply
returns-clause-reply g c = λ words. exactly_one_reply (g.P.Program.rows words) (g.P.Program.is_free words) (c.all_are_answered.ensures words)
