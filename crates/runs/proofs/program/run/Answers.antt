use Rattle.runs.proofs.HowItEnds.{delivered, ends_as_usage}
use Rattle.runs.proofs.program.run.Goals as goal

pub returns-clause-outcome : goal.returns-clause-outcome
returns-clause-outcome g c = delivered g.I.Inputs.known g.S.Sink.known _ _ _ _ _ _ _ _ _ c.deliver.ensures.status c.reply.ensures.reply c.deliver.ensures.delivered

pub returns-clause-usage : goal.returns-clause-usage
returns-clause-usage g c =
    let asked = c.reply.ensures.usage in
    let same = ends_as_usage _ _ c.deliver.ensures.status in
    (λ e. asked.0 (same.0 e), λ e. same.1 (asked.1 e))
