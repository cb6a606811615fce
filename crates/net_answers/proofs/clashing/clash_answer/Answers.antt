use Rattle.net_answers.proofs.ClashProofs.{clash_well_formed, shows_clash}
use Rattle.net_answers.proofs.clashing.clash_answer.Goals as goal

pub evidence_text-requires : goal.evidence_text-requires
evidence_text-requires c = clash_well_formed c.args.net.now c.intervals.ensures.net c.args.clash c.requires.clash

pub returns-clause-text : goal.returns-clause-text
returns-clause-text c = shows_clash c.args.net.now c.intervals.ensures.net c.args.clash c.requires.clash c.in_ok-text.text.items c.requires.none c.in_ok-text.ensures
