use Rattle.std.proofs.Common.{ℕ, ◌<◌, length, arith}
use Rattle.std.proofs.lemmas.List.Elements.{All-from_get_or}
use Rattle.evidence_check.proofs.checker.check_cites.Goals as goal

pub returns-clause-ok : goal.returns-clause-ok
returns-clause-ok c = All-from_get_or (λ (k : ℕ). k < length c.args.net.now.links) c.args.cites.now 0 (λ i below. c.loop-cite.invariant i (omega (arith, below, c.loop-cite-test.false)))
