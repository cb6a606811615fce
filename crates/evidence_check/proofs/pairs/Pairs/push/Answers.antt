use Rattle.std.proofs.Common.{◌<◌, [], ◌∷◌, length, take, rules, arith}
use Rattle.std.proofs.lemmas.List.{take_more_set}
use Rattle.evidence_check.proofs.RunLaws.{runs_before}
use Rattle.evidence_check.proofs.pairs.Pairs.push.Goals as goal

pub invariant_of-self : goal.invariant_of-self
invariant_of-self c =
    let a = c.self.inside in
    let room : a.count < length a.items = search rules in
    (omega arith, c.self.invariant.1, rw (take_more_set a.items a.count c.args.pair room) (runs_before (take a.runs a.lens) (take a.count a.items) (c.args.pair ∷ []) c.self.invariant.2))
