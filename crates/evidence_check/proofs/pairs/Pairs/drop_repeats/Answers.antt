use Rattle.std.proofs.Common.{List, subst, sym, take}
use Rattle.std.proofs.lemmas.List.{take-append-le}
use Rattle.evidence_check.specs.Pairs.{HaveSame}
use Rattle.evidence_check.specs.declared.pairs.Pair.{Pair}
use Rattle.evidence_check.proofs.pairs.Pairs.drop_repeats.Goals as goal

pub returns : goal.returns
returns c =
    let done = c.move_distinct-self-inside in
    let same : HaveSame c.args.self.now (take done.result done.new.pairs) = subst (λ (l : List Pair). HaveSame l (take done.result done.new.pairs)) c.self.view_is done.ensures.same in
    subst (λ (l : List Pair). HaveSame c.args.self.now l) (sym (take-append-le done.result done.new.pairs _ done.ensures.few)) same
