use Rattle.std.proofs.Common.{List, sym, subst, arith}
use Rattle.std.proofs.lemmas.List.Elements.{All-from_recursion}
use Rattle.std.proofs.lemmas.Result.{IfOk-weaker}
use Rattle.net_core.specs.Atoms.{IsInRange, atoms_of}
use Rattle.net_core.specs.Nets.{intervals, points}
use Rattle.net_core.specs.declared.atom.Atom.{Atom}
use Rattle.net_core.proofs.AtomLaws.{atoms_in_range}
use Rattle.order_closure.specs.Tables.{AreInRange}
use Rattle.order_answers.specs.Ask.{AreWalks, ShowsProof}
use Rattle.order_answers.proofs.WalkProofs.{proof_well_formed, shows_proof}
use Rattle.order_answers.proofs.ask.proving.proof_text.Goals as goal

pub atoms_of-requires-clause-a : goal.atoms_of-requires-clause-a
atoms_of-requires-clause-a c = omega (arith, c.requires.intervals.0, c.intervals.ensures.net.few_intervals)

pub atoms_of-requires-clause-b : goal.atoms_of-requires-clause-b
atoms_of-requires-clause-b c = omega (arith, c.requires.intervals.1, c.intervals.ensures.net.few_intervals)

pub walks_for-requires-clause-range : goal.walks_for-requires-clause-range
walks_for-requires-clause-range c =
    subst (AreInRange (points c.args.net.now)) (sym c.atoms_of.ensures)
    (All-from_recursion (IsInRange (points c.args.net.now)) (atoms_of c.args.a c.args.rel c.args.b)
    (atoms_in_range (intervals c.args.net.now) c.args.rel c.args.a c.args.b c.requires.intervals.0 c.requires.intervals.1))

pub evidence_text-requires : goal.evidence_text-requires
evidence_text-requires c =
    let are = subst (λ (atoms : List Atom). AreWalks c.args.net.now atoms c.in_ok-walks.walks) c.atoms_of.ensures c.in_ok-walks.ensures in
    proof_well_formed c.args.net.now c.args.a c.args.rel c.args.b c.intervals.ensures.net c.requires.intervals c.in_ok-walks.walks are

pub returns : goal.returns
returns c =
    let are = subst (λ (atoms : List Atom). AreWalks c.args.net.now atoms c.in_ok-walks.walks) c.atoms_of.ensures c.in_ok-walks.ensures in
    IfOk-weaker c.evidence_text.result _ (λ text. ShowsProof c.args.net.now c.args.a c.args.rel c.args.b text.items)
    (λ text is. shows_proof c.args.net.now c.args.a c.args.rel c.args.b c.intervals.ensures.net c.requires.intervals c.in_ok-walks.walks are text.items is) c.evidence_text.ensures
