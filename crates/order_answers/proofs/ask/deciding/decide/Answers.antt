use Rattle.std.proofs.Common.{ℕ, List, None, Some, inl, inr, sym, subst}
use Rattle.std.proofs.lemmas.List.Elements.{All-from_recursion}
use Rattle.std.proofs.lemmas.Result.{IfOk-weaker}
use Rattle.net_core.specs.Atoms.{IsInRange, atoms_in, atoms_of}
use Rattle.net_core.specs.Nets.{intervals, points}
use Rattle.net_core.specs.declared.atom.Atom.{Atom}
use Rattle.net_core.proofs.AtomLaws.{atoms_in_range}
use Rattle.order_answers.specs.Ask.{IsFirstNotGiven, OfRelation}
use Rattle.order_answers.proofs.Counterexamples.{all_hold, first_open, shows_counterexample}
use Rattle.order_closure.specs.Tables.{AreInRange}
use Rattle.runs.specs.declared.status.Status.TheVariants.{Done}
use Rattle.order_answers.proofs.ask.deciding.decide.Goals as goal

-- if the table gives all orders of the relation, all always hold
pub proof_text-requires-clause-always : goal.proof_text-requires-clause-always
proof_text-requires-clause-always c =
    let net = c.args.net.now in
    let numbers = c.args.numbers in
    let atoms = atoms_of numbers.a numbers.rel numbers.b in
    let range : AreInRange (points net) atoms =
    All-from_recursion (IsInRange (points net)) atoms (atoms_in_range (intervals net) numbers.rel numbers.a numbers.b c.requires.intervals.0 c.requires.intervals.1) in
    all_hold net c.args.closure.now c.requires.closure atoms range (subst (λ (all : List Atom). IsFirstNotGiven c.args.closure.now all None) c.atoms_of.ensures c.in-None.ensures)

pub returns-in-None : goal.returns-in-None
returns-in-None c =
    IfOk-weaker c.proof_text.result _ (λ text. OfRelation c.args.numbers.a c.args.numbers.rel c.args.numbers.b c.args.net.now Done text.items) (λ text proof. inl proof) c.proof_text.ensures

pub returns-in-Some : goal.returns-in-Some
returns-in-Some c =
    let net = c.args.net.now in
    let table = c.args.closure.now in
    let numbers = c.args.numbers in
    let atoms = atoms_of numbers.a numbers.rel numbers.b in
    let range : AreInRange (points net) atoms =
    All-from_recursion (IsInRange (points net)) atoms (atoms_in_range (intervals net) numbers.rel numbers.a numbers.b c.requires.intervals.0 c.requires.intervals.1) in
    let first = subst (λ (all : List Atom). IsFirstNotGiven table all (Some c.in-Some.atom)) c.atoms_of.ensures c.in-Some.ensures in
    IfOk-weaker c.counterexample_text.result _ (λ text. OfRelation numbers.a numbers.rel numbers.b net Done text.items)
    (λ text is. inr (shows_counterexample net table numbers.a numbers.rel numbers.b c.in-Some.atom text.items c.requires.closure c.requires.intervals
    (first_open net table c.requires.closure atoms range c.in-Some.atom first) is))
    c.counterexample_text.ensures

pub first_not_given-requires : goal.first_not_given-requires
first_not_given-requires c =
    let net = c.args.net.now in
    let numbers = c.args.numbers in
    let atoms = atoms_of numbers.a numbers.rel numbers.b in
    let range : AreInRange (points net) atoms =
    All-from_recursion (IsInRange (points net)) atoms (atoms_in_range (intervals net) numbers.rel numbers.a numbers.b c.requires.intervals.0 c.requires.intervals.1) in
    subst (λ (n : ℕ). AreInRange n (atoms_in c.atoms_of.result)) (sym c.requires.closure.size) (subst (AreInRange (points net)) (sym c.atoms_of.ensures) range)
