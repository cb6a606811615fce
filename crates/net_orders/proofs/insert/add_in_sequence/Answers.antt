use Rattle.std.proofs.Common.{◌<◌, ℕ, length, get_or, arith}
use Rattle.std.proofs.lemmas.List.Elements.{All-get_or}
use Rattle.std.proofs.lemmas.Result.{err_from_is_err_and}
use Rattle.net_core.specs.Atoms.{IsInRange, Satisfies}
use Rattle.order_closure.specs.Tables.{SatisfiesAll}
use Rattle.net_orders.proofs.LinkAtoms.{no_atom}
use Rattle.net_orders.proofs.Steps.{part_clashes, part_more}
use Rattle.net_orders.proofs.insert.add_in_sequence.Goals as goal

pub insert-requires : goal.insert-requires
insert-requires c =
    let number = get_or c.args.sequence.now c.loop-number.number-index 0 in
    let lt = All-get_or (λ (k : ℕ). k < length c.args.orders.now) c.args.sequence.now c.loop-number.number-index 0 c.loop-number-test.true c.requires.sequence in
    let both = All-get_or (IsInRange c.args.table.now.points) c.args.orders.now number no_atom lt c.requires.in_range in
    let size = c.loop-number.invariant.0 in
    record { from = omega (arith, both.0, size); to = omega (arith, both.1, size) }

pub loop-number-preserved : goal.loop-number-preserved
loop-number-preserved c =
    let orders = c.args.orders.now in
    let number = get_or c.args.sequence.now c.loop-number.number-index 0 in
    let lt = All-get_or (λ (k : ℕ). k < length orders) c.args.sequence.now c.loop-number.number-index 0 c.loop-number-test.true c.requires.sequence in
    part_more (SatisfiesAll orders) (λ t. Satisfies t (get_or orders number no_atom)) c.args.table.now c.loop-number.table c.insert.new.table
    (λ t all. All-get_or (Satisfies t) orders number no_atom lt all) c.loop-number.invariant c.in_ok-insert.ensures

pub returns-in_err-insert-clause-err : goal.returns-in_err-insert-clause-err
returns-in_err-insert-clause-err c =
    let orders = c.args.orders.now in
    let number = get_or c.args.sequence.now c.loop-number.number-index 0 in
    let lt = All-get_or (λ (k : ℕ). k < length orders) c.args.sequence.now c.loop-number.number-index 0 c.loop-number-test.true c.requires.sequence in
    let p = err_from_is_err_and c.from_residual.result c.from_residual.ensures.1 in
    rw p.1 (part_clashes (SatisfiesAll orders) (λ t. Satisfies t (get_or orders number no_atom)) c.args.table.now c.loop-number.table
    (λ t all. All-get_or (Satisfies t) orders number no_atom lt all) c.loop-number.invariant c.in_err-insert.ensures)
