use Rattle.std.proofs.Common.{◌≡◌, ◌<◌, ℕ, Err, Ok, length, get_or, subst, arith}
use Rattle.std.proofs.lemmas.List.Elements.{All-get_or}
use Rattle.std.proofs.lemmas.Result.{err_from_is_err_and}
use Rattle.net_core.specs.Atoms.{IsInRange, Satisfies}
use Rattle.net_core.specs.Relations.{Timeline}
use Rattle.order_closure.specs.Tables.{SatisfiesAll}
use Rattle.net_orders.specs.Steps.{AddsToTable}
use Rattle.net_orders.proofs.LinkAtoms.{no_atom}
use Rattle.net_orders.proofs.Steps.{Below, adds_more, all_below, answer_same, clashes_more}
use Rattle.net_orders.proofs.insert.add_orders.Goals as goal

pub insert-requires : goal.insert-requires
insert-requires c =
    let size = c.loop-order.invariant.0 in
    let within : c.loop-order.order-index < length c.args.orders.now = omega (arith, c.loop-order-test.true) in
    let both = All-get_or (IsInRange c.args.table.now.points) c.args.orders.now c.loop-order.order-index no_atom within c.requires in
    record { from = omega (arith, both.0, size); to = omega (arith, both.1, size) }

pub returns-in_err-insert : goal.returns-in_err-insert
returns-in_err-insert c =
    let orders = c.args.orders.now in
    let each = λ (k : ℕ) (t : Timeline). Satisfies t (get_or orders k no_atom) in
    let p = err_from_is_err_and c.from_residual.result c.from_residual.ensures.1 in
    rw p.1 (answer_same (Below each (length orders)) (SatisfiesAll orders) (all_below (λ atom t. Satisfies t atom) orders no_atom)
    c.args.table.now c.insert.new.table (Err c.in_err-insert.field-0.0)
    (clashes_more each c.loop-order.order-index (length orders) c.args.table.now c.loop-order.table c.insert.new.table c.insert.new.table _
    (omega (arith, c.loop-order-test.true)) c.loop-order.invariant c.in_err-insert.ensures))

pub loop-order-preserved : goal.loop-order-preserved
loop-order-preserved c =
    adds_more (λ k t. Satisfies t (get_or c.args.orders.now k no_atom)) c.loop-order.order-index c.args.table.now c.loop-order.table c.insert.new.table
    c.loop-order.invariant c.in_ok-insert.ensures

pub returns : goal.returns
returns c =
    let orders = c.args.orders.now in
    let each = λ (k : ℕ) (t : Timeline). Satisfies t (get_or orders k no_atom) in
    let end : c.loop-order.order-index ≡ length orders = omega arith in
    answer_same (Below each (length orders)) (SatisfiesAll orders) (all_below (λ atom t. Satisfies t atom) orders no_atom)
    c.args.table.now c.loop-order.table (Ok tt) (subst (λ (n : ℕ). AddsToTable (Below each n) c.args.table.now c.loop-order.table) end c.loop-order.invariant)
