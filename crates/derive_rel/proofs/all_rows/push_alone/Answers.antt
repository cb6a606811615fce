use Rattle.std.proofs.Common.{◌≡◌, ◌++◌, ◌∷◌, [], ◌≤◌, false, true, sym, subst, ◌∙◌}
use Rattle.std.proofs.lemmas.Result.{on_ok_weaker}
use Rattle.order_closure.specs.Cells.{order, strength}
use Rattle.order_closure.specs.declared.cell.Cell.{Cell}
use Rattle.derive_rel.specs.Entailed.{IsRow}
use Rattle.derive_rel.specs.Pushing.{ArePutLast, IsRowOf}
use Rattle.derive_rel.proofs.OneWay.{none_alone, one_alone}
use Rattle.derive_rel.proofs.all_rows.push_alone.Goals as goal

pub returns-then-gives : goal.returns-then-gives
returns-then-gives c =
    let table = c.args.closed.now in
    let row = c.args.row in
    let given = subst (λ (x : Cell). strength (order true) ≤ strength x) c.cell.ensures (c.gives.ensures.0 c.if-gives.true) in
    on_ok_weaker c.push.result (λ (is : c.push.new.self ≡ c.args.rows.now ++ row ∷ []).
    subst (ArePutLast (IsRow table) (IsRowOf row.a row.b) c.args.rows.now) (sym is)
    (one_alone table row.a row.b row.rel c.requires.alone c.args.rows.now c.requires.a c.requires.b (c.requires.order.0 given))) c.push.ensures.ok

pub returns : goal.returns
returns c =
    let table = c.args.closed.now in
    let row = c.args.row in
    none_alone table row.a row.b row.rel c.requires.alone c.args.rows.now (λ entails.
    let given = subst (λ (x : Cell). strength (order true) ≤ strength x) (sym c.cell.ensures) (c.requires.order.1 entails) in
    let both : false ≡ true = sym c.if-gives.false ∙ c.gives.ensures.1 given in
    cc)
