use Rattle.std.proofs.Common.{◌≡◌, ℕ, ◌+◌, ◌/◌, sym, subst, arith, List, [], length}
use Rattle.std.specs.Vec.{with_items}
use Rattle.std.proofs.lemmas.List.{with_items_is}
use Rattle.net_core.specs.Relations.{Timeline}
use Rattle.order_closure.specs.Planes.{AreClosedPlanes, plane_cell}
use Rattle.order_closure.specs.Tables.{Table, table_of, new_cell, Stands, Keeps}
use Rattle.order_closure.proofs.Tables.{table_of-same}
use Rattle.order_closure.proofs.Adding.{new_stands, new_all_kept}
use Rattle.order_closure.proofs.New.{new_cells, new_planes}
use Rattle.order_closure.proofs.table.Closed.new.Goals as goal
use Rattle.order_closure.proofs.table.Closed.new.Goals.{After-reflect}

module _ (c : After-reflect) where
  abbrev n : ℕ
  n = c.args.points

  abbrev w : ℕ
  w = c.div_ceil-width.result

  abbrev weak : List ℕ
  weak = c.reflect.new.plane

  abbrev strict : List ℕ
  strict = c.in_ok-strict.strict.items

  wide : w ≡ (n + 63) / 64
  wide = omega arith

  items : (with_items c.in_ok-weak.weak weak).items ≡ weak
  items = let same : length weak ≡ c.in_ok-weak.weak.len = omega arith in with_items_is c.in_ok-weak.weak weak same

  planes : (reached : List ℕ) → AreClosedPlanes n w (with_items c.in_ok-weak.weak weak).items strict reached
  planes reached = subst (λ (plane : List ℕ). AreClosedPlanes n w plane strict reached) (sym items)
      (new_planes n w weak strict c.reflect.ensures c.in_ok-strict.ensures.clear reached c.requires wide (omega (arith, c.in_ok-weak.ensures.long, c.in_ok-weak.weak.ok.0)) (omega (arith, c.in_ok-strict.ensures.long, c.in_ok-strict.strict.ok.0)))

  is_new : table_of n (plane_cell w (with_items c.in_ok-weak.weak weak).items strict) ≡ table_of n new_cell
  is_new = subst (λ (plane : List ℕ). table_of n (plane_cell w plane strict) ≡ table_of n new_cell) (sym items)
      (table_of-same n (plane_cell w weak strict) new_cell (new_cells n w weak strict c.reflect.ensures c.in_ok-strict.ensures.clear wide))

pub invariant_of-result : goal.invariant_of-result
invariant_of-result c = planes (goal.at.invariant_of-result c).After-reflect _

pub returns-clause-ok : goal.returns-clause-ok
returns-clause-ok c = is_new (goal.at.returns-clause-ok c).After-reflect

pub returns-clause-kept : goal.returns-clause-kept
returns-clause-kept c = subst (λ (u : Table). (t : Timeline) → Keeps u t) (sym (is_new (goal.at.returns-clause-kept c).After-reflect)) (new_all_kept c.args.points)

pub returns-clause-stands : goal.returns-clause-stands
returns-clause-stands c = subst (λ (t : Table). Stands t []) (sym (is_new (goal.at.returns-clause-stands c).After-reflect)) (new_stands c.args.points)
