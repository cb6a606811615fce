-- A net has a closure that is a closed table exactly where some timeline fits, and all closures of it have the same cells.
use Rattle.std.proofs.Common.{◌≡◌, ◌↔◌, ℕ, true, refl, sym, subst}
use Rattle.net_core.specs.Fits.{EveryLink, Fits, FitsWith}
use Rattle.net_core.specs.Nets.{IsNet, PlainNet, points}
use Rattle.net_core.specs.Relations.{Timeline}
use Rattle.net_core.proofs.StepLaws.{fits_fewer}
use Rattle.order_closure.specs.Cells.{CellSays}
use Rattle.order_closure.specs.Tables.{AreCellsKept, IsClosed, Keeps, cell_at, table_of}
use Rattle.order_closure.specs.declared.cell.Cell.{Cell}
use Rattle.order_closure.specs.declared.cell.Cell.TheVariants.{Free, Strict, Weak}
use Rattle.order_closure.proofs.Tables.{cell_at-table_of, table_of-closed}
use Rattle.clash.specs.Closures.{HasOneClosure}
use Rattle.clash.proofs.Complete.{closed_cells}
use Rattle.clash.proofs.Exact.{closure_from, one_fits}

-- one of three cells is known by whether it is the strict one and whether it is the weak one
known_cell : (x y : Cell) → (x ≡ Strict) ↔ (y ≡ Strict) → (x ≡ Weak) ↔ (y ≡ Weak) → x ≡ y
known_cell Strict y strict weak = sym (strict.0 refl)
known_cell Weak y strict weak = sym (weak.0 refl)
known_cell Free Strict strict weak = strict.1 refl
known_cell Free Weak strict weak = weak.1 refl
known_cell Free Free strict weak = refl

-- cells that are kept alike are those of a table that is
module _ (n : ℕ) (cell : ℕ → ℕ → Cell) (t : Timeline) where
  table_kept : Keeps (table_of n cell) t ↔ AreCellsKept n cell t
  table_kept = (
    λ kept i j li lj. subst (λ c. CellSays c (t i) (t j)) (cell_at-table_of n cell i j li lj) (kept i j li lj),
    λ kept i j li lj. subst (λ c. CellSays c (t i) (t j)) (sym (cell_at-table_of n cell i j li lj)) (kept i j li lj),
  )

pub one_closure : (net : PlainNet) → IsNet net → HasOneClosure net
one_closure net is = record {
  some = λ fits.
      let every = λ (u : Timeline) (f : Fits net u). fits_fewer net EveryLink (λ k. true ≡ true) u (λ k lt chosen. tt) f in
      let back = λ (u : Timeline) (f : FitsWith net (λ k. true ≡ true) u). fits_fewer net (λ k. true ≡ true) EveryLink u (λ k lt chosen. refl) f in
      let (cell, closed, kept) = closed_cells net (λ k. true) is fits.0 (every fits.0 fits.1) in
      let table = table_of (points net) cell in
      let table_closed : IsClosed table = table_of-closed (points net) cell closed in (
        table,
        table_closed,
        closure_from net table table_closed refl (λ t. (
          λ keeps. back t ((kept t).0 ((table_kept (points net) cell t).0 keeps)),
          λ f. (table_kept (points net) cell t).1 ((kept t).1 (every t f)),
        )),
      );
  fits = λ table closed closure. one_fits net table closed closure.size closure.keeps;
  one = λ table other h k p q lp lq.
      let hs = h.strict p q lp lq in
      let ks = k.strict p q lp lq in
      let hw = h.weak p q lp lq in
      let kw = k.weak p q lp lq in
      known_cell (cell_at table p q) (cell_at other p q)
      (λ e. ks.1 (hs.0 e), λ e. hs.1 (ks.0 e)) (λ e. kw.1 (hw.0 e), λ e. hw.1 (kw.0 e));
}
