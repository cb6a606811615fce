-- The row of the points that others reach, after an atom was added.
use Rattle.std.proofs.Common.{◌≡◌, ℕ, ◌*◌, ◌<◌, ◌≤◌, List, ap, sym, ◌∙◌, arith}
use Rattle.std.specs.Prelude.{◌==◌}
use Rattle.net_core.specs.declared.atom.Atom.{Atom}
use Rattle.order_closure.specs.declared.cell.Cell.{Cell}
use Rattle.order_closure.specs.declared.cell.Cell.TheVariants.{Free}
use Rattle.order_closure.specs.Bits.{bit_of}
use Rattle.order_closure.specs.Cells.{joined, order, stronger}
use Rattle.order_closure.specs.Planes.{BeginWithRow, IsRowJoined, MarksReached, cell_if, plane_bit, plane_cell}
use Rattle.order_closure.specs.Tables.{way}
use Rattle.order_closure.proofs.Bits.{row_bit}
use Rattle.order_closure.proofs.Joining.{first_free, joined_free}

-- where the weak bit is not set, the cell is Free
unset_is_free : (w : ℕ) (weak strict : List ℕ) (i j : ℕ) → plane_bit w weak i j ≡ 0 → plane_cell w weak strict i j ≡ Free
unset_is_free w weak strict i j e = ap (λ b. cell_if (b == 1) (plane_bit w strict i j == 1)) e

-- what is raised reaches what was reached, and what the point does that the atom leads to
module _ (n w : ℕ) (wide : n ≤ 64 * w) (cell : ℕ → ℕ → Cell) (atom : Atom) (to : atom.to < n) (weak strict : List ℕ)
    (is : (i j : ℕ) → i < n → j < n → plane_cell w weak strict i j ≡ stronger (cell i j) (way cell atom i j)) where
  -- where the raised row of that point has no bit, its row had none
  over_free : (over : List ℕ) → BeginWithRow w atom.to weak over → (j : ℕ) → j < n → bit_of over j ≡ 0 → cell atom.to j ≡ Free
  over_free over words j lj none =
      first_free (cell atom.to j) (way cell atom atom.to j)
      (sym (is atom.to j to lj) ∙ unset_is_free w weak strict atom.to j (sym (row_bit w atom.to weak over words j (omega arith)) ∙ none))

  pub raised_marked : (old over reached : List ℕ) → BeginWithRow w atom.to weak over → MarksReached n w cell old → IsRowJoined w 0 over old reached
      → MarksReached n w (plane_cell w weak strict) reached
  raised_marked old over reached words marks row i j li lj differ none =
      let both = row.joined j (omega arith) in
      let before : cell i j ≡ Free = marks i j li lj differ (omega arith) in
      let later : cell atom.to j ≡ Free = over_free over words j lj (omega arith) in
      is i j li lj
      ∙ (λ k. stronger (before k) (joined (joined (cell i atom.from) (order atom.strict)) (later k)))
      ∙ joined_free (joined (cell i atom.from) (order atom.strict))
