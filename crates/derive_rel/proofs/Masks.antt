-- A relation is entailed where the bits of its orders are among those that are given.
use Rattle.std.proofs.Common.{◌≡◌, ◌↔◌, ℕ, ◌==◌, true}
use Rattle.std.specs.Prelude.{bit_and}
use Rattle.std.proofs.lemmas.Bool.{eqb-true, eq-eqb}
use Rattle.std.proofs.lemmas.List.Elements.{All-from_recursion, recursion_from_All}
use Rattle.named.proofs.Lists.{each_weaker}
use Rattle.net_core.specs.Atoms.{atom_between, atoms_of, orders_of, points_of}
use Rattle.net_core.specs.declared.atom.PairOrder.{PairOrder}
use Rattle.net_core.specs.declared.rels.Rel.{Rel}
use Rattle.net_core.proofs.AtomLaws.{all_mapped}
use Rattle.order_closure.specs.Between.{AreGiven, mask_of}
use Rattle.order_closure.specs.Tables.{GivesAtom, Table}
use Rattle.order_closure.proofs.Masks.{HasBit, mask_in}
use Rattle.derive_rel.specs.Entailed.{TableEntails}

-- the bits of a relation are among those that are given exactly where the table entails it
pub mask_entails : (table : Table) (a b set : ℕ) (r : Rel) → AreGiven table a b set → ((bit_and set (mask_of (orders_of r)) == mask_of (orders_of r)) ≡ true) ↔ TableEntails table a r b
mask_entails table a b set r given =
    let orders = orders_of r in
    let mask = mask_of orders in
    let between = atom_between (points_of a) (points_of b) in
    let GivesOrder : PairOrder → Type 0 = λ order. GivesAtom table (between order) in
    let mapped = all_mapped (GivesAtom table) between orders in (
      λ e. All-from_recursion (GivesAtom table) (atoms_of a r b) (mapped.0 (each_weaker (HasBit set) GivesOrder (λ order. (given order).0) orders ((mask_in set orders).0 (eqb-true (bit_and set mask) mask e)))),
      λ h. eq-eqb (bit_and set mask) mask ((mask_in set orders).1 (each_weaker GivesOrder (HasBit set) (λ order. (given order).1) orders (mapped.1 (recursion_from_All (GivesAtom table) (atoms_of a r b) h)))),
    )
