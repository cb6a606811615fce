-- Laws of joined and stronger cells.
use Rattle.std.proofs.Common.{◌≡◌, ◌≤◌, max, Bool, true, false, refl, arith}
use Rattle.order_closure.specs.declared.cell.Cell.{Cell}
use Rattle.order_closure.specs.declared.cell.Cell.TheVariants.{Free, Weak, Strict}
use Rattle.order_closure.specs.Cells.{strength, order, stronger, joined}
use Rattle.order_closure.specs.Tables.{Denies}

-- the stronger of two cells has the greater strength
pub strength-stronger : (x y : Cell) → strength (stronger x y) ≡ max (strength x) (strength y)
strength-stronger Free Free = refl
strength-stronger Free Weak = refl
strength-stronger Free Strict = refl
strength-stronger Weak Free = refl
strength-stronger Weak Weak = refl
strength-stronger Weak Strict = refl
strength-stronger Strict Free = refl
strength-stronger Strict Weak = refl
strength-stronger Strict Strict = refl

-- of three orders, one after the other, any two may be joined first
pub joined_assoc : (x y z : Cell) → joined (joined x y) z ≡ joined x (joined y z)
joined_assoc Free y z = refl
joined_assoc Weak y z = refl
joined_assoc Strict Free z = refl
joined_assoc Strict Weak z = refl
joined_assoc Strict Strict Free = refl
joined_assoc Strict Strict Weak = refl
joined_assoc Strict Strict Strict = refl

-- what follows from stronger cells is stronger
pub joined-mono : (x x' y y' : Cell) → strength x ≤ strength x' → strength y ≤ strength y' → strength (joined x y) ≤ strength (joined x' y')
joined-mono Free x' y y' h k = omega arith
joined-mono Weak Weak y y' h k = k
joined-mono Weak Strict Free y' h k = omega arith
joined-mono Weak Strict Weak Weak h k = omega arith
joined-mono Weak Strict Weak Strict h k = omega arith
joined-mono Weak Strict Strict Strict h k = omega arith
joined-mono Strict Strict Free y' h k = omega arith
joined-mono Strict Strict Weak Weak h k = omega arith
joined-mono Strict Strict Weak Strict h k = omega arith
joined-mono Strict Strict Strict Strict h k = omega arith
joined-mono x x' y y' h k = absurd (omega arith)

-- what says no more adds nothing
pub stronger_stays : (x y : Cell) → strength y ≤ strength x → stronger x y ≡ x
stronger_stays Free Free h = refl
stronger_stays Weak Free h = refl
stronger_stays Weak Weak h = refl
stronger_stays Strict y h = refl
stronger_stays x y h = absurd (omega arith)

-- over a cell that does not deny the order, the way back over the order is no stronger than Weak
pub back_is_weak : (x : Cell) (o : Bool) → ¬ Denies x o → strength (joined x (order o)) ≤ 1
back_is_weak Free o h = omega arith
back_is_weak Weak true h = absurd (h tt)
back_is_weak Weak false h = omega arith
back_is_weak Strict o h = absurd (h tt)

-- what is joined with nothing gives nothing
pub joined_free : (x : Cell) → joined x Free ≡ Free
joined_free Free = refl
joined_free Weak = refl
joined_free Strict = refl

-- where the stronger of two cells says nothing, the first says nothing
pub first_free : (x y : Cell) → stronger x y ≡ Free → x ≡ Free
first_free Free y e = refl
first_free Weak Free e = e
first_free Weak Weak e = e
first_free Weak Strict e = let clash : Strict ≡ Free = e in cc
first_free Strict y e = e
