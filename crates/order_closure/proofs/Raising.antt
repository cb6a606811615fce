-- A table raised by an atom stays closed, and is kept by the timelines that kept it and of which the atom is true.
use Rattle.std.proofs.Common.{◌≡◌, ◌↔◌, ℕ, ◌<◌, ◌≤◌, Bool, true, false, refl, ap, ◌∙◌, arith, ◌⊎◌, inl, inr}
use Rattle.net_core.specs.Atoms.{IsInOrder, Satisfies}
use Rattle.net_core.specs.Relations.{Timeline}
use Rattle.net_core.specs.declared.atom.Atom.{Atom}
use Rattle.order_closure.specs.declared.cell.Cell.{Cell}
use Rattle.order_closure.specs.declared.cell.Cell.TheVariants.{Free, Weak, Strict}
use Rattle.order_closure.specs.Cells.{CellSays, strength, order, stronger, joined}
use Rattle.order_closure.specs.Tables.{AreClosed, AreCellsKept, way, Denies}
use Rattle.order_closure.proofs.Joining.{strength-stronger, joined_assoc, joined-mono, stronger_stays, back_is_weak}

-- the stronger of two cells is one of them
either : (x y : Cell) → (stronger x y ≡ x) ⊎ (stronger x y ≡ y)
either Free y = inr refl
either Weak Free = inl refl
either Weak Weak = inl refl
either Weak Strict = inr refl
either Strict y = inl refl

-- two raised cells are joined in four ways
joined_raised : (a p e q r : Cell) → strength (joined a e) ≤ strength r → strength (joined a q) ≤ strength r → strength (joined p e) ≤ strength r → strength (joined p q) ≤ strength r
    → strength (joined (stronger a p) (stronger e q)) ≤ strength r
joined_raised a p e q r ae aq pe pq = elim (either a p) [
  | inl x ↦ elim (either e q) [
    | inl y ↦ rw (x, y) ae
    | inr y ↦ rw (x, y) aq
  ]
  | inr x ↦ elim (either e q) [
    | inl y ↦ rw (x, y) pe
    | inr y ↦ rw (x, y) pq
  ]
]

-- a closed way over an order that is not denied is no stronger than Weak
round : (x y z : Cell) (o : Bool) → strength (joined y x) ≤ strength z → strength (joined z (order o)) ≤ 1 → strength (joined (joined x (order o)) y) ≤ 1
round Free y z o h k = omega arith
round Weak Free z true h k = omega arith
round Weak Free z false h k = omega arith
round Strict Free z true h k = omega arith
round Strict Free z false h k = omega arith
round Weak Weak z false h k = omega arith
round Weak Strict Strict false h k = absurd (omega arith)
round Weak y Weak true h k = absurd (omega arith)
round Weak y Strict true h k = absurd (omega arith)
round Strict y Strict true h k = absurd (omega arith)
round Strict y Strict false h k = absurd (omega arith)
round x y z o h k = absurd (omega arith)

pub left_weaker : (x y : Cell) → strength x ≤ strength (stronger x y)
left_weaker x y = rw strength-stronger (omega arith)

right_weaker : (x y : Cell) → strength y ≤ strength (stronger x y)
right_weaker x y = rw strength-stronger (omega arith)

pub trans : (x y z : Cell) → strength x ≤ strength y → strength y ≤ strength z → strength x ≤ strength z
trans x y z h k = omega arith

-- before a cell, what is no stronger than Weak adds nothing
pub back_adds_nothing : (z x : Cell) → strength z ≤ 1 → strength (joined z x) ≤ strength x
back_adds_nothing Free x h = omega arith
back_adds_nothing Weak x h = omega arith
back_adds_nothing Strict x h = absurd (omega arith)

-- what a cell says, the weaker ones say too
pub weaker_holds : (x y : Cell) (a b : ℕ) → strength x ≤ strength y → CellSays y a b → CellSays x a b
weaker_holds Free y a b le h = tt
weaker_holds Weak Weak a b le h = h
weaker_holds Weak Strict a b le h = omega arith
weaker_holds Strict Strict a b le h = h
weaker_holds x y a b le h = absurd (omega arith)

both_hold : (x y : Cell) (a b : ℕ) → CellSays x a b → CellSays y a b → CellSays (stronger x y) a b
both_hold x y a b h k = elim (either x y) [
  | inl e ↦ rw e h
  | inr e ↦ rw e k
]

joined_holds : (x y : Cell) (a b c : ℕ) → CellSays x a b → CellSays y b c → CellSays (joined x y) a c
joined_holds Free y a b c h k = tt
joined_holds Weak Free a b c h k = tt
joined_holds Weak Weak a b c h k = omega arith
joined_holds Weak Strict a b c h k = omega arith
joined_holds Strict Free a b c h k = tt
joined_holds Strict Weak a b c h k = omega arith
joined_holds Strict Strict a b c h k = omega arith

order_holds : (o : Bool) (a b : ℕ) → CellSays (order o) a b → IsInOrder o a b
order_holds true a b h = h
order_holds false a b h = h

holds_order : (o : Bool) (a b : ℕ) → IsInOrder o a b → CellSays (order o) a b
holds_order true a b h = h
holds_order false a b h = h

order_in : (x : Cell) (o : Bool) → strength (order o) ≤ strength (stronger x (joined (joined Weak (order o)) Weak))
order_in x true = rw strength-stronger (omega arith)
order_in x false = rw strength-stronger (omega arith)

-- a raised cell is true of a timeline that satisfies the atom and of which three cells are true: the cell itself, that to the atom and that from it
pub raised_says : (cell : ℕ → ℕ → Cell) (atom : Atom) (time : Timeline) (i j : ℕ) → CellSays (cell i j) (time i) (time j) → CellSays (cell i atom.from) (time i) (time atom.from) → CellSays (cell atom.to j) (time atom.to) (time j)
    → Satisfies time atom → CellSays (stronger (cell i j) (way cell atom i j)) (time i) (time j)
raised_says cell atom time i j here to from holds =
    both_hold (cell i j) (way cell atom i j) _ _ here (joined_holds (joined (cell i atom.from) (order atom.strict)) (cell atom.to j) (time i) (time atom.to) (time j)
    (joined_holds (cell i atom.from) (order atom.strict) (time i) (time atom.from) (time atom.to) to (holds_order atom.strict _ _ holds)) from)

-- and it says at least the order of the atom, at the atom
pub atom_raised : (cell : ℕ → ℕ → Cell) (atom : Atom) → cell atom.from atom.from ≡ Weak → cell atom.to atom.to ≡ Weak → strength (order atom.strict) ≤ strength (stronger (cell atom.from atom.to) (way cell atom atom.from atom.to))
atom_raised cell atom e k = rw (e, k) (order_in (cell atom.from atom.to) atom.strict)

module _ (n : ℕ) (cell : ℕ → ℕ → Cell) (atom : Atom) (closed : AreClosed n cell) (f : atom.from < n) (t : atom.to < n) (fits : ¬ Denies (cell atom.to atom.from) atom.strict) where
  -- a cell, and then the way
  before : (i j k : ℕ) → i < n → j < n → strength (joined (cell i j) (way cell atom j k)) ≤ strength (way cell atom i k)
  before i j k li lj =
      let o = order atom.strict in
      rw (← joined_assoc (cell i j) (joined (cell j atom.from) o) (cell atom.to k), ← joined_assoc (cell i j) (cell j atom.from) o)
      (joined-mono _ _ _ _ (joined-mono _ _ o o (closed.through i j atom.from li lj f) (omega arith)) (omega arith))

  -- the way, and then a cell
  after : (i j k : ℕ) → j < n → k < n → strength (joined (way cell atom i j) (cell j k)) ≤ strength (way cell atom i k)
  after i j k lj lk =
      let o = order atom.strict in
      rw (joined_assoc (joined (cell i atom.from) o) (cell atom.to j) (cell j k))
      (joined-mono (joined (cell i atom.from) o) (joined (cell i atom.from) o) _ _ (omega arith) (closed.through atom.to j k t lj lk))

  -- the way twice
  again : (i j k : ℕ) → j < n → strength (joined (way cell atom i j) (way cell atom j k)) ≤ strength (way cell atom i k)
  again i j k lj =
      let o = order atom.strict in
      let back : strength (joined (cell atom.to j) (way cell atom j k)) ≤ strength (cell atom.to k) = trans _ (way cell atom atom.to k) _ (before atom.to j k t lj)
      (back_adds_nothing (joined (cell atom.to atom.from) o) (cell atom.to k) (back_is_weak _ _ fits)) in
      rw (joined_assoc (joined (cell i atom.from) o) (cell atom.to j) (way cell atom j k))
      (joined-mono (joined (cell i atom.from) o) (joined (cell i atom.from) o) _ _ (omega arith) back)

  module _ (raised : ℕ → ℕ → Cell) (is : (i j : ℕ) → i < n → j < n → raised i j ≡ stronger (cell i j) (way cell atom i j)) where
    pub raised_closed : AreClosed n raised
    raised_closed = record {
      itself = λ i li. is i i li li ∙ ap (λ x. stronger x (way cell atom i i)) (closed.itself i li)
          ∙ stronger_stays Weak _ (round (cell i atom.from) (cell atom.to i) (cell atom.to atom.from) atom.strict (closed.through atom.to i atom.from t li f) (back_is_weak _ _ fits));
      through = λ i j k li lj lk.
          let w = way cell atom i k in
          let c = cell i k in
          let v = way cell atom i j in
          let u = way cell atom j k in
          rw (is i j li lj, is j k lj lk, is i k li lk) (joined_raised (cell i j) v (cell j k) u (stronger c w)
          (trans (joined (cell i j) (cell j k)) c (stronger c w) (closed.through i j k li lj lk) (left_weaker c w))
          (trans (joined (cell i j) u) w (stronger c w) (before i j k li lj) (right_weaker c w))
          (trans (joined v (cell j k)) w (stronger c w) (after i j k lj lk) (right_weaker c w))
          (trans (joined v u) w (stronger c w) (again i j k lj) (right_weaker c w)));
    }

    pub raised_kept : (time : Timeline) → AreCellsKept n raised time ↔ (AreCellsKept n cell time × Satisfies time atom)
    raised_kept time = (
      λ kept. (
        λ i j li lj. weaker_holds _ (raised i j) _ _ (rw (is i j li lj) (left_weaker _ _)) (kept i j li lj),
        order_holds atom.strict _ _ (weaker_holds (order atom.strict) (raised atom.from atom.to) _ _ (rw (is atom.from atom.to f t) (atom_raised cell atom (closed.itself atom.from f) (closed.itself atom.to t))) (kept atom.from atom.to f t)),
      ),
      λ both. λ i j li lj. rw (is i j li lj) (raised_says cell atom time i j (both.0 i j li lj) (both.0 i atom.from li f) (both.0 atom.to j t lj) both.1),
    )
