-- Where a cell is weaker than an atom, some timeline keeps every cell and makes the atom false. So the cells of a closed table are what its timelines have in common.
use Rattle.std.proofs.Common.{◌≡◌, ◌↔◌, ℕ, ◌<◌, ◌≤◌, Bool, true, false, List, length, get_or, refl, ap, subst, ◌∙◌, arith, inl, inr, [], ◌∷◌, ◌++◌}
use Rattle.std.specs.List.{All}
use Rattle.std.proofs.Common.{length-append, ◌-◌}
use Rattle.std.proofs.lemmas.List.{get_or_append_left, get_or-append_right}
use Rattle.std.proofs.lemmas.Bool.{cases_lt}
use Rattle.std.proofs.lemmas.List.Elements.{All-push}
use Rattle.net_core.specs.declared.atom.Atom.{Atom}
use Rattle.order_closure.specs.declared.cell.Cell.{Cell}
use Rattle.order_closure.specs.declared.cell.Cell.TheVariants.{Free, Weak, Strict}
use Rattle.net_core.specs.Atoms.{IsInOrder, Satisfies}
use Rattle.net_core.specs.Relations.{Timeline}
use Rattle.order_closure.specs.Cells.{strength, order, stronger, CellSays}
use Rattle.order_closure.specs.Tables.{Table, cell_at, Denies, IsClosed, Keeps, SatisfiesAll, AreInRange, Entails, Stands, AreClosed, AreCellsKept, way}
use Rattle.order_closure.specs.Counting.{before_count}
use Rattle.order_closure.specs.Timelines.{ClosedTablesHaveTimelines, opposite, WeakerCellsCanFail}
use Rattle.order_closure.proofs.Raising.{raised_closed, raised_kept}
use Rattle.order_closure.proofs.Ranking.{counts_kept, opposite_fits, not_both, strict_from, strict_says}

module _ (n : ℕ) (cell : ℕ → ℕ → Cell) (closed : AreClosed n cell) where
  -- a timeline that keeps every cell and makes an atom false
  pub counter_time : (atom : Atom) → atom.from < n → atom.to < n → strength (cell atom.from atom.to) < strength (order atom.strict) → (t : Timeline) × AreCellsKept n cell t × ¬ Satisfies t atom
  counter_time atom lf lt weak =
      let raised = λ (i j : ℕ). stronger (cell i j) (way cell (opposite atom) i j) in
      let fits = opposite_fits (cell atom.from atom.to) atom.strict weak in
      let still = raised_closed n cell (opposite atom) closed lt lf fits raised (λ i j li lj. refl) in
      let t = before_count n raised in
      let both = (raised_kept n cell (opposite atom) closed lt lf fits raised (λ i j li lj. refl) t).0 (counts_kept n raised still) in
      (t, both.0, not_both atom.strict _ _ both.1)

  -- an order that every timeline has stands in the table
  pub always_stands : (strict : Bool) (i j : ℕ) → i < n → j < n → ((t : Timeline) → AreCellsKept n cell t → IsInOrder strict (t i) (t j)) → strength (order strict) ≤ strength (cell i j)
  always_stands strict i j li lj always = elim (cases_lt (strength (cell i j)) (strength (order strict))) [
    | inl weak ↦ let c = counter_time (record { from = i; to = j; strict = strict }) li lj weak in absurd (c.2 (always c.0 c.1))
    | inr h ↦ h
  ]

-- the same, of a table
pub weaker_cells_can_fail : WeakerCellsCanFail
weaker_cells_can_fail table atom closed f t weak = counter_time table.points (cell_at table) closed atom f t weak

-- a denied atom is false where the cell is kept
pub denied_false : (x : Cell) (strict : Bool) (a b : ℕ) → Denies x strict → CellSays x b a → IsInOrder strict a b → ⊥
denied_false Free strict a b d said holds = d
denied_false Weak true a b d said holds = omega arith
denied_false Weak false a b d said holds = d
denied_false Strict true a b d said holds = omega arith
denied_false Strict false a b d said holds = omega arith

-- a cell denies an atom or not
pub denies_or_not : (x : Cell) (strict : Bool) → Dec (Denies x strict)
denies_or_not Strict strict = yes tt
denies_or_not Weak true = yes tt
denies_or_not Weak false = no (λ d. d)
denies_or_not Free strict = no (λ d. d)

-- some timeline keeps a closed table, and some makes an atom true that is not denied
pub closed_tables_have_timelines : ClosedTablesHaveTimelines
closed_tables_have_timelines = λ table closed.
    let n = table.points in
    let cell = cell_at table in
    record {
      some = (before_count n cell, counts_kept n cell closed);
      denies = λ atom lf lt. (
        λ denied t kept holds. denied_false (cell atom.to atom.from) atom.strict (t atom.from) (t atom.to) denied (kept atom.to atom.from lt lf) holds,
        λ never. elim (denies_or_not (cell atom.to atom.from) atom.strict) [
          | yes denied ↦ denied
          | no fits ↦
              let raised = λ (i j : ℕ). stronger (cell i j) (way cell atom i j) in
              let still = raised_closed n cell atom closed lf lt fits raised (λ i j li lj. refl) in
              let both = (raised_kept n cell atom closed lf lt fits raised (λ i j li lj. refl) (before_count n raised)).0 (counts_kept n raised still) in
              absurd (never (before_count n raised) both.0 both.1)
        ],
      );
    }

-- a cell that says something and is not Strict
pub weak_is : (x : Cell) → 1 ≤ strength x → ¬ (x ≡ Strict) → x ≡ Weak
weak_is Free h other = absurd (omega arith)
weak_is Weak h other = refl
weak_is Strict h other = absurd (other refl)

-- what a cell says at least
weak_says : (x : Cell) (a b : ℕ) → 1 ≤ strength x → CellSays x a b → a ≤ b
weak_says Free a b e h = absurd (omega arith)
weak_says Weak a b e h = h
weak_says Strict a b e h = omega arith

-- Weak is less than Strict
weak_not_strict : (x : Cell) → x ≡ Weak → 2 ≤ strength x → ⊥
weak_not_strict Free e h = omega arith
weak_not_strict Weak e h = omega arith
weak_not_strict Strict e h = cc

-- the timelines that keep the cells are those that satisfy the atoms
abbrev pub Matches : Table → List Atom → Type 0
Matches table atoms = (t : Timeline) → Keeps table t ↔ SatisfiesAll atoms t

-- a closed table that is kept by these timelines stands for the atoms
pub stands_from_matches : (table : Table) (atoms : List Atom) → IsClosed table → Matches table atoms → Stands table atoms
stands_from_matches table atoms closed same = record {
  strict = λ i j li lj. (
    λ e t sat. strict_says (cell_at table i j) _ _ e ((same t).1 sat i j li lj),
    λ always. strict_from _ (always_stands table.points (cell_at table) closed true i j li lj (λ t kept. always t ((same t).0 kept))),
  );
  weak = λ i j li lj. (
    λ e. (
      λ t sat. weak_says (cell_at table i j) _ _ (rw e (omega arith)) ((same t).1 sat i j li lj),
      λ always. weak_not_strict (cell_at table i j) e (always_stands table.points (cell_at table) closed true i j li lj (λ t kept. always t ((same t).0 kept))),
    ),
    λ both. weak_is (cell_at table i j) (always_stands table.points (cell_at table) closed false i j li lj (λ t kept. both.0 t ((same t).0 kept)))
        (λ e. both.1 (λ t sat. strict_says (cell_at table i j) _ _ e ((same t).1 sat i j li lj))),
  );
}

-- a cell at least as strong as an order says that order
pub order_says : (x : Cell) (o : Bool) (a b : ℕ) → strength (order o) ≤ strength x → CellSays x a b → IsInOrder o a b
order_says Free true a b h k = absurd (omega arith)
order_says Free false a b h k = absurd (omega arith)
order_says Weak true a b h k = absurd (omega arith)
order_says Weak false a b h k = k
order_says Strict true a b h k = k
order_says Strict false a b h k = omega arith

-- what a cell says, from what it says in both cases
pub says_of : (x : Cell) (a b : ℕ) → (x ≡ Strict → a < b) → (x ≡ Weak → a ≤ b) → CellSays x a b
says_of Free a b s w = tt
says_of Weak a b s w = w refl
says_of Strict a b s w = s refl

-- a cell that is known by what it entails, where the weak order is entailed
pub at_least_weak : (x : Cell) (P Q : Type 0) → ((x ≡ Strict) ↔ P) → ((x ≡ Weak) ↔ (Q × ¬ P)) → Q → 1 ≤ strength x
at_least_weak Free P Q s w q = let e = w.1 (q, λ p. let f = s.1 p in cc) in cc
at_least_weak Weak P Q s w q = omega arith
at_least_weak Strict P Q s w q = omega arith

-- an order that is entailed stands in the table
order_stands : (table : Table) (atoms : List Atom) → Stands table atoms → (o : Bool) (i j : ℕ) → i < table.points → j < table.points → Entails atoms o i j → strength (order o) ≤ strength (cell_at table i j)
order_stands table atoms stands true i j li lj always = rw ((stands.strict i j li lj).1 always) (omega arith)
order_stands table atoms stands false i j li lj always = at_least_weak _ _ _ (stands.strict i j li lj) (stands.weak i j li lj) always

-- and the other way round
pub matches_from_stands : (table : Table) (atoms : List Atom) → AreInRange table.points atoms → Stands table atoms → Matches table atoms
matches_from_stands table atoms inside stands t = (
  λ kept k d lt.
      let a = get_or atoms k d in
      let at = inside k d lt in
      let always : Entails atoms a.strict a.from a.to = λ u sat. sat k d lt in
      order_says (cell_at table a.from a.to) a.strict _ _ (order_stands table atoms stands a.strict a.from a.to at.0 at.1 always) (kept a.from a.to at.0 at.1),
  λ sat i j li lj. says_of (cell_at table i j) _ _ (λ e. (stands.strict i j li lj).0 e t sat) (λ e. ((stands.weak i j li lj).0 e).0 t sat),
)

-- what holds of each of a list and one more, holds of each of the list
pub All-prefix : {X : Type 0} (P : X → Type 0) (xs : List X) (x : X) → All P (xs ++ x ∷ []) → All P xs
All-prefix P xs x h k d lt = subst P (get_or_append_left xs (x ∷ []) d k lt) (h k d (omega (arith, length-append xs (x ∷ []))))

-- what holds of each of a list and one more, holds of the last
pub All-last : {X : Type 0} (P : X → Type 0) (xs : List X) (x : X) → All P (xs ++ x ∷ []) → P x
All-last P xs x h = subst P (get_or-append_right xs (x ∷ []) (length xs) (length xs) x refl (omega arith) ∙ ap (λ i. get_or (x ∷ []) i x) (let e : length xs - length xs ≡ 0 = omega arith in e)) (h (length xs) x (omega (arith, length-append xs (x ∷ []))))

-- one atom more
pub more_atoms : (table new : Table) (atoms : List Atom) (atom : Atom) → ((t : Timeline) → Keeps new t ↔ (Keeps table t × Satisfies t atom)) → Matches table atoms → Matches new (atoms ++ atom ∷ [])
more_atoms table new atoms atom kept same t =
    let old = same t in (
      λ h. let both = (kept t).0 h in All-push (Satisfies t) atoms atom (old.0 both.0) both.1,
      λ h. (kept t).1 (old.1 (All-prefix (Satisfies t) atoms atom h), All-last (Satisfies t) atoms atom h),
    )
