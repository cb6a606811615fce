-- What is added to a table, step by step.
use Rattle.std.proofs.Common.{◌↔◌, ℕ, ◌<◌, ◌+◌, List, length, get_or, Result, Ok, Err, subst, ◌∙◌, ◌≡◌, arith, below_more}
use Rattle.std.specs.List.{All}
use Rattle.std.proofs.lemmas.List.Elements.{All-from_get_or, All-get_or}
use Rattle.net_core.specs.Atoms.{Satisfies}
use Rattle.net_core.specs.Relations.{Timeline}
use Rattle.net_core.specs.declared.atom.Atom.{Atom}
use Rattle.order_closure.specs.Tables.{Table}
use Rattle.order_closure.specs.declared.table.WouldClash.{WouldClash}
use Rattle.net_orders.specs.Steps.{AddsToTable, AddsOrClashes, AddsPart, Excludes}

-- something is true of all numbers below k
abbrev pub Below : (ℕ → Timeline → Type 0) → ℕ → Timeline → Type 0
Below IsTrue k t = (j : ℕ) → j < k → IsTrue j t

-- one thing more
pub adds_more : (IsTrue : ℕ → Timeline → Type 0) (k : ℕ) (start now next : Table)
    → AddsToTable (Below IsTrue k) start now → AddsToTable (IsTrue k) now next → AddsToTable (Below IsTrue (k + 1)) start next
adds_more IsTrue k start now next so_far this = (
  this.0 ∙ so_far.0,
  λ t. (
    λ kept. let one = (this.1 t).0 kept in let all = (so_far.1 t).0 one.0 in (all.0, below_more (λ j. IsTrue j t) k all.1 one.1),
    λ both. (this.1 t).1 ((so_far.1 t).1 (both.0, λ j lt. both.1 j (omega arith)), both.1 k (omega arith)),
  ),
)

-- one thing more clashes, and so do all
pub clashes_more : (IsTrue : ℕ → Timeline → Type 0) (k n : ℕ) (start now next last : Table) (fault : WouldClash) → k < n
    → AddsToTable (Below IsTrue k) start now → AddsOrClashes (IsTrue k) now next (Err fault) → AddsOrClashes (Below IsTrue n) start last (Err fault)
clashes_more IsTrue k n start now next last fault lt so_far none =
    λ t kept all. none t ((so_far.1 t).1 (kept, λ j less. all j (omega arith))) (all k lt)

-- the same of something that is true where it is
pub answer_same : (P Q : Timeline → Type 0) → ((t : Timeline) → P t ↔ Q t) → (start last : Table) (result : Result Unit WouldClash)
    → AddsOrClashes P start last result → AddsOrClashes Q start last result
answer_same P Q same start last (Ok done) adds =
    (adds.0, λ t. (λ kept. let both = (adds.1 t).0 kept in (both.0, (same t).0 both.1), λ both. (adds.1 t).1 (both.0, (same t).1 both.1)))
answer_same P Q same start last (Err fault) none = λ t kept holds. none t kept ((same t).1 holds)

-- the same where an atom is equal to another
pub atom_same : (atom other : Atom) (start last : Table) (result : Result Unit WouldClash) → atom ≡ other
    → AddsOrClashes (λ t. Satisfies t atom) start last result → AddsOrClashes (λ t. Satisfies t other) start last result
atom_same atom other start last result same answer = subst (λ (a : Atom). AddsOrClashes (λ t. Satisfies t a) start last result) same answer

-- something is true of all items of a list
pub all_below : {X : Type 0} (IsTrue : X → Timeline → Type 0) (xs : List X) (default : X) (t : Timeline)
    → Below (λ k. IsTrue (get_or xs k default)) (length xs) t ↔ All (λ x. IsTrue x t) xs
all_below IsTrue xs default t = (
  λ below. All-from_get_or (λ x. IsTrue x t) xs default below,
  λ all. λ k lt. All-get_or (λ x. IsTrue x t) xs k default lt all,
)

-- a part of something more is added
pub part_more : (IsTrue One : Timeline → Type 0) (start now next : Table) → ((t : Timeline) → IsTrue t → One t) → AddsPart IsTrue start now → AddsToTable One now next → AddsPart IsTrue start next
part_more IsTrue One start now next part so_far this = (
  this.0 ∙ so_far.0,
  λ t. (
    λ kept. (so_far.1 t).0 ((this.1 t).0 kept).0,
    λ kept holds. (this.1 t).1 ((so_far.1 t).1 kept holds, part t holds),
  ),
)

-- a part of something more clashes, and so does all of it
pub part_clashes : (IsTrue One : Timeline → Type 0) (start now : Table) → ((t : Timeline) → IsTrue t → One t) → AddsPart IsTrue start now → Excludes One now → Excludes IsTrue start
part_clashes IsTrue One start now part so_far none = λ t kept holds. none t ((so_far.1 t).1 kept holds) (part t holds)
