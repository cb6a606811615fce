-- It is decided whether seconds are in order, and whether lines go on.
use Rattle.std.proofs.Common.{◌≡◌, ◌↔◌, ℕ, Bool, true, false, ℤ, ◌≤ℤ◌, int_le, int_lt, List, [], ◌∷◌, Option, Some, None, refl, sym, subst, ◌∙◌, arith}
use Rattle.std.specs.Prelude.{IfSome}
use Rattle.std.specs.List.{AllByRecursion}
use Rattle.std.proofs.lemmas.Int.{ints}
use Rattle.std.proofs.lemmas.Option.{same_Some}
use mathlib.Core.Logic.Dec
use native.Mathlib.Decide.{ℕ_discrete}
use Rattle.named.proofs.Deciding.{by_test}
use Rattle.net_core.specs.Atoms.{atoms_of}
use Rattle.net_core.specs.declared.atom.Atom.{Atom}
use Rattle.net_core.specs.declared.net.NetLink.{NetLink}
use Rattle.seconds_core.specs.declared.line.Constraint.{Constraint}
use Rattle.seconds_core.specs.declared.line.Line.{Line}
use Rattle.seconds_core.specs.Constraints.{constraint_of}
use Rattle.seconds_core.specs.Cycles.{LeadFromTo}
use Rattle.seconds_core.specs.Orders.{AreSecondsInOrder, KeepsOrder}
use Rattle.seconds_core.specs.Placed.{IsBetween, KeepsLinkInSeconds, second_at}
use Rattle.seconds_core.specs.Timed.{PlainTimed}
use Rattle.seconds_core.proofs.Relations.{relation_by_orders}
use Rattle.seconds_check.specs.Refusals.{LinesGoFrom, LinesGoOn}
use Rattle.seconds_check.proofs.Joined.{start_is}

-- ---- seconds

pub in_order : (strict : Bool) (m n : ℤ) → Dec (AreSecondsInOrder strict m n)
in_order true m n = by_test (int_lt m n) (λ e. grind (arith, ints, e), λ less. grind (arith, ints, less))
in_order false m n = by_test (int_le m n) (λ e. grind (arith, ints, e), λ le. grind (arith, ints, le))

all_kept : (seconds : List ℤ) (atoms : List Atom) → Dec (AllByRecursion (KeepsOrder seconds) atoms)
all_kept seconds [] = yes tt
all_kept seconds (atom ∷ atoms) = Dec.and (in_order atom.strict (second_at seconds atom.from) (second_at seconds atom.to)) (all_kept seconds atoms)

pub keeps_link : (seconds : List ℤ) (link : NetLink) → Dec (KeepsLinkInSeconds seconds link)
keeps_link seconds link =
    let relation = relation_by_orders seconds link in
    elim (all_kept seconds (atoms_of link.a link.rel link.b)) [
      | yes kept ↦ yes (relation.1 kept)
      | no broken ↦ no (λ keeps. broken (relation.0 keeps))
    ]

where_there : (P : ℤ → Type 0) (o : Option ℤ) → ((m : ℤ) → Dec (P m)) → Dec (IfSome o P)
where_there P (Some m) decided = decided m
where_there P None decided = yes tt

pub between : (low high : Option ℤ) (n : ℤ) → Dec (IsBetween low high n)
between low high n = Dec.and (where_there (λ m. m ≤ℤ n) low (λ m. in_order false m n)) (where_there (λ m. n ≤ℤ m) high (λ m. in_order false n m))

-- ---- lines

module _ (timed : PlainTimed) where
  -- lines go on from a point where the first one begins there, and the others go on from where it leads
  by_first : (line : Line) (rest : List Line) (c : Constraint) (x : ℕ) → constraint_of timed line ≡ Some c → ((c.from ≡ x) × LinesGoFrom timed c.to rest) ↔ LinesGoFrom timed x (line ∷ rest)
  by_first line rest c x named = (λ both. (both.1.0, (c, named, both.0, both.1.1)), back)
    where
      back : LinesGoFrom timed x (line ∷ rest) → (c.from ≡ x) × LinesGoFrom timed c.to rest
      back goes =
          let same : goes.1.0 ≡ c = same_Some _ _ (sym goes.1.1 ∙ named) in
          (start_is timed line rest x goes.0 c goes.1 named, (goes.0, subst (λ (d : Constraint). LeadFromTo timed rest d.to goes.0) same goes.1.3))

  -- whether lines go on from a point
  go_from : (x : ℕ) (lines : List Line) → Dec (LinesGoFrom timed x lines)
  go_from x [] = yes (x, refl)
  go_from x (line ∷ rest) = by_constraint (constraint_of timed line) refl (λ c. go_from c.to rest)
    where
      by_constraint : (o : Option Constraint) → constraint_of timed line ≡ o → ((c : Constraint) → Dec (LinesGoFrom timed c.to rest)) → Dec (LinesGoFrom timed x (line ∷ rest))
      by_constraint (Some c) named more = Dec.of_iff (by_first line rest c x named) (Dec.and (ℕ_discrete c.from x) (more c))
      by_constraint None none more = no (λ goes. let is = goes.1.1 in cc)

  -- lines that go on from any point do so from where the first one begins
  pub go_on : (lines : List Line) → Dec (LinesGoOn timed lines)
  go_on [] = yes (0, (0, refl))
  go_on (line ∷ rest) = by_constraint (constraint_of timed line) refl
    where
      by_constraint : (o : Option Constraint) → constraint_of timed line ≡ o → Dec (LinesGoOn timed (line ∷ rest))
      by_constraint (Some c) named =
          Dec.of_iff (λ goes. (c.from, goes), λ on. subst (λ (x : ℕ). LinesGoFrom timed x (line ∷ rest)) (sym (start_is timed line rest on.0 on.1.0 c on.1.1 named)) on.1) (go_from c.from (line ∷ rest))
      by_constraint None none = no (λ on. let is = on.1.1.1 in cc)
