use Rattle.std.proofs.Common.{◌≡◌, ℕ, ◌<◌, length, Some, true}
use Rattle.std.specs.List.{slice_get}
use Rattle.net_core.specs.Walks.{HasWalk, Kept}
use Rattle.net_core.specs.declared.atom.Atom.{Atom}
use Rattle.clash.proofs.ClosedWalks.{orders_of_link}
use Rattle.clash.proofs.closed_walk.closed_walk_over.Given as goal

-- no walk leads from where one of the orders so far begins to there again with a strict step
abbrev pub invariant-loop-number : goal.invariant-loop-number
invariant-loop-number l = record {
  end : l.number-end ≡ length (orders_of_link l.net l.link);
  none : (i : ℕ) (a : Atom) → i < l.number → slice_get (orders_of_link l.net l.link) i ≡ Some a → HasWalk l.net (Kept l.keep) a.from a.from true → ⊥;
}
