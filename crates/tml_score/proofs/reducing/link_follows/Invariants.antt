use Rattle.std.proofs.Common.{◌≡◌, ℕ, ◌<◌, get_or, length}
use Rattle.net_core.specs.Atoms.{Satisfies, atoms_in}
use Rattle.net_core.specs.Clashes.{Others}
use Rattle.net_core.specs.Fits.{FitsWith}
use Rattle.net_core.specs.Relations.{Timeline}
use Rattle.net_core.specs.Walks.{Kept}
use Rattle.net_core.specs.declared.atom.Atom.{Atom}
use Rattle.tml_score.specs.Search.{HaveRoom, basis_of}
use Rattle.tml_score.specs.Trees.{AreTrees}
use Rattle.tml_score.proofs.reducing.link_follows.Given as goal

-- the orders so far always hold with the other links
abbrev pub invariant-loop-number : goal.invariant-loop-number
invariant-loop-number l = record {
  end : l.number-end ≡ length (atoms_in l.atoms);
  trees : AreTrees (basis_of l.kept) l.trees;
  room : HaveRoom (basis_of l.kept) l.sides;
  hold : (t : Timeline) → FitsWith l.kept.net.now (Others (Kept l.kept.keep.now) l.link) t → (k : ℕ) (d : Atom) → k < l.number → Satisfies t (get_or (atoms_in l.atoms) k d);
}
