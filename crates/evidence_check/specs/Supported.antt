-- When evidence is supported.
use Rattle.std.specs.Prelude.{ℕ, ◌<◌, List, length}
use Rattle.std.specs.List.{All, AllZip, Contains}
use Rattle.net_core.specs.Atoms.{atoms_of}
use Rattle.net_core.specs.Clashes.{IsClosedOver, Others}
use Rattle.net_core.specs.Entailment.{AreIntervals}
use Rattle.net_core.specs.Fits.{EveryLink, RanksFit, RanksFitWith}
use Rattle.net_core.specs.Nets.{PlainNet}
use Rattle.net_core.specs.Ranks.{ranks_of, timeline_of}
use Rattle.net_core.specs.Relations.{Relates}
use Rattle.net_core.specs.Walks.{IsWalk}
use Rattle.net_core.specs.declared.atom.Atom.{Atom}
use Rattle.net_core.specs.declared.rels.Rel.{Rel}
use Rattle.net_core.specs.declared.step.Step.{Step}
use Rattle.evidence_format.specs.Evidence.{PlainEvidence, timeline, entails, counter, clash}

-- the steps are a walk from the one point of an atom to the other, with a strict step where the atom is strict
abbrev pub IsProof : PlainNet → Atom → List Step → Type 0
IsProof net atom steps = IsWalk net EveryLink atom.from atom.to atom.strict steps

-- there are as many walks as atoms, and each proves the atom at its place
abbrev pub ProveAll : PlainNet → List Atom → List (List Step) → Type 0
ProveAll net atoms walks = AllZip (IsProof net) atoms walks

-- the relation is false of two intervals by their ranks
abbrev pub IsFalse : List ℕ → ℕ → Rel → ℕ → Type 0
IsFalse ranks a r b = Relates (timeline_of ranks) a r b → ⊥

-- the cites are numbers of links of the net
abbrev pub AreLinks : PlainNet → List ℕ → Type 0
AreLinks net cites = All (λ k. k < length net.links) cites

-- the ranks of intervals fit with all cited links but one
abbrev pub FitsOthers : PlainNet → List ℕ → ℕ → List (ℕ × ℕ) → Type 0
FitsOthers net cites own ranks = RanksFitWith net (Others (Contains cites) own) (ranks_of ranks)

-- there are as many timelines as cites, and each fits with all cited links but the one at its place
abbrev pub AllFitOthers : PlainNet → List ℕ → List (List (ℕ × ℕ)) → Type 0
AllFitOthers net cites spares = AllZip (FitsOthers net cites) cites spares

-- A timeline is supported where its ranks fit the net. An entailment is where its walks prove all orders that its relation is. A counterexample is where its ranks fit the net and its relation is false by them. A clash is where its walk is closed and goes over exactly the links that it cites, and each of its timelines fits with all of them but its own.
abbrev pub IsSupported : PlainNet → PlainEvidence → Type 0
IsSupported net (timeline ranks) = RanksFit net (ranks_of ranks)
IsSupported net (entails a r b walks) = AreIntervals net a b × ProveAll net (atoms_of a r b) walks
IsSupported net (counter a r b ranks) = AreIntervals net a b × RanksFit net (ranks_of ranks) × IsFalse (ranks_of ranks) a r b
IsSupported net (clash cites walk spares) = AreLinks net cites × IsClosedOver net cites walk × AllFitOthers net cites spares
