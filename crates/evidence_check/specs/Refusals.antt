-- Why evidence is refused: the first part that is not as it should be, and the first reason there.
use Rattle.std.specs.Prelude.{◌≡◌, ◌≢◌, ◌⊎◌, ℕ, ◌+◌, ◌*◌, ◌<◌, ◌≤◌, true, false, List, [], length, take, Option, None, Some, slice_index, slice_index_or}
use Rattle.std.specs.List.{Contains}
use Rattle.net_core.specs.Atoms.{atoms_of}
use Rattle.net_core.specs.Clashes.{Agrees, IsClosedOver, Others}
use Rattle.net_core.specs.Entailment.{AreIntervals}
use Rattle.net_core.specs.Firsts.{IsFirst, IsFirstPair}
use Rattle.net_core.specs.Fits.{EveryLink, KeepsCalendar, KeepsLink, RanksFit, StartsFirst}
use Rattle.net_core.specs.Nets.{PlainNet, intervals, points}
use Rattle.net_core.specs.Ranks.{ranks_of, timeline_of}
use Rattle.net_core.specs.Relations.{Relates}
use Rattle.net_core.specs.Steps.{has_strict}
use Rattle.net_core.specs.Walks.{IsClosedWalk, IsJoined}
use Rattle.net_core.specs.declared.atom.Atom.{Atom}
use Rattle.net_core.specs.declared.rels.Rel.{Rel}
use Rattle.net_core.specs.declared.step.Step.{Step as StepOf}
use Rattle.evidence_format.specs.Evidence.{IsWellFormed, PlainEvidence, timeline, entails, counter, clash}
use Rattle.evidence_check.specs.declared.refusal.Reason.{Reason}
use Rattle.evidence_check.specs.declared.refusal.Reason.TheVariants.{Number, Size, Order, Link, Calendar, Step, End, Weak, Cited, Holds}
use Rattle.evidence_check.specs.declared.refusal.Refused.{Refused}
use Rattle.evidence_check.specs.Supported.{AreLinks, FitsOthers, IsProof, IsSupported}

-- ---- what stands at a place

abbrev pub atom_at : List Atom → ℕ → Atom
atom_at atoms k = slice_index_or atoms k (record { from = 0; to = 0; strict = false })

abbrev pub walk_at : List (List StepOf) → ℕ → List StepOf
walk_at walks k = slice_index_or walks k []

abbrev pub cite_at : List ℕ → ℕ → ℕ
cite_at cites i = slice_index cites i

abbrev pub spare_ranks_at : List (List (ℕ × ℕ)) → ℕ → List (ℕ × ℕ)
spare_ranks_at spares i = slice_index_or spares i []

-- the walk of a number proves the atom of that number
abbrev pub Proves : PlainNet → List Atom → List (List StepOf) → ℕ → Type 0
Proves net atoms walks k = IsProof net (atom_at atoms k) (walk_at walks k)

-- the cite of a number is that of a link of the net
abbrev pub IsCiteOfLink : PlainNet → List ℕ → ℕ → Type 0
IsCiteOfLink net cites i = cite_at cites i < length net.links

-- the timeline of a number fits with all cited links but the one of that number
abbrev pub IsSpareAt : PlainNet → List ℕ → List (List (ℕ × ℕ)) → ℕ → Type 0
IsSpareAt net cites spares i = FitsOthers net cites (cite_at cites i) (spare_ranks_at spares i)

-- ---- why it is refused

-- there are two ranks for each interval
abbrev pub HasSize : PlainNet → List ℕ → Type 0
HasSize net ranks = length ranks ≡ points net

-- the first interval, if any, that does not start before it ends
abbrev pub FirstUnordered : PlainNet → List ℕ → Option ℕ → Type 0
FirstUnordered net ranks first = IsFirst (intervals net) (StartsFirst (timeline_of ranks)) first

-- the first link of a set, if any, that does not hold
abbrev pub FirstBrokenLink : PlainNet → (ℕ → Type 0) → List ℕ → Option ℕ → Type 0
FirstBrokenLink net Chosen ranks first = IsFirst (length net.links) (λ k. Chosen k → KeepsLink net (timeline_of ranks) k) first

-- the first pair of points, if any, that are not in the order of the calendar
abbrev pub FirstBrokenPair : PlainNet → List ℕ → Option (ℕ × ℕ) → Type 0
FirstBrokenPair net ranks first = IsFirstPair (points net) (KeepsCalendar net (timeline_of ranks)) first

-- The ranks are no timeline that fits with a set of links, for this reason and for none before it.
abbrev pub IsMisfit : PlainNet → (ℕ → Type 0) → List ℕ → Reason → Type 0
IsMisfit net Chosen ranks (Size size) = (length ranks ≡ 2 * size) × (size ≢ intervals net)
IsMisfit net Chosen ranks (Order interval) = HasSize net ranks × FirstUnordered net ranks (Some interval)
IsMisfit net Chosen ranks (Link link) = HasSize net ranks × FirstUnordered net ranks None × FirstBrokenLink net Chosen ranks (Some link)
IsMisfit net Chosen ranks (Calendar from to) = HasSize net ranks × FirstUnordered net ranks None × FirstBrokenLink net Chosen ranks None × FirstBrokenPair net ranks (Some (from, to))
IsMisfit net Chosen ranks other = ⊥

-- the first of two numbers, if any, that is none of an interval
abbrev pub IsBadNumber : PlainNet → ℕ → ℕ → ℕ → Type 0
IsBadNumber net a b n = ((intervals net ≤ a) × (n ≡ a)) ⊎ ((a < intervals net) × (intervals net ≤ b) × (n ≡ b))

-- the steps are joined from a point on
abbrev pub StepsGoFrom : PlainNet → ℕ → List StepOf → Type 0
StepsGoFrom net x steps = (y : ℕ) × IsJoined net EveryLink steps x y

-- The steps are no proof of an atom, for this reason and for none before it: step k is the first that does not go on; they do not end at the atom's other point; or the atom is strict, and none of them is.
abbrev pub IsNoProof : PlainNet → Atom → List StepOf → Reason → Type 0
IsNoProof net atom steps (Step k) = (k < length steps) × StepsGoFrom net atom.from (take k steps) × (StepsGoFrom net atom.from (take (k + 1) steps) → ⊥)
IsNoProof net atom steps End = (y : ℕ) × IsJoined net EveryLink steps atom.from y × (y ≢ atom.to)
IsNoProof net atom steps Weak = IsJoined net EveryLink steps atom.from atom.to × (atom.strict ≡ true) × (has_strict net steps ≡ false)
IsNoProof net atom steps other = ⊥

-- a number of the first line, which is part 0
abbrev pub IsNumberRefused : PlainNet → ℕ → ℕ → Refused → Type 0
IsNumberRefused net a b refused = (refused.part ≡ 0) × (n : ℕ) × (refused.reason ≡ Number n) × IsBadNumber net a b n

-- the first walk that does not prove its atom: walk k is part k + 1
abbrev pub IsWalkRefused : PlainNet → List Atom → List (List StepOf) → Refused → Type 0
IsWalkRefused net atoms walks refused = (k : ℕ) × IsFirst (length atoms) (Proves net atoms walks) (Some k) × (refused.part ≡ k + 1) × IsNoProof net (atom_at atoms k) (walk_at walks k) refused.reason

-- the timeline, which is part 1
abbrev pub IsTimelineRefused : PlainNet → List ℕ → Refused → Type 0
IsTimelineRefused net ranks refused = (refused.part ≡ 1) × IsMisfit net EveryLink ranks refused.reason

-- a relation that is true by the ranks, which is part 2
abbrev pub IsRelationRefused : List ℕ → ℕ → Rel → ℕ → Refused → Type 0
IsRelationRefused ranks a r b refused = (refused.part ≡ 2) × (refused.reason ≡ Holds) × Relates (timeline_of ranks) a r b

-- the steps are joined from some point to some point
abbrev pub StepsGoOn : PlainNet → List StepOf → Type 0
StepsGoOn net steps = (x : ℕ) × StepsGoFrom net x steps

-- The steps are no closed walk over exactly the cited links, for this reason and for none before it: step k is the first that does not go on; they do not end where they begin; none of them is strict; or a link is the first that is cited and not traversed, or traversed and not cited.
abbrev pub IsNoClosedWalk : PlainNet → List ℕ → List StepOf → Reason → Type 0
IsNoClosedWalk net cites steps (Step k) = (k < length steps) × StepsGoOn net (take k steps) × (StepsGoOn net (take (k + 1) steps) → ⊥)
IsNoClosedWalk net cites steps End = (x : ℕ) × (y : ℕ) × IsJoined net EveryLink steps x y × (x ≢ y)
IsNoClosedWalk net cites steps Weak = (x : ℕ) × IsJoined net EveryLink steps x x × (has_strict net steps ≡ false)
IsNoClosedWalk net cites steps (Cited link) = IsClosedWalk net EveryLink steps × IsFirst (length net.links) (Agrees cites steps) (Some link)
IsNoClosedWalk net cites steps other = ⊥

-- a cite that is none of a link, which is part 0
abbrev pub IsCiteRefused : PlainNet → List ℕ → Refused → Type 0
IsCiteRefused net cites refused = (refused.part ≡ 0) × (i : ℕ) × IsFirst (length cites) (IsCiteOfLink net cites) (Some i) × (refused.reason ≡ Number (cite_at cites i))

-- the walk, which is part 1
abbrev pub IsClosedWalkRefused : PlainNet → List ℕ → List StepOf → Refused → Type 0
IsClosedWalkRefused net cites walk refused = (refused.part ≡ 1) × IsNoClosedWalk net cites walk refused.reason

-- the first timeline that does not fit with the other cited links: timeline i is part i + 2
abbrev pub IsSpareRefused : PlainNet → List ℕ → List (List (ℕ × ℕ)) → Refused → Type 0
IsSpareRefused net cites spares refused =
    (i : ℕ) × IsFirst (length cites) (IsSpareAt net cites spares) (Some i) × (refused.part ≡ i + 2)
    × IsMisfit net (Others (Contains cites) (cite_at cites i)) (ranks_of (spare_ranks_at spares i)) refused.reason

-- the first part that is refused, and the first reason there
abbrev pub IsRefused : PlainNet → PlainEvidence → Refused → Type 0
IsRefused net (timeline ranks) refused = IsTimelineRefused net (ranks_of ranks) refused
IsRefused net (entails a r b walks) refused =
    IsNumberRefused net a b refused
    ⊎ (AreIntervals net a b × IsWalkRefused net (atoms_of a r b) walks refused)
IsRefused net (counter a r b ranks) refused =
    IsNumberRefused net a b refused
    ⊎ (AreIntervals net a b × IsTimelineRefused net (ranks_of ranks) refused)
    ⊎ (AreIntervals net a b × RanksFit net (ranks_of ranks) × IsRelationRefused (ranks_of ranks) a r b refused)
IsRefused net (clash cites walk spares) refused =
    IsCiteRefused net cites refused
    ⊎ (AreLinks net cites × IsClosedWalkRefused net cites walk refused)
    ⊎ (AreLinks net cites × IsClosedOver net cites walk × IsSpareRefused net cites spares refused)

-- the law: evidence is not both supported and refused, and is refused for one reason at most
pub record Verdicts (net : PlainNet) (e : PlainEvidence) : Type 0 where
  pub not_both : (refused : Refused) → IsSupported net e → IsRefused net e refused → ⊥
  pub one_refusal : (refused other : Refused) → IsRefused net e refused → IsRefused net e other → refused ≡ other

abbrev pub OneVerdict : Type 0
OneVerdict = (net : PlainNet) (e : PlainEvidence) → Verdicts net e

-- the law: well-formed evidence is supported, or refused
abbrev pub SupportedOrRefused : PlainNet → PlainEvidence → Type 0
SupportedOrRefused net e = IsWellFormed e → IsSupported net e ⊎ ((refused : Refused) × IsRefused net e refused)
