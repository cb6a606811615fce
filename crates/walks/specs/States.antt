-- Serves the code: the states that a search visits: points, with whether a step on the way was strict.
use Rattle.std.specs.Prelude.{◌≡◌, ◌⊎◌, ℕ, ◌+◌, ◌*◌, ◌/◌, ◌%◌, ◌<◌, ◌==◌, Bool, true, false, not, ◌&&◌, ◌||◌, List, [], ◌∷◌, ◌++◌, length, count_by, Some, None, IfSome, slice_index_or, if◌then◌else◌}
use Rattle.std.specs.List.{All, Any}
use Rattle.net_core.specs.declared.step.Step.{Step}
use Rattle.walks.specs.declared.edges.Edge.{Edge}
use Rattle.walks.specs.declared.states.Entry.{Entry}

-- the entries of a search, and of how many points it is
pub record PlainStates : Type 0 where
  pub entries : List Entry
  pub points : ℕ

-- the entry that a search starts at
abbrev pub start_entry : ℕ → Entry
start_entry p = record { point = p; strict = false; arrival = None }

-- entry k, counted from 0
abbrev pub entry_at : List Entry → ℕ → Entry
entry_at entries k = slice_index_or entries k (start_entry 0)

-- the entry is of this state
abbrev pub IsStateEntry : ℕ → Bool → Entry → Type 0
IsStateEntry p strict entry = (entry.point ≡ p) × (entry.strict ≡ strict)

-- some entry is of this state
abbrev pub HasState : List Entry → ℕ → Bool → Type 0
HasState entries p strict = Any (IsStateEntry p strict) entries

-- where the mark of a state stands
abbrev pub place : ℕ → Bool → ℕ
place p strict = 2 * p + (if strict then 1 else 0)

-- there are two marks for each point, what is marked has an entry, there are as many entries as marks, and their points have marks
pub record AreMarked (entries : List Entry) (seen : List Bool) : Type 0 where
  pub even : length seen % 2 ≡ 0
  pub held : (p : ℕ) (strict : Bool) → slice_index_or seen (place p strict) false ≡ true → HasState entries p strict
  pub counted : length entries ≡ count_by (λ mark. mark) seen
  pub below : All (λ (entry : Entry). entry.point < length seen / 2) entries

-- the entry is put last, unless there is one of its state
pub record VisitsState (entry : Entry) (old new : PlainStates) : Type 0 where
  pub points : new.points ≡ old.points
  pub grown : (new.entries ≡ old.entries) ⊎ (new.entries ≡ old.entries ++ entry ∷ [])
  pub there : HasState new.entries entry.point entry.strict

-- the entry that an edge leads to from entry k, which is here
abbrev pub next_entry : Entry → ℕ → Edge → Entry
next_entry here k edge = record { point = edge.atom.to; strict = here.strict || edge.atom.strict; arrival = Some (record { parent = k; step = edge.step }) }

-- the state that an edge leads to from entry k was visited
abbrev pub IsReached : List Entry → ℕ → Edge → Type 0
IsReached entries k edge = HasState entries edge.atom.to ((entry_at entries k).strict || edge.atom.strict)

-- an edge of a set leads from entry k to an entry
abbrev pub EdgeLeadsTo : (Edge → Type 0) → List Entry → ℕ → Entry → Type 0
EdgeLeadsTo IsWay entries k entry = (edge : Edge) × IsWay edge × (edge.atom.from ≡ (entry_at entries k).point) × (entry ≡ next_entry (entry_at entries k) k edge)

-- the entries are the old ones, and some that edges of a set lead to from entry k
pub record StatesGrow (IsWay : Edge → Type 0) (k : ℕ) (old new : PlainStates) : Type 0 where
  pub points : new.points ≡ old.points
  pub more : List Entry
  pub entries : new.entries ≡ old.entries ++ more
  pub led : All (EdgeLeadsTo IsWay old.entries k) more

-- each entry starts the search, or an edge of a set leads to it from an earlier one
abbrev pub AreTraced : (Edge → Type 0) → ℕ → List Entry → Type 0
AreTraced IsWay from entries = (k : ℕ) → k < length entries → (entry_at entries k ≡ start_entry from) ⊎ ((parent : ℕ) × (parent < k) × EdgeLeadsTo IsWay entries parent (entry_at entries k))

-- what the edges of a set lead to from entry k was visited
abbrev pub IsExpanded : (Edge → Type 0) → List Entry → ℕ → Type 0
IsExpanded IsWay entries k = (edge : Edge) → IsWay edge → edge.atom.from ≡ (entry_at entries k).point → IsReached entries k edge

-- whether an entry is at a point, after a strict step where that is asked for
abbrev pub is_end : ℕ → Bool → Entry → Bool
is_end to strict entry = (entry.point == to) && (entry.strict || not strict)

-- some entry is at the point, after a strict step where that is asked for
abbrev pub HasEnd : ℕ → Bool → List Entry → Type 0
HasEnd to strict entries = Any (λ (entry : Entry). is_end to strict entry ≡ true) entries

-- the search came to each entry from an earlier one, if from any
abbrev pub AreEarlier : List Entry → Type 0
AreEarlier entries = (k : ℕ) → k < length entries → IfSome (entry_at entries k).arrival (λ arrival. arrival.parent < k)

-- these are the steps by which the search came from entry k to entry last
abbrev pub IsPath : List Entry → ℕ → ℕ → List Step → Type 0
IsPath entries last k [] = k ≡ last
IsPath entries last k (step ∷ steps) = (next : ℕ) × (next < length entries) × ((entry_at entries next).arrival ≡ Some (record { parent = k; step = step })) × IsPath entries last next steps

-- these are the steps by which the search came to entry last from where it started
abbrev pub IsTrace : List Entry → ℕ → List Step → Type 0
IsTrace entries last steps = (first : ℕ) × (first < length entries) × ((entry_at entries first).arrival ≡ None) × IsPath entries last first steps
