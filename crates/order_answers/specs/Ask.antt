-- The command `ask`: whether a relation holds between two intervals of a document, by the words for it and for them.
use Rattle.std.specs.Prelude.{◌≡◌, ◌⊎◌, ℕ, ◌*◌, ◌≤◌, List, codes, length, None, Some, [], ◌∷◌}
use Rattle.std.specs.List.{All}
use Rattle.std.specs.declared.option.Option.{Option}
use Rattle.answers.specs.Documents.{Contents, document_rows, of_its_contents}
use Rattle.answers.specs.Names.{NamesNone, NamesOne}
use Rattle.evidence_check.specs.Refusals.{Proves, atom_at}
use Rattle.evidence_format.specs.Bundles.{IsClaimText}
use Rattle.evidence_format.specs.Evidence.{entails, counter}
use Rattle.named.specs.Texts.{NoneHas}
use Rattle.net_answers.specs.Nets.{NetAnswers, of_net}
use Rattle.net_answers.specs.Showing.{ShowsEvidence}
use Rattle.net_build.specs.Built.{IsNetOf}
use Rattle.net_core.specs.Atoms.{Satisfies, atoms_of}
use Rattle.net_core.specs.Entailment.{AlwaysHolds, Follows}
use Rattle.net_core.specs.Firsts.{IsFirst}
use Rattle.net_core.specs.Fits.{Fits}
use Rattle.net_core.specs.Limits.{max_printed}
use Rattle.net_core.specs.Nets.{PlainNet, points}
use Rattle.net_core.specs.Ranks.{pairs_of, timeline_of}
use Rattle.net_core.specs.Rels.{rel_text}
use Rattle.net_core.specs.declared.atom.Atom.{Atom}
use Rattle.net_core.specs.declared.rels.Rel.{Rel}
use Rattle.net_core.specs.declared.step.Step.{Step}
use Rattle.order_closure.specs.Tables.{GivesAtom, Keeps, Table}
use Rattle.net_core.specs.Least.{IsLeast}
use Rattle.tml_refs.specs.Documents.{PlainDocument, IsNamed}
use Rattle.runs.specs.OneFile.{of_its_bytes}
use Rattle.runs.specs.Rows.{Freedom, Rows}
use Rattle.runs.specs.declared.status.Status.{Status}
use Rattle.runs.specs.declared.status.Status.TheVariants.{Clash, Done, UnknownName}
use Rattle.answers.specs.Commands.{Command, argument, command, of_document}

-- ---- the words

-- some relation has this text
abbrev pub IsRelation : List ℕ → Type 0
IsRelation rel = (r : Rel) × (rel_text r ≡ rel)

-- the first of the words X, REL and Y, in this order, that names nothing
abbrev pub ReportsUnknown : PlainDocument → List ℕ → List ℕ → List ℕ → List ℕ → Type 0
ReportsUnknown contents x rel y text =
    (NamesNone contents x × (text ≡ codes "unknown X\n"))
    ⊎ (NamesOne contents x × NoneHas rel_text rel × (text ≡ codes "unknown REL\n"))
    ⊎ (NamesOne contents x × IsRelation rel × NamesNone contents y × (text ≡ codes "unknown Y\n"))

-- the words name the intervals of these numbers, and this relation
pub record Name (contents : PlainDocument) (x rel y : List ℕ) (a : ℕ) (r : Rel) (b : ℕ) : Type 0 where
  pub first : IsNamed contents.intervals x a
  pub relation : rel_text r ≡ rel
  pub second : IsNamed contents.intervals y b

-- ---- the net

-- a proof that the relation holds in every timeline that fits, by walks of at most twice as many steps as there are points
abbrev pub ShowsProof : PlainNet → ℕ → Rel → ℕ → List ℕ → Type 0
ShowsProof net a r b text = (walks : List (List Step)) × All (λ steps. length steps ≤ 2 * points net) walks × ShowsEvidence net (entails a r b walks) text

-- the first order that the relation is, in the order of the table of relations, that does not hold in every timeline that fits
abbrev pub IsFirstOpen : PlainNet → List Atom → Atom → Type 0
IsFirstOpen net atoms atom = (k : ℕ) × IsFirst (length atoms) (λ k. AlwaysHolds net (atom_at atoms k)) (Some k) × (atom ≡ atom_at atoms k)

-- a counterexample: the least timeline that fits and in which the first open order is false
abbrev pub ShowsCounterexample : PlainNet → ℕ → Rel → ℕ → List ℕ → Type 0
ShowsCounterexample net a r b text =
    (atom : Atom) × (ranks : List ℕ) × IsFirstOpen net (atoms_of a r b) atom × (length ranks ≡ points net)
    × IsLeast (points net) (λ t. Fits net t × (Satisfies t atom → ⊥)) (timeline_of ranks) × ShowsEvidence net (counter a r b (pairs_of ranks)) text

-- the answer to what is asked of a net that some timeline fits: a proof, or a counterexample
abbrev pub OfRelation : ℕ → Rel → ℕ → PlainNet → Status → List ℕ → Type 0
OfRelation a r b net Done text = ShowsProof net a r b text ⊎ ShowsCounterexample net a r b text
OfRelation a r b net other text = ⊥

-- the law: if a counterexample is an answer, it is the only one
abbrev pub OneCounterexample : Type 0
OneCounterexample = (net : PlainNet) (a : ℕ) (r : Rel) (b : ℕ) (text line : List ℕ) → OfRelation a r b net Done text → ShowsCounterexample net a r b line → text ≡ line

-- ---- the answer

-- what is answered of intervals by their numbers
abbrev pub of_numbers : ℕ → Rel → ℕ → NetAnswers
of_numbers a r b contents net status text = OfRelation a r b net status text

-- `ask` reports the first word that names nothing, or answers what is asked
abbrev pub OfAsk : List ℕ → List ℕ → List ℕ → Contents
OfAsk x rel y contents status text =
    ((status ≡ UnknownName) × ReportsUnknown contents x rel y text)
    ⊎ ((a : ℕ) × (r : Rel) × (b : ℕ) × Name contents x rel y a r b × of_net (of_numbers a r b) contents status text)

-- the rows of `ask NAME X REL Y`
abbrev pub ask_rows : List ℕ → List ℕ → List ℕ → List ℕ → Rows
ask_rows name x rel y = document_rows (OfAsk x rel y) name

-- the relation follows from the net of the document
abbrev pub AskedFollows : List ℕ → List ℕ → List ℕ → PlainDocument → Type 0
AskedFollows x rel y contents = (net : PlainNet) × (a : ℕ) × (r : Rel) × (b : ℕ) × IsNetOf contents net × Name contents x rel y a r b × Follows net a r b

-- which texts of `ask` are not determined: that of a clash, and that of a proof
abbrev pub IsFreeAsk : List ℕ → List ℕ → List ℕ → PlainDocument → Status → Type 0
IsFreeAsk x rel y contents status = (status ≡ Clash) ⊎ ((status ≡ Done) × AskedFollows x rel y contents)

-- the same of what was read
abbrev pub AskIsFree : List ℕ → List ℕ → List ℕ → Freedom
AskIsFree x rel y = of_its_bytes (of_its_contents (IsFreeAsk x rel y))

-- ---- what is found by a table

-- the text is that of the least ranks that keep the table and make an atom false
abbrev pub IsCounterText : Table → ℕ → Rel → ℕ → Atom → List ℕ → Type 0
IsCounterText table a r b atom text =
    (ranks : List ℕ) × (length ranks ≡ table.points) × IsLeast table.points (λ t. Keeps table t × (Satisfies t atom → ⊥)) (timeline_of ranks)
    × IsClaimText (counter a r b (pairs_of ranks)) text × (length text ≤ max_printed)

-- the first of some atoms that a table does not give, if any
abbrev pub IsFirstNotGiven : Table → List Atom → Option Atom → Type 0
IsFirstNotGiven table atoms None = IsFirst (length atoms) (λ k. GivesAtom table (atom_at atoms k)) None
IsFirstNotGiven table atoms (Some atom) = (k : ℕ) × IsFirst (length atoms) (λ k. GivesAtom table (atom_at atoms k)) (Some k) × (atom ≡ atom_at atoms k)

-- a walk for each atom, which proves it, of at most twice as many steps as there are points
pub record AreWalks (net : PlainNet) (atoms : List Atom) (walks : List (List Step)) : Type 0 where
  pub one_each : length walks ≡ length atoms
  pub proofs : IsFirst (length atoms) (Proves net atoms walks) None
  pub short : All (λ steps. length steps ≤ 2 * points net) walks

-- the command
abbrev pub ask : Command
ask = command (codes "ask") (codes "DOC" ∷ codes "X" ∷ codes "REL" ∷ codes "Y" ∷ [])
    (of_document (λ more. OfAsk (argument more 0) (argument more 1) (argument more 2)) (λ more. AskIsFree (argument more 0) (argument more 1) (argument more 2)))
