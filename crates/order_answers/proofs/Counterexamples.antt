-- What the closure of a net says of orders, and counterexamples.
use Rattle.std.proofs.Common.{◌≡◌, ℕ, ◌<◌, ◌≤◌, false, List, length, Some, None, sym, subst, ◌∙◌, arith}
use Rattle.std.proofs.lemmas.List.Elements.{All-from_recursion, All-get_or}
use Rattle.net_core.specs.Atoms.{IsInRange, Satisfies, atoms_of}
use Rattle.net_core.specs.Firsts.{IsFirst}
use Rattle.net_core.specs.Fits.{Fits}
use Rattle.net_core.specs.Nets.{PlainNet, points}
use Rattle.net_core.specs.Ranks.{pairs_of, ranks_of, timeline_of}
use Rattle.net_core.specs.Relations.{Timeline}
use Rattle.net_core.specs.declared.atom.Atom.{Atom}
use Rattle.net_core.specs.declared.rels.Rel.{Rel}
use Rattle.net_core.proofs.AtomLaws.{atoms_say_the_relation}
use Rattle.net_core.proofs.RankLaws.{even_length, ranks_again}
use Rattle.order_closure.specs.Tables.{AreInRange, GivesAtom, Keeps, Table}
use Rattle.net_core.specs.Least.{IsLeast}
use Rattle.clash.specs.Closures.{IsClosureOf}
use Rattle.clash.proofs.Entailing.{given_holds, held_given}
use Rattle.net_core.specs.Entailment.{AlwaysHolds, AreIntervals}
use Rattle.net_core.specs.Limits.{max_printed}
use Rattle.evidence_check.specs.Refusals.{atom_at}
use Rattle.evidence_check.specs.Supported.{IsFalse, IsSupported}
use Rattle.evidence_check.proofs.Soundness.{supported_is_true}
use Rattle.evidence_format.specs.Bundles.{IsClaimText}
use Rattle.evidence_format.specs.Evidence.{counter}
use Rattle.order_answers.specs.Ask.{IsCounterText, IsFirstNotGiven, IsFirstOpen, ShowsCounterexample}

module _ (net : PlainNet) (table : Table) (closure : IsClosureOf net table) where
  module _ (atoms : List Atom) (range : AreInRange (points net) atoms) where
    in_range : (k : ℕ) → k < length atoms → IsInRange (points net) (atom_at atoms k)
    in_range k lt = All-get_or (IsInRange (points net)) atoms k (record { from = 0; to = 0; strict = false }) lt range

    -- if the table gives all atoms, all always hold
    pub all_hold : IsFirstNotGiven table atoms None → IsFirst (length atoms) (λ k. AlwaysHolds net (atom_at atoms k)) None
    all_hold all = λ k lt. given_holds net table closure (atom_at atoms k) (in_range k lt) (all k lt)

    -- the first atom that it does not give is the first that does not always hold
    pub first_open : (atom : Atom) → IsFirstNotGiven table atoms (Some atom) → IsFirstOpen net atoms atom
    first_open atom first = (
      first.0,
      (
        first.1.0,
        λ always. first.1.1 (held_given net table closure (atom_at atoms first.0) (in_range first.0 first.1.0) always),
        λ j less. let below = first.1.0 in given_holds net table closure (atom_at atoms j) (in_range j (omega (arith, less, below))) (first.1.2 j less),
      ),
      first.2,
    )

    -- and the table says less of it
    pub not_given : (atom : Atom) → IsFirstNotGiven table atoms (Some atom) → IsInRange (points net) atom × (GivesAtom table atom → ⊥)
    not_given atom first = (
      subst (IsInRange (points net)) (sym first.2) (in_range first.0 first.1.0),
      λ gives. first.1.1 (subst (GivesAtom table) first.2 gives),
    )

  -- the least timeline that keeps the table and makes an atom false is the least one that fits and does
  least_counter : (atom : Atom) (t : Timeline) → IsLeast table.points (λ u. Keeps table u × (Satisfies u atom → ⊥)) t → IsLeast (points net) (λ u. Fits net u × (Satisfies u atom → ⊥)) t
  least_counter atom t l = record {
    holds = ((closure.keeps t).0 l.holds.0, l.holds.1);
    least = λ u both p less. l.least u ((closure.keeps u).1 both.0, both.1) p (omega (arith, less, closure.size));
  }

-- if one of its orders is false, a relation is
false_by : (ranks : List ℕ) (a : ℕ) (r : Rel) (b k : ℕ) → k < length (atoms_of a r b) → (Satisfies (timeline_of ranks) (atom_at (atoms_of a r b) k) → ⊥) → IsFalse ranks a r b
false_by ranks a r b k lt fails = λ holds.
    let t = timeline_of ranks in
    fails (All-get_or (Satisfies t) (atoms_of a r b) k (record { from = 0; to = 0; strict = false }) lt
    (All-from_recursion (Satisfies t) (atoms_of a r b) ((atoms_say_the_relation t r a b).0 holds)))

-- the text of the least timeline that fits and makes the first open order false tells a counterexample
pub counter_shows : (net : PlainNet) (a : ℕ) (r : Rel) (b : ℕ) (atom : Atom) (ranks text : List ℕ) → AreIntervals net a b → IsFirstOpen net (atoms_of a r b) atom → length ranks ≡ points net
    → IsLeast (points net) (λ u. Fits net u × (Satisfies u atom → ⊥)) (timeline_of ranks) → IsClaimText (counter a r b (pairs_of ranks)) text → length text ≤ max_printed → ShowsCounterexample net a r b text
counter_shows net a r b atom ranks text both first size least is_text short =
    let again : ranks_of (pairs_of ranks) ≡ ranks = ranks_again ranks (even_length (length net.bounds) ranks size) in
    let fails = subst (λ (x : Atom). Satisfies (timeline_of ranks) x → ⊥) first.2 least.holds.1 in
    let supported : IsSupported net (counter a r b (pairs_of ranks)) = (
      both,
      subst (λ (rs : List ℕ). (length rs ≡ points net) × Fits net (timeline_of rs)) (sym again) (size, least.holds.0),
      subst (λ (rs : List ℕ). IsFalse rs a r b) (sym again) (false_by ranks a r b first.0 first.1.0 fails),
    ) in
    (atom, ranks, first, size, least, (is_text, supported, supported_is_true net (counter a r b (pairs_of ranks)) supported, short))

-- and so does that of the least timeline that keeps the closure
pub shows_counterexample : (net : PlainNet) (table : Table) (a : ℕ) (r : Rel) (b : ℕ) (atom : Atom) (text : List ℕ) → IsClosureOf net table → AreIntervals net a b
    → IsFirstOpen net (atoms_of a r b) atom → IsCounterText table a r b atom text → ShowsCounterexample net a r b text
shows_counterexample net table a r b atom text closure both first told =
    counter_shows net a r b atom told.0 text both first (told.1 ∙ closure.size) (least_counter net table closure atom (timeline_of told.0) told.2) told.3 told.4
