-- If a counterexample is an answer to what is asked of a net, it is the only one.
use Rattle.std.proofs.Common.{◌≡◌, ℕ, List, Some, length, sym, ap, subst, ◌∙◌, inl, inr}
use Rattle.net_core.specs.Atoms.{Satisfies, atoms_of}
use Rattle.net_core.specs.Fits.{Fits}
use Rattle.net_core.specs.Nets.{PlainNet, points}
use Rattle.net_core.specs.Ranks.{pairs_of, timeline_of}
use Rattle.net_core.specs.declared.atom.Atom.{Atom}
use Rattle.net_core.specs.declared.rels.Rel.{Rel}
use Rattle.net_core.proofs.FirstLaws.{one_first}
use Rattle.net_core.specs.Least.{IsLeast}
use Rattle.evidence_check.specs.Refusals.{atom_at}
use Rattle.evidence_format.specs.Evidence.{counter}
use Rattle.evidence_format.proofs.Claims.{claim_text}
use Rattle.net_core.specs.Entailment.{AlwaysHolds}
use Rattle.order_answers.specs.Ask.{IsFirstOpen, OneCounterexample, ShowsCounterexample}
use Rattle.order_closure.proofs.LeastRanks.{one_least_of}

-- a relation has one first open order
one_open : (net : PlainNet) (atoms : List Atom) (x y : Atom) → IsFirstOpen net atoms x → IsFirstOpen net atoms y → x ≡ y
one_open net atoms x y h k =
    let both = one_first (length atoms) (λ i. AlwaysHolds net (atom_at atoms i)) (Some h.0) (Some k.0) h.1 k.1 in
    let same : h.0 ≡ k.0 = cc in
    h.2 ∙ ap (atom_at atoms) same ∙ sym k.2

-- so there is one counterexample
one_counter : (net : PlainNet) (a : ℕ) (r : Rel) (b : ℕ) (text line : List ℕ) → ShowsCounterexample net a r b text → ShowsCounterexample net a r b line → text ≡ line
one_counter net a r b text line h k =
    let least = subst (λ (x : Atom). IsLeast (points net) (λ t. Fits net t × (Satisfies t x → ⊥)) (timeline_of h.1)) (one_open net (atoms_of a r b) h.0 k.0 h.2 k.2) h.4 in
    let ranks = one_least_of (points net) (λ t. Fits net t × (Satisfies t k.0 → ⊥)) h.1 k.1 h.3 k.3 least k.4 in
    h.5.0.1 ∙ ap (λ (rs : List ℕ). claim_text (counter a r b (pairs_of rs))) ranks ∙ sym k.5.0.1

-- and no proof beside it, since both show what is true
pub one_counterexample : OneCounterexample
one_counterexample = λ net a r b text line of_net example. elim of_net [
  | inl proof ↦ let fails = example.5.2 in absurd (fails.2 (proof.2.2 fails.0 fails.1))
  | inr other ↦ one_counter net a r b text line other example
]
