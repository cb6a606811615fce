-- Evidence has one verdict.
use Rattle.std.proofs.Common.{◌≡◌, inl, inr, false, ℕ, ◌+◌, ◌<◌, arith, ◌↔◌, List, [], length, Option, Some, None, Result, Ok, Err, IsOk, OnOk, IfErr, refl, ap, subst, sym, ◌∙◌}
use Rattle.std.specs.List.{Contains}
use Rattle.std.proofs.lemmas.List.Elements.{All-get_or}
use Rattle.std.proofs.lemmas.Option.{same_Some}
use Rattle.net_core.proofs.Lent.{zip_at}
use Rattle.net_core.specs.Atoms.{atoms_of}
use Rattle.net_core.specs.Clashes.{IsClosedOver, Others}
use Rattle.net_core.specs.Fits.{EveryLink, KeepsCalendar, KeepsLink, RanksFit, RanksFitWith, StartsFirst}
use Rattle.net_core.specs.Nets.{PlainNet, intervals, points}
use Rattle.net_core.specs.Ranks.{ranks_of, timeline_of}
use Rattle.net_core.specs.declared.atom.Atom.{Atom}
use Rattle.net_core.specs.declared.rels.Rel.{Rel}
use Rattle.net_core.specs.declared.step.Step.{Step as StepOf}
use Rattle.net_core.proofs.FirstLaws.{one_first, one_first_pair}
use Rattle.net_core.specs.Entailment.{AreIntervals}
use Rattle.evidence_format.specs.Evidence.{PlainEvidence, timeline, entails, counter, clash}
use Rattle.evidence_check.specs.declared.refusal.Reason.{Reason}
use Rattle.evidence_check.specs.declared.refusal.Reason.TheVariants.{Number, Size, Order, Link, Calendar, Step, End, Weak, Cited, Holds}
use Rattle.evidence_check.specs.declared.refusal.Refused.{Refused}
use Rattle.evidence_check.specs.Refusals.{FirstBrokenLink, FirstBrokenPair, FirstUnordered, HasSize, IsBadNumber, IsCiteRefused, IsMisfit, IsNoProof, IsNumberRefused, IsCiteOfLink, IsRefused, IsRelationRefused, IsClosedWalkRefused, IsSpareAt, IsSpareRefused, IsTimelineRefused, IsWalkRefused, OneVerdict, Proves, atom_at, cite_at, spare_ranks_at, walk_at}
use Rattle.evidence_check.specs.Supported.{AllFitOthers, AreLinks, FitsOthers, IsFalse, IsProof, IsSupported, ProveAll}
use Rattle.evidence_check.proofs.Checks.{IsCheck, by_check, three_checks, two_checks}
use Rattle.evidence_check.proofs.Proving.{one_reason}
use Rattle.evidence_check.proofs.ClosedWalks.{one_closed, closed_not_both}

-- reasons with the same pair of points are one
same_calendar : (x y : ℕ × ℕ) → Some x ≡ Some y → Calendar x.0 x.1 ≡ Calendar y.0 y.1
same_calendar x y e = let same : x ≡ y = cc in ap (λ (z : ℕ × ℕ). Calendar z.0 z.1) same

module _ (net : PlainNet) (Chosen : ℕ → Type 0) (ranks : List ℕ) where
  -- ranks that fit are no misfit
  pub no_misfit : (reason : Reason) → RanksFitWith net Chosen ranks → IsMisfit net Chosen ranks reason → ⊥
  no_misfit (Size size) fit m = omega (arith, fit.0, m.0, m.1)
  no_misfit (Order i) fit m = m.1.1 (fit.1.order i m.1.0)
  no_misfit (Link k) fit m = m.2.1 (fit.1.links k m.2.0)
  no_misfit (Calendar p q) fit m = m.3.1.1 (fit.1.calendar p q m.3.0 m.3.1.0)
  no_misfit (Number n) fit m = m
  no_misfit (Step n) fit m = m
  no_misfit End fit m = m
  no_misfit Weak fit m = m
  no_misfit (Cited n) fit m = m
  no_misfit Holds fit m = m

  -- a reason of the size is none of ranks of the right size
  sized : (size : ℕ) → IsMisfit net Chosen ranks (Size size) → HasSize net ranks → ⊥
  sized size m h = omega (arith, m.0, m.1, h)

  -- what is found first of intervals, links and pairs of points is found once
  one_unordered : (o p : Option ℕ) → FirstUnordered net ranks o → FirstUnordered net ranks p → o ≡ p
  one_unordered o p h k = one_first (intervals net) (StartsFirst (timeline_of ranks)) o p h k

  one_broken_link : (o p : Option ℕ) → FirstBrokenLink net Chosen ranks o → FirstBrokenLink net Chosen ranks p → o ≡ p
  one_broken_link o p h k = one_first (length net.links) (λ n. Chosen n → KeepsLink net (timeline_of ranks) n) o p h k

  one_broken_pair : (o p : Option (ℕ × ℕ)) → FirstBrokenPair net ranks o → FirstBrokenPair net ranks p → o ≡ p
  one_broken_pair o p h k = one_first_pair (points net) (KeepsCalendar net (timeline_of ranks)) o p h k

  -- ranks are a misfit for one reason: of two, the parts that both speak of are the same
  one_misfit : (r s : Reason) → IsMisfit net Chosen ranks r → IsMisfit net Chosen ranks s → r ≡ s
  one_misfit (Size a) (Size b) h k = ap (λ (n : ℕ). Size n) (omega (arith, h.0, k.0))
  one_misfit (Size a) (Order i) h k = absurd (sized a h k.0)
  one_misfit (Size a) (Link i) h k = absurd (sized a h k.0)
  one_misfit (Size a) (Calendar p q) h k = absurd (sized a h k.0)
  one_misfit (Order i) (Size b) h k = absurd (sized b k h.0)
  one_misfit (Link i) (Size b) h k = absurd (sized b k h.0)
  one_misfit (Calendar p q) (Size b) h k = absurd (sized b k h.0)
  one_misfit (Order i) (Order j) h k = cc (one_unordered (Some i) (Some j) h.1 k.1)
  one_misfit (Order i) (Link j) h k = cc (one_unordered (Some i) None h.1 k.1)
  one_misfit (Order i) (Calendar p q) h k = cc (one_unordered (Some i) None h.1 k.1)
  one_misfit (Link i) (Order j) h k = cc (one_unordered None (Some j) h.1 k.1)
  one_misfit (Calendar p q) (Order j) h k = cc (one_unordered None (Some j) h.1 k.1)
  one_misfit (Link i) (Link j) h k = cc (one_broken_link (Some i) (Some j) h.2 k.2)
  one_misfit (Link i) (Calendar p q) h k = cc (one_broken_link (Some i) None h.2 k.2)
  one_misfit (Calendar p q) (Link j) h k = cc (one_broken_link None (Some j) h.2 k.2)
  one_misfit (Calendar p q) (Calendar x y) h k = same_calendar (p, q) (x, y) (one_broken_pair (Some (p, q)) (Some (x, y)) h.3 k.3)
  one_misfit (Number n) s h k = absurd h
  one_misfit (Step n) s h k = absurd h
  one_misfit End s h k = absurd h
  one_misfit Weak s h k = absurd h
  one_misfit (Cited n) s h k = absurd h
  one_misfit Holds s h k = absurd h
  one_misfit r (Number n) h k = absurd k
  one_misfit r (Step n) h k = absurd k
  one_misfit r End h k = absurd k
  one_misfit r Weak h k = absurd k
  one_misfit r (Cited n) h k = absurd k
  one_misfit r Holds h k = absurd k

-- two refusals with one part and one reason are one
one_refused : (r s : Refused) → r.part ≡ s.part → r.reason ≡ s.reason → r ≡ s
one_refused r s part reason = λ i. record { part = part i; reason = reason i }

module _ (net : PlainNet) where
  timeline_check : (ranks : List ℕ) → IsCheck (RanksFit net ranks) (IsTimelineRefused net ranks)
  timeline_check ranks = record {
    not_both = λ r fit h. no_misfit net EveryLink ranks r.reason fit h.1;
    once = λ r s h k. one_refused r s (h.0 ∙ sym k.0) (one_misfit net EveryLink ranks r.reason s.reason h.1 k.1);
  }

  -- of two numbers one is the first that is none of an interval
  one_number : (a b m n : ℕ) → IsBadNumber net a b m → IsBadNumber net a b n → m ≡ n
  one_number a b m n (inl h) (inl k) = h.1 ∙ sym k.1
  one_number a b m n (inl h) (inr k) = absurd (omega (arith, h.0, k.0))
  one_number a b m n (inr h) (inl k) = absurd (omega (arith, h.0, k.0))
  one_number a b m n (inr h) (inr k) = h.2 ∙ sym k.2

  numbers_check : (a b : ℕ) → IsCheck (AreIntervals net a b) (IsNumberRefused net a b)
  numbers_check a b = record {
    not_both = λ r both h. elim h.3 [
      | inl first ↦ omega (arith, both.0, first.0)
      | inr second ↦ omega (arith, both.1, second.1)
    ];
    once = λ r s h k. one_refused r s (h.0 ∙ sym k.0) (h.2 ∙ ap (λ (n : ℕ). Number n) (one_number a b h.1 k.1 h.3 k.3) ∙ sym k.2);
  }

  -- the first walk that proves nothing is one, and so is its reason
  walk_check : (atoms : List Atom) (walks : List (List StepOf)) → IsCheck ((k : ℕ) → k < length atoms → Proves net atoms walks k) (IsWalkRefused net atoms walks)
  walk_check atoms walks = record {
    not_both = λ r all h. h.1.1 (all h.0 h.1.0);
    once = λ r s h k.
        let same = same_Some h.0 k.0 (one_first (length atoms) (Proves net atoms walks) (Some h.0) (Some k.0) h.1 k.1) in
        one_refused r s (h.2 ∙ ap (λ (n : ℕ). n + 1) same ∙ sym k.2)
        (one_reason net (atom_at atoms k.0) (walk_at walks k.0) r.reason s.reason (subst (λ (n : ℕ). IsNoProof net (atom_at atoms n) (walk_at walks n) r.reason) same h.3) k.3);
  }

  walks_check : (atoms : List Atom) (walks : List (List StepOf)) → IsCheck (ProveAll net atoms walks) (IsWalkRefused net atoms walks)
  walks_check atoms walks = by_check (λ all. zip_at (IsProof net) (record { from = 0; to = 0; strict = false }) [] atoms walks all) (λ r h. h) (walk_check atoms walks)

  relation_check : (ranks : List ℕ) (a : ℕ) (rel : Rel) (b : ℕ) → IsCheck (IsFalse ranks a rel b) (IsRelationRefused ranks a rel b)
  relation_check ranks a rel b = record {
    not_both = λ r fails h. fails h.2;
    once = λ r s h k. one_refused r s (h.0 ∙ sym k.0) (h.1 ∙ sym k.1);
  }

  -- of the cites one is the first that is none of a link
  cites_check : (cites : List ℕ) → IsCheck (AreLinks net cites) (IsCiteRefused net cites)
  cites_check cites = record {
    not_both = λ r all h. h.2.1 (All-get_or (λ (k : ℕ). k < length net.links) cites h.1 0 h.2.0 all);
    once = λ r s h k.
        let same = same_Some h.1 k.1 (one_first (length cites) (IsCiteOfLink net cites) (Some h.1) (Some k.1) h.2 k.2) in
        one_refused r s (h.0 ∙ sym k.0) (h.3 ∙ ap (λ (i : ℕ). Number (cite_at cites i)) same ∙ sym k.3);
  }

  closed_check : (cites : List ℕ) (walk : List StepOf) → IsCheck (IsClosedOver net cites walk) (IsClosedWalkRefused net cites walk)
  closed_check cites walk = record {
    not_both = λ r closed h. closed_not_both net cites walk r.reason closed h.1;
    once = λ r s h k. one_refused r s (h.0 ∙ sym k.0) (one_closed net cites walk r.reason s.reason h.1 k.1);
  }

  -- the first timeline that does not fit is one, and so is its reason
  spare_check : (cites : List ℕ) (spares : List (List (ℕ × ℕ))) → IsCheck ((i : ℕ) → i < length cites → IsSpareAt net cites spares i) (IsSpareRefused net cites spares)
  spare_check cites spares = record {
    not_both = λ r all h. h.1.1 (all h.0 h.1.0);
    once = λ r s h k.
        let same = same_Some h.0 k.0 (one_first (length cites) (IsSpareAt net cites spares) (Some h.0) (Some k.0) h.1 k.1) in
        one_refused r s (h.2 ∙ ap (λ (n : ℕ). n + 2) same ∙ sym k.2)
        (one_misfit net (Others (Contains cites) (cite_at cites k.0)) (ranks_of (spare_ranks_at spares k.0)) r.reason s.reason
        (subst (λ (n : ℕ). IsMisfit net (Others (Contains cites) (cite_at cites n)) (ranks_of (spare_ranks_at spares n)) r.reason) same h.3) k.3);
  }

  spares_check : (cites : List ℕ) (spares : List (List (ℕ × ℕ))) → IsCheck (AllFitOthers net cites spares) (IsSpareRefused net cites spares)
  spares_check cites spares = by_check (λ all. zip_at (FitsOthers net cites) 0 [] cites spares all) (λ r h. h) (spare_check cites spares)

  -- evidence is checked part by part
  check : (e : PlainEvidence) → IsCheck (IsSupported net e) (IsRefused net e)
  check (timeline ranks) = timeline_check (ranks_of ranks)
  check (entails a rel b walks) = two_checks (numbers_check a b) (walks_check (atoms_of a rel b) walks)
  check (counter a rel b ranks) = three_checks (numbers_check a b) (timeline_check (ranks_of ranks)) (relation_check (ranks_of ranks) a rel b)
  check (clash cites walk spares) = three_checks (cites_check cites) (closed_check cites walk) (spares_check cites spares)

-- evidence is not both supported and refused, and is refused for one reason at most
pub one_verdict : OneVerdict
one_verdict net e = let checked = check net e in record { not_both = checked.not_both; one_refusal = checked.once }

-- an answer that is Ok only where evidence is supported, and refuses it else, is Ok exactly where it is supported
pub ok_exactly : {C : Type 0} (result : Result C Refused) (net : PlainNet) (e : PlainEvidence) → OnOk result (IsSupported net e) → IfErr result (IsRefused net e) → IsOk result ↔ IsSupported net e
ok_exactly (Ok claim) net e ok err = (λ is. ok, λ supported. refl)
ok_exactly (Err refused) net e ok err = (λ is. absurd (let e = is in cc), λ supported. absurd ((check net e).not_both refused supported err))
