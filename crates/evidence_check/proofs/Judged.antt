-- Evidence is supported, or refused.
use Rattle.std.proofs.Common.{◌≡◌, ◌∙◌, false, ◌⊎◌, inl, inr, ℕ, ◌+◌, ◌<◌, List, [], length, refl, sym}
use Rattle.std.specs.List.{Contains}
use Rattle.std.proofs.lemmas.List.Elements.{All-from_get_or}
use Rattle.std.proofs.lemmas.Bool.{cases_lt}
use native.Mathlib.Decide.{dec_lt}
use Rattle.net_core.proofs.Lent.{zip_from}
use Rattle.net_core.specs.Atoms.{atoms_of, points_of}
use Rattle.net_core.specs.Clashes.{Others}
use Rattle.net_core.specs.Fits.{EveryLink, RanksFit}
use Rattle.net_core.specs.Nets.{PlainNet, intervals}
use Rattle.net_core.specs.Ranks.{ranks_of, timeline_of}
use Rattle.net_core.specs.declared.rels.Rel.{Rel}
use Rattle.net_core.specs.declared.step.Step.{Step as StepOf}
use Rattle.net_core.proofs.AtomLaws.{atoms_counted}
use Rattle.net_core.proofs.Deciding.{relates}
use Rattle.net_core.proofs.FirstLaws.{first_or_none}
use Rattle.net_core.specs.Entailment.{AreIntervals}
use Rattle.evidence_format.specs.Evidence.{PlainEvidence, timeline, entails, counter, clash}
use Rattle.evidence_check.specs.declared.refusal.Reason.{Reason}
use Rattle.evidence_check.specs.declared.refusal.Reason.TheVariants.{Number, Holds}
use Rattle.evidence_check.specs.declared.refusal.Refused.{Refused}
use Rattle.evidence_check.specs.Refusals.{IsBadNumber, IsMisfit, IsNoProof, IsCiteOfLink, IsSpareAt, IsSpareRefused, Proves, SupportedOrRefused, atom_at, cite_at, spare_ranks_at, walk_at}
use Rattle.evidence_check.specs.Supported.{AllFitOthers, FitsOthers, IsProof}
use Rattle.evidence_check.proofs.Deciding.{others}
use Rattle.evidence_check.proofs.Proving.{not_both}
use Rattle.evidence_check.proofs.RanksJudged.{fit_or_misfit}
use Rattle.evidence_check.proofs.Reasons.{OrReason, first_bad}
use Rattle.evidence_check.proofs.Verdicts.{no_misfit}
use Rattle.evidence_check.proofs.WalksJudged.{proof_or_none, closed_or_none}

abbrev refusal : ℕ → Reason → Refused
refusal part reason = record { part = part; reason = reason }

module _ (net : PlainNet) where
  -- two numbers are those of intervals, or one is the first that is not
  numbers : (a b : ℕ) → AreIntervals net a b ⊎ ((n : ℕ) × IsBadNumber net a b n)
  numbers a b = elim (cases_lt a (intervals net)) [
    | inr past ↦ inr (a, inl (past, refl))
    | inl first ↦ elim (cases_lt b (intervals net)) [
      | inr past ↦ inr (b, inr (first, past, refl))
      | inl second ↦ inl (first, second)
    ]
  ]

  -- ranks of a timeline that is asked to keep all links
  fit : (pairs : List (ℕ × ℕ)) → OrReason (RanksFit net (ranks_of pairs)) (IsMisfit net EveryLink (ranks_of pairs))
  fit pairs = fit_or_misfit net EveryLink (λ k. yes tt) pairs

  judged_entailment : (a : ℕ) (r : Rel) (b : ℕ) (walks : List (List StepOf)) → SupportedOrRefused net (entails a r b walks)
  judged_entailment a r b walks well = elim (numbers a b) [
    | inr bad ↦ inr (refusal 0 (Number bad.0), inl (refl, bad.0, refl, bad.1))
    | inl good ↦
        let atoms = atoms_of a r b in
        let size : length walks ≡ length atoms = well.3 ∙ sym (atoms_counted r (points_of a) (points_of b)) in
        elim (first_bad (Proves net atoms walks) (λ k. IsNoProof net (atom_at atoms k) (walk_at walks k)) (λ k. not_both net (atom_at atoms k) (walk_at walks k))
        (λ k. proof_or_none net (atom_at atoms k) (walk_at walks k)) (length atoms)) [
          | inr first ↦ inr (refusal (first.0 + 1) first.1, inr (good, (first.0, first.2, refl, first.3)))
          | inl all ↦ inl (good, zip_from (IsProof net) (record { from = 0; to = 0; strict = false }) [] atoms walks size all)
        ]
  ]

  judged_counterexample : (a : ℕ) (r : Rel) (b : ℕ) (ranks : List (ℕ × ℕ)) → SupportedOrRefused net (counter a r b ranks)
  judged_counterexample a r b ranks well = elim (numbers a b) [
    | inr bad ↦ inr (refusal 0 (Number bad.0), inl (refl, bad.0, refl, bad.1))
    | inl good ↦ elim (fit ranks) [
      | inr misfit ↦ inr (refusal 1 misfit.0, inr (inl (good, (refl, misfit.1))))
      | inl fits ↦ elim (relates (timeline_of (ranks_of ranks)) r a b) [
        | yes holds ↦ inr (refusal 2 Holds, inr (inr (good, fits, (refl, refl, holds))))
        | no fails ↦ inl (good, fits, fails)
      ]
    ]
  ]

  -- as many timelines fit with all cited links but one each, or one of them is the first that does not
  judged_spares : (cites : List ℕ) (spares : List (List (ℕ × ℕ))) → length spares ≡ length cites → AllFitOthers net cites spares ⊎ ((refused : Refused) × IsSpareRefused net cites spares refused)
  judged_spares cites spares size = elim (first_bad (IsSpareAt net cites spares) (λ i. IsMisfit net (Rest i) (ranks_of (spare_ranks_at spares i))) (λ i. no_misfit net (Rest i) (ranks_of (spare_ranks_at spares i))) spare (length cites)) [
    | inr first ↦ inr (refusal (first.0 + 2) first.1, (first.0, first.2, refl, first.3))
    | inl all ↦ inl (zip_from (FitsOthers net cites) 0 [] cites spares size all)
  ]
    where
      -- the other cited links
      Rest : ℕ → ℕ → Type 0
      Rest i = Others (Contains cites) (cite_at cites i)

      spare : (i : ℕ) → OrReason (IsSpareAt net cites spares i) (IsMisfit net (Rest i) (ranks_of (spare_ranks_at spares i)))
      spare i = fit_or_misfit net (Rest i) (others cites (cite_at cites i)) (spare_ranks_at spares i)

  judged_clash : (cites : List ℕ) (walk : List StepOf) (spares : List (List (ℕ × ℕ))) → SupportedOrRefused net (clash cites walk spares)
  judged_clash cites walk spares well = elim (first_or_none (length cites) (IsCiteOfLink net cites) (λ i. dec_lt (cite_at cites i) (length net.links))) [
    | inr first ↦ inr (refusal 0 (Number (cite_at cites first.0)), inl (refl, first.0, first.1, refl))
    | inl each ↦
        let links = All-from_get_or (λ (k : ℕ). k < length net.links) cites 0 each in
        elim (closed_or_none net cites walk) [
          | inr none ↦ inr (refusal 1 none.0, inr (inl (links, (refl, none.1))))
          | inl closed ↦ elim (judged_spares cites spares well.3) [
            | inr refused ↦ inr (refused.0, inr (inr (links, closed, refused.1)))
            | inl all ↦ inl (links, closed, all)
          ]
        ]
  ]

  pub supported_or_refused : (e : PlainEvidence) → SupportedOrRefused net e
  supported_or_refused (timeline ranks) well = elim (fit ranks) [
    | inr misfit ↦ inr (refusal 1 misfit.0, (refl, misfit.1))
    | inl fits ↦ inl fits
  ]
  supported_or_refused (entails a r b walks) well = judged_entailment a r b walks well
  supported_or_refused (counter a r b ranks) well = judged_counterexample a r b ranks well
  supported_or_refused (clash cites walk spares) well = judged_clash cites walk spares well
