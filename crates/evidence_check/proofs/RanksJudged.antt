-- Ranks fit, or they are a misfit for a reason.
use Rattle.std.proofs.Common.{inl, inr, ℕ, ◌+◌, ◌*◌, List, length, ap, ◌∙◌}
use native.Mathlib.Decide.{dec_lt, ℕ_discrete}
use Rattle.net_core.proofs.Lent.{implied}
use Rattle.net_core.specs.Fits.{KeepsCalendar, KeepsLink, RanksFitWith, StartsFirst}
use Rattle.net_core.specs.Nets.{PlainNet, intervals, link_at, lower, points, upper}
use Rattle.net_core.specs.Ranks.{ranks_of, timeline_of}
use Rattle.net_core.proofs.Deciding.{follows_numbers, relates}
use Rattle.net_core.proofs.FirstLaws.{first_or_none, first_pair_or_none}
use Rattle.net_core.proofs.RankLaws.{ranks_length}
use Rattle.evidence_check.specs.declared.refusal.Reason.TheVariants.{Size, Order, Link, Calendar}
use Rattle.evidence_check.specs.Refusals.{HasSize, IsMisfit}
use Rattle.evidence_check.proofs.Reasons.{OrReason}

module _ (net : PlainNet) (Chosen : ℕ → Type 0) (chosen : (k : ℕ) → Dec (Chosen k)) where
  -- whether a link holds where it is asked
  keeps_link : (ranks : List ℕ) (k : ℕ) → Dec (Chosen k → KeepsLink net (timeline_of ranks) k)
  keeps_link ranks k = let link = link_at net k in implied (chosen k) (relates (timeline_of ranks) link.rel link.a link.b)

  -- where there are two for each interval
  sized : (ranks : List ℕ) → HasSize net ranks → OrReason (RanksFitWith net Chosen ranks) (IsMisfit net Chosen ranks)
  sized ranks size =
      let t = timeline_of ranks in
      elim (first_or_none (intervals net) (StartsFirst t) (λ i. dec_lt (t (2 * i)) (t (2 * i + 1)))) [
        | inr first ↦ inr (Order first.0, (size, first.1))
        | inl order ↦ elim (first_or_none (length net.links) (λ k. Chosen k → KeepsLink net t k) (keeps_link ranks)) [
          | inr first ↦ inr (Link first.0, (size, order, first.1))
          | inl links ↦ elim (first_pair_or_none (points net) (KeepsCalendar net t) (λ p q. follows_numbers (upper net p) (lower net q) (t p) (t q))) [
            | inr first ↦ inr (Calendar first.0.0 first.0.1, (size, order, links, first.1))
            | inl calendar ↦ inl (size, record { order = order; links = links; calendar = calendar })
          ]
        ]
      ]

  pub fit_or_misfit : (pairs : List (ℕ × ℕ)) → OrReason (RanksFitWith net Chosen (ranks_of pairs)) (IsMisfit net Chosen (ranks_of pairs))
  fit_or_misfit pairs = elim (ℕ_discrete (length pairs) (intervals net)) [
    | yes size ↦ sized (ranks_of pairs) (ranks_length pairs ∙ ap (λ (n : ℕ). 2 * n) size)
    | no other ↦ inr (Size (length pairs), (ranks_length pairs, other))
  ]
