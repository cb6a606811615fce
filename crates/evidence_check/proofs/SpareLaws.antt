-- Timelines without one of the cited links, by their number.
use Rattle.std.proofs.Common.{◌≡◌, ℕ, ◌+◌, ◌<◌, List, [], length, map, get_or, refl, sym, ap, subst, ◌∙◌, arith}
use Rattle.std.specs.List.{All, Contains}
use Rattle.std.proofs.lemmas.List.{get_or-map, length-map}
use Rattle.std.proofs.lemmas.List.Elements.{All-get_or}
use Rattle.net_core.specs.Clashes.{Others}
use Rattle.net_core.specs.Fits.{RanksFitWith}
use Rattle.net_core.specs.Nets.{PlainNet}
use Rattle.net_core.specs.Ranks.{AreEven, pairs_of, ranks_of}
use Rattle.net_core.proofs.RankLaws.{ranks_again}
use Rattle.evidence_format.specs.Evidence.{AreRanks}
use Rattle.evidence_format.specs.Numbers.{IsNumber}
use Rattle.evidence_check.specs.declared.refusal.Reason.{Reason}
use Rattle.evidence_check.specs.Refusals.{IsMisfit, IsSpareAt, IsSpareRefused, cite_at, spare_ranks_at}
use Rattle.evidence_check.proofs.Verdicts.{no_misfit}

module _ (spares : List (List ℕ)) (i : ℕ) (ranks : List ℕ) (below : i < length spares) (same : ranks ≡ get_or spares i []) where
  -- the pairs that were read are those of their number
  pairs_are : pairs_of ranks ≡ get_or (map pairs_of spares) i []
  pairs_are = ap pairs_of same ∙ sym (get_or-map pairs_of spares i [] [] below)

  -- so are the ranks
  pub spare_is : AreEven ranks → ranks ≡ ranks_of (spare_ranks_at (map pairs_of spares) i)
  spare_is even = sym (ranks_again ranks even) ∙ ap ranks_of pairs_are

  -- and there are no more than can stand in a text
  pub spare_is_short : All AreRanks (map pairs_of spares) → IsNumber (length (pairs_of ranks))
  spare_is_short all =
      let fit = All-get_or AreRanks (map pairs_of spares) i [] (omega (arith, below, length-map spares pairs_of)) all in
      subst (λ (pairs : List (ℕ × ℕ)). IsNumber (length pairs)) (sym pairs_are) fit.1

module _ (net : PlainNet) (cites : List ℕ) (spares : List (List (ℕ × ℕ))) (i : ℕ) (ranks : List ℕ) (is : ranks ≡ ranks_of (spare_ranks_at spares i)) where
  -- a timeline that fits is one of its number that does
  pub fits_others : RanksFitWith net (Others (Contains cites) (cite_at cites i)) ranks → IsSpareAt net cites spares i
  fits_others fits = subst (RanksFitWith net (Others (Contains cites) (cite_at cites i))) is fits

  -- the first that does not is refused
  pub spare_refused : (reason : Reason) → i < length cites → ((j : ℕ) → j < i → IsSpareAt net cites spares j) → IsMisfit net (Others (Contains cites) (cite_at cites i)) ranks reason
      → IsSpareRefused net cites spares (record { part = i + 2; reason = reason })
  spare_refused reason below so_far misfit =
      let there = subst (λ (r : List ℕ). IsMisfit net (Others (Contains cites) (cite_at cites i)) r reason) is misfit in
      (i, (below, (λ fits. no_misfit net (Others (Contains cites) (cite_at cites i)) (ranks_of (spare_ranks_at spares i)) reason fits there), so_far), refl, there)
