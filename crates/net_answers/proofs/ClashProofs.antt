-- A minimal clash that proves itself is well-formed evidence that its net supports.
use Rattle.std.proofs.Common.{◌≡◌, ℕ, ◌<◌, List, [], length, map, slice_index_or, sym, ap, subst, ◌∙◌, arith}
use Rattle.std.specs.List.{Contains}
use Rattle.std.proofs.lemmas.List.{get_or-map, length-map}
use Rattle.std.proofs.lemmas.List.Elements.{All-from_get_or}
use Rattle.named.proofs.Pairs.{zip_from}
use Rattle.net_core.specs.Clashes.{Others}
use Rattle.net_core.specs.Fits.{RanksFitWith}
use Rattle.net_core.specs.Nets.{IsNet, PlainNet, points}
use Rattle.net_core.specs.Ranks.{pairs_of, ranks_of}
use Rattle.net_core.proofs.RankLaws.{even_length, ranks_again}
use Rattle.net_core.specs.Entailment.{HasNoTimeline}
use Rattle.clash.specs.Minimal.{IsProvedClash}
use Rattle.clash.specs.declared.minimal.Clash.{Clash}
use Rattle.evidence_format.specs.Bundles.{IsClaimText}
use Rattle.evidence_format.specs.Evidence.{AreRanks, IsWellFormed, clash}
use Rattle.evidence_format.proofs.SmallRanks.{small_ranks}
use Rattle.evidence_check.specs.Refusals.{cite_at, spare_ranks_at}
use Rattle.evidence_check.specs.Supported.{FitsOthers, IsSupported}
use Rattle.evidence_check.proofs.Cites.{no_more}
use Rattle.evidence_check.proofs.Soundness.{supported_is_true}
use Rattle.net_answers.specs.Showing.{ShowsClash}
use Rattle.net_answers.proofs.Sizes.{clash_size}
use Rattle.net_answers.proofs.StepNumbers.{walk_numbers}

module _ (net : PlainNet) (is : IsNet net) (found : Clash) (proved : IsProvedClash net found) where
  abbrev spare_at : ℕ → List ℕ
  spare_at i = slice_index_or found.spares i []

  count : length found.spares ≡ length found.cites
  count = proved.spares.0

  -- its numbers can stand in a text
  pub clash_well_formed : IsWellFormed (clash found.cites found.walk (map pairs_of found.spares))
  clash_well_formed =
      let few_links = is.few_links in
      let few = is.few_intervals in
      let cites = no_more found.cites (length net.links) proved.rising (λ i lt. proved.minimal.links i 0 lt) in
      let closed = proved.closed.0 in (
        (proved.rising, (λ i d lt. let below = proved.minimal.links i d lt in omega arith), omega arith),
        (walk_numbers net found.walk closed.0 closed.0 is closed.1.0, (let short = proved.short in omega arith)),
        All-from_get_or AreRanks (map pairs_of found.spares) [] (λ i lt.
            let within : i < length found.spares = omega (arith, lt, length-map found.spares pairs_of) in
            let spare = proved.spares.1 i (omega (arith, within, count)) in
            subst AreRanks (sym (get_or-map pairs_of found.spares i [] [] within)) (small_ranks (points net) (spare_at i) (omega arith) spare.size spare.small)),
        length-map found.spares pairs_of ∙ count,
      )

  -- each of its spares fits with the other links
  spare_fits : (i : ℕ) → i < length found.cites → FitsOthers net found.cites (cite_at found.cites i) (spare_ranks_at (map pairs_of found.spares) i)
  spare_fits i lt =
      let spare = proved.spares.1 i lt in
      let here : ranks_of (spare_ranks_at (map pairs_of found.spares) i) ≡ spare_at i =
      ap ranks_of (get_or-map pairs_of found.spares i [] [] (omega (arith, lt, count))) ∙ ranks_again (spare_at i) (even_length (length net.bounds) (spare_at i) spare.size) in
      subst (RanksFitWith net (Others (Contains found.cites) (cite_at found.cites i))) (sym here) (spare.size, spare.least.holds)

  -- and its text tells it
  pub shows_clash : (text : List ℕ) → HasNoTimeline net → IsClaimText (clash found.cites found.walk (map pairs_of found.spares)) text → ShowsClash net text
  shows_clash text none is_text =
      let supported : IsSupported net (clash found.cites found.walk (map pairs_of found.spares)) = (proved.minimal.links, proved.closed, zip_from (FitsOthers net found.cites) 0 [] found.cites (map pairs_of found.spares) (length-map found.spares pairs_of ∙ count) spare_fits) in
      record {
        none = none;
        cites = found.cites;
        walk = found.walk;
        spares = found.spares;
        short = proved.short;
        least = proved.spares;
        evidence = (
          is_text,
          supported,
          supported_is_true net (clash found.cites found.walk (map pairs_of found.spares)) supported,
          clash_size net found.cites found.walk found.spares text is proved.rising proved.minimal.links proved.closed proved.short proved.spares is_text,
        );
      }
