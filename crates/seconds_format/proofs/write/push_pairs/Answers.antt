use Rattle.std.proofs.Common.{◌≡◌, ◌∷◌, ◌++◌, ◌-◌, length, get_or, take, drop, pos, FitsSigned, w64, sym, ap, subst, ◌∙◌, append_assoc, to_z, of_z, rules}
use Rattle.std.specs.List.{AllByRecursion, flat_map}
use Rattle.std.proofs.lemmas.Int.{to_z-of_z}
use Rattle.seconds_format.specs.Texts.{IsLongPair, seconds_at_line, pairs_of_seconds}
use Rattle.seconds_format.proofs.PairLaws.{pairs_cut}
use Rattle.seconds_format.proofs.write.push_pairs.Goals as goal

pub loop-rest-preserved : goal.loop-rest-preserved
loop-rest-preserved c =
    let rest = c.loop-rest.rest.now in
    let after = pairs_of_seconds (take (length rest - 2) (drop 2 rest)) in
    let start = get_or rest 0 (pos 0) in
    let finish = get_or rest 1 (pos 0) in
    let start_fits : FitsSigned w64 start = search rules in
    let finish_fits : FitsSigned w64 finish = search rules in
    let cut : pairs_of_seconds rest ≡ (start, finish) ∷ after = pairs_cut rest c.in-len2-up.len_at_least in
    let same : seconds_at_line (to_z w64 (of_z w64 start), to_z w64 (of_z w64 finish)) ≡ seconds_at_line (start, finish) = λ i. seconds_at_line (to_z-of_z w64 start start_fits i, to_z-of_z w64 finish finish_fits i) in
    record {
      bytes = ap (λ out. out ++ flat_map seconds_at_line after) (c.in_ok-push_pair.ensures ∙ ap (λ line. c.loop-rest.out.items ++ line) same) ∙ append_assoc c.loop-rest.out.items (seconds_at_line (start, finish)) (flat_map seconds_at_line after) ∙ ap (λ pairs. c.loop-rest.out.items ++ flat_map seconds_at_line pairs) (sym cut) ∙ c.loop-rest.invariant.bytes;
      good = λ good. c.loop-rest.invariant.good (subst (AllByRecursion IsLongPair) (sym cut) ((start_fits, finish_fits), good));
    }
