use Rattle.std.proofs.Common.{refl, ap, ◌∙◌, rules}
use Rattle.std.proofs.lemmas.Bool.{or_from}
use Rattle.net_core.specs.Rels.{rel_text, all_rels}
use Rattle.tml_types.specs.Rules.{is_absent}
use Rattle.tml_types.specs.Values.{is_named}
use Rattle.tml_types.specs.View.{reference_at_end}
use Rattle.tml_types.proofs.GoodRows.{fits, one_there}
use Rattle.tml_types.proofs.typing.tlink.Goals as goal

pub returns-clause-ok : goal.returns-clause-ok
returns-clause-ok c =
    let text = c.in_ok-rel.ensures.value in
    let rel = c.in_ok-rel-2.ensures.good in
    let names = c.in_ok-lid.ensures.good in
    let ends = c.in_ok-left-2.ensures.ends in
    let left = one_there _ _ c.in_ok-left.left (reference_at_end c.in_ok-left-2.left) c.in_ok-left.ensures.pair c.in_ok-identifiers.ensures.good ends.0 in
    let right = one_there _ _ c.in_ok-right.right (reference_at_end c.in_ok-left-2.right) c.in_ok-right.ensures.pair c.in_ok-identifiers-2.ensures.good ends.1 in record {
      none_missing = or_from _ _ (ap is_absent text) (or_from _ _ left.0 (or_from _ _ right.0 refl));
      none_bad = or_from _ _ (fits (is_named rel_text all_rels) _ _ text rel.1) (or_from _ _ left.1 (or_from _ _ right.1 (or_from _ _ names.0.1 (or_from _ _ names.1.1 refl))));
      no_conflict = or_from _ _ left.2 (or_from _ _ right.2 refl);
      place_is = refl;
      small = search rules;
      kind = refl;
      fields = (names.0.0, names.1.0, left.3, text ∙ rel.0, right.3);
    }
