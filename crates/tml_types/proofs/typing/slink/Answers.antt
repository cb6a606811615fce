use Rattle.std.proofs.Common.{refl, ap, ◌∙◌, rules}
use Rattle.std.proofs.lemmas.Bool.{or_from}
use Rattle.tml_types.specs.Listed.{all_sub_rels, sub_rel_text}
use Rattle.tml_types.specs.Rules.{is_absent}
use Rattle.tml_types.specs.Values.{is_identifier, is_named}
use Rattle.tml_types.proofs.GoodRows.{fits}
use Rattle.tml_types.proofs.typing.slink.Goals as goal

pub returns-clause-ok : goal.returns-clause-ok
returns-clause-ok c =
    let texts = c.in_ok-subordinated.ensures.values in
    let subordinated = c.in_ok-subordinated-2.ensures.good in
    let rel = c.in_ok-rel.ensures.good in
    let event = c.in_ok-event.ensures.good in
    let names = c.in_ok-lid.ensures.good in record {
      none_missing = or_from _ _ (ap is_absent texts.0) (or_from _ _ (ap is_absent texts.1) refl);
      none_bad = or_from _ _ (fits is_identifier _ _ texts.0 subordinated.1) (or_from _ _ (fits (is_named sub_rel_text all_sub_rels) _ _ texts.1 rel.1) (or_from _ _ event.1 (or_from _ _ names.0.1 (or_from _ _ names.1.1 refl))));
      no_conflict = refl;
      place_is = refl;
      small = search rules;
      kind = refl;
      fields = (names.0.0, names.1.0, event.0, texts.0 ∙ subordinated.0, texts.1 ∙ rel.0);
    }
