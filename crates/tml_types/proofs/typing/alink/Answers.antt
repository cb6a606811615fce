use Rattle.std.proofs.Common.{refl, ap, ◌∙◌, rules}
use Rattle.std.proofs.lemmas.Bool.{or_from}
use Rattle.tml_types.specs.Listed.{all_aspect_rels, aspect_rel_text}
use Rattle.tml_types.specs.Rules.{is_absent}
use Rattle.tml_types.specs.Values.{is_identifier, is_named}
use Rattle.tml_types.proofs.GoodRows.{fits}
use Rattle.tml_types.proofs.typing.alink.Goals as goal

pub returns-clause-ok : goal.returns-clause-ok
returns-clause-ok c =
    let text = c.in_ok-event.ensures.value in
    let texts = c.in_ok-related.ensures.values in
    let event = c.in_ok-event-2.ensures.good in
    let related = c.in_ok-related-2.ensures.good in
    let rel = c.in_ok-rel.ensures.good in
    let names = c.in_ok-lid.ensures.good in record {
      none_missing = or_from _ _ (ap is_absent text) (or_from _ _ (ap is_absent texts.0) (or_from _ _ (ap is_absent texts.1) refl));
      none_bad = or_from _ _ (fits is_identifier _ _ text event.1) (or_from _ _ (fits is_identifier _ _ texts.0 related.1) (or_from _ _ (fits (is_named aspect_rel_text all_aspect_rels) _ _ texts.1 rel.1) (or_from _ _ names.0.1 (or_from _ _ names.1.1 refl))));
      no_conflict = refl;
      place_is = refl;
      small = search rules;
      kind = refl;
      fields = (names.0.0, names.1.0, text ∙ event.0, texts.0 ∙ related.0, texts.1 ∙ rel.0);
    }
