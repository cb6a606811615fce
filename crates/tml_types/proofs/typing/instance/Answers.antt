use Rattle.std.proofs.Common.{refl, ap, ◌∙◌, rules}
use Rattle.std.proofs.lemmas.Bool.{or_from}
use Rattle.tml_types.specs.Rules.{is_absent}
use Rattle.tml_types.specs.Values.{is_identifier}
use Rattle.tml_types.proofs.GoodRows.{any_fits, fits}
use Rattle.tml_types.proofs.typing.instance.Goals as goal

pub returns-clause-ok : goal.returns-clause-ok
returns-clause-ok c =
    let texts = c.in_ok-eiid.ensures.values in
    let eiid = c.in_ok-eiid-2.ensures.good in
    let event = c.in_ok-event.ensures.good in
    let tense = c.in_ok-optional_listed.ensures.good in
    let aspect = c.in_ok-optional_listed-2.ensures.good in
    let pos = c.in_ok-optional_listed-3.ensures.good in
    let polarity = c.in_ok-optional_listed-4.ensures.good in
    let signal = c.in_ok-optional_identifier.ensures.good in record {
      none_missing = or_from _ _ (ap is_absent texts.0) (or_from _ _ (ap is_absent texts.1) refl);
      none_bad = or_from _ _ (fits is_identifier _ _ texts.0 eiid.1) (or_from _ _ (fits is_identifier _ _ texts.1 event.1) (or_from _ _ tense.1 (or_from _ _ aspect.1 (or_from _ _ pos.1 (or_from _ _ polarity.1
          (or_from _ _ signal.1 (or_from _ _ (any_fits _) (or_from _ _ (any_fits _) refl))))))));
      no_conflict = refl;
      place_is = refl;
      small = search rules;
      kind = refl;
      fields = (texts.0 ∙ eiid.0, texts.1 ∙ event.0, signal.0, tense.0, aspect.0, pos.0, polarity.0);
    }
