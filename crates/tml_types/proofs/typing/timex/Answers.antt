use Rattle.std.proofs.Common.{refl, ap, ◌∙◌, rules}
use Rattle.std.proofs.lemmas.Bool.{or_from}
use Rattle.timex_value.specs.Kinds.{kind_text, all_kinds}
use Rattle.tml_types.specs.Rules.{is_absent}
use Rattle.tml_types.specs.Values.{is_identifier, is_named}
use Rattle.tml_types.proofs.GoodRows.{any_fits, fits}
use Rattle.tml_types.proofs.typing.timex.Goals as goal

pub returns-clause-ok : goal.returns-clause-ok
returns-clause-ok c =
    let texts = c.in_ok-tid.ensures.values in
    let tid = c.in_ok-tid-2.ensures.good in
    let kind = c.in_ok-kind.ensures.good in
    let modifier = c.in_ok-modifier.ensures.good in
    let function = c.in_ok-function.ensures.good in
    let temporal = c.in_ok-temporal.ensures.good in
    let anchor = c.in_ok-anchor.ensures.good in
    let ends = c.in_ok-begin.ensures.good in record {
      none_missing = or_from _ _ (ap is_absent texts.0) (or_from _ _ (ap is_absent texts.1) refl);
      none_bad = or_from _ _ (fits is_identifier _ _ texts.0 tid.1) (or_from _ _ (fits (is_named kind_text all_kinds) _ _ texts.1 kind.1) (or_from _ _ (any_fits _) (or_from _ _ modifier.1 (or_from _ _ function.1 (or_from _ _ temporal.1
          (or_from _ _ anchor.1 (or_from _ _ ends.0.1 (or_from _ _ ends.1.1 (or_from _ _ (any_fits _) (or_from _ _ (any_fits _) refl))))))))));
      no_conflict = refl;
      place_is = refl;
      small = search rules;
      kind = refl;
      fields = (texts.0 ∙ tid.0, texts.1 ∙ kind.0, c.in_ok-value.ensures.value, modifier.0, function.0, temporal.0, anchor.0, ends.0.0, ends.1.0);
    }
