use Rattle.std.proofs.Common.{sym, arith}
use Rattle.tml_span.proofs.Checks.{is_within, one_checked, all_checked}
use Rattle.tml_span.proofs.check.check_attributes.Goals as goal

pub first_bad-bad-requires : goal.first_bad-bad-requires
first_bad-bad-requires c = is_within c.loop-attr.at c.loop-attr.rest.now _ c.in-Some.after.now (sym c.in-Some.ensures.reads)

pub loop-attr-preserved : goal.loop-attr-preserved
loop-attr-preserved c =
    let at = c.loop-attr.invariant in
    let shorter = c.in-Some.ensures.shorter in
    record {
      place = omega (arith, at.place, shorter);
      shorter = omega (arith, at.shorter, shorter);
      checked = one_checked _ c.loop-attr.at _ c.loop-attr.rest.now _ c.loop-attr.bad c.first_bad-bad.result _ at.checked (sym c.in-Some.ensures.reads) c.first_bad-bad.ensures;
    }

pub returns-clause-reads : goal.returns-clause-reads
returns-clause-reads c = all_checked _ c.loop-attr.at _ c.loop-attr.rest.now c.loop-attr.bad c.loop-attr.invariant.checked (sym c.in_default.ensures.reads)
