use Rattle.tml_span.proofs.FirstBad.{found_within, passes_all, first_found, passes_reference}
use Rattle.tml_span.proofs.references.bad_reference.Goals as goal

pub returns-then-not-begins_reference-clause-first : goal.returns-then-not-begins_reference-clause-first
returns-then-not-begins_reference-clause-first c =
    first_found c.args.bytes.now c.loop-ahead.index c.in-Some.ahead c.loop-ahead.invariant.none c.in-Some.ensures (λ b. let e = c.begins_reference.ensures.1 b in cc)

pub loop-ahead-preserved : goal.loop-ahead-preserved
loop-ahead-preserved c = record {
  within = found_within c.args.bytes.now c.loop-ahead.index c.in-Some.ahead c.in-Some.ensures;
  none = passes_reference c.args.bytes.now c.loop-ahead.index c.in-Some.ahead c.loop-ahead.invariant.none c.in-Some.ensures (c.begins_reference.ensures.0 c.if-not-begins_reference.false);
}

pub returns-clause-first : goal.returns-clause-first
returns-clause-first c = passes_all c.args.bytes.now c.loop-ahead.index c.loop-ahead.invariant.none c.in_default.ensures
