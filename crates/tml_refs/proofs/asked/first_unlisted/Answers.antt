use Rattle.std.proofs.Common.{◌∙◌, sym, ap, refl}
use Rattle.std.proofs.lemmas.List.Elements.{Contains-get_or}
use Rattle.tml_refs.specs.declared.asked.AskedReference.{AskedReference}
use Rattle.tml_refs.specs.Asking.{IsUnlistedAt, asked_reference}
use Rattle.tml_refs.specs.Firsts.{bound}
use Rattle.tml_refs.specs.NameIndex.{is_unlisted}
use Rattle.tml_refs.proofs.Earliest.{earlier_here}
use Rattle.tml_refs.proofs.Failing.{fails_next, passes_next}
use Rattle.tml_refs.proofs.asked.first_unlisted.Goals as goal
use Rattle.tml_refs.proofs.asked.first_unlisted.Goals.{then-lacks, else-lacks}

pub loop-reference-preserved : goal.loop-reference-preserved
loop-reference-preserved c =
    let names = c.args.names.now in
    let asked = c.args.asked.now in
    let loop = c.loop-reference in
    let place = λ (a : AskedReference). a.place in
    let fails = λ (a : AskedReference). is_unlisted names (asked_reference a) in
    elim c.if-lacks.branch [
      | then-lacks w ↦
          let new = ap bound w.first-is ∙ w.earlier-first.ensures in
          record {
            before = fails_next asked place fails loop.reference-index (bound loop.first) (bound c.if-lacks.first) _ c.loop-reference-test.true loop.invariant.before new;
            here = earlier_here (IsUnlistedAt names asked) (bound loop.first) _ (bound c.if-lacks.first) new loop.invariant.here (λ small. (_, Contains-get_or asked loop.reference-index _ c.loop-reference-test.true, refl, sym c.lacks.ensures ∙ w.if-lacks.true));
          }
      | else-lacks w ↦
          record {
            before = passes_next asked place fails loop.reference-index (bound loop.first) (bound c.if-lacks.first) _ c.loop-reference-test.true loop.invariant.before (sym c.lacks.ensures ∙ w.if-lacks.false) (ap bound w.first-is);
            here = rw w.first-is loop.invariant.here;
          }
    ]
