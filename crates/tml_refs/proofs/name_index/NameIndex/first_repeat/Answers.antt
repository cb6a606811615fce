use Rattle.std.proofs.Common.{◌∙◌, List, sym, ap, subst, min, arith}
use Rattle.tml_refs.specs.declared.name_index.Entry.{Entry}
use Rattle.tml_refs.specs.Firsts.{bound, nowhere}
use Rattle.tml_refs.specs.NameIndex.{AreEntriesInOrder, IsFirstRepeat}
use Rattle.tml_refs.proofs.Scanning.{scanned_other, scanned_same, scanned_to_end}
use Rattle.tml_refs.proofs.name_index.NameIndex.first_repeat.Goals as goal
use Rattle.tml_refs.proofs.name_index.NameIndex.first_repeat.Goals.{then-has_name_of, else-has_name_of}

pub loop-i-preserved : goal.loop-i-preserved
loop-i-preserved c =
    let slice = c.as_slice-entries in
    let order = subst AreEntriesInOrder (sym slice.ensures.value) c.self.invariant in
    let loop = c.loop-i in
    record {
      from = omega arith;
      scanned = elim c.if-has_name_of.branch [
        | then-has_name_of w ↦ scanned_same slice.result.now order nowhere (bound loop.first) loop.least loop.i _ loop.invariant.from c.loop-i-test.true loop.invariant.scanned (bound c.if-has_name_of.first) c.if-has_name_of.least (sym c.has_name_of.ensures ∙ w.if-has_name_of.true) (ap bound w.first-is ∙ w.earlier-first.ensures ∙ ap (λ n. min (bound loop.first) n) w.max.ensures) (w.least-is ∙ w.min-least.ensures)
        | else-has_name_of w ↦ scanned_other slice.result.now order nowhere (bound loop.first) loop.least loop.i _ loop.invariant.from c.loop-i-test.true loop.invariant.scanned (bound c.if-has_name_of.first) c.if-has_name_of.least (sym c.has_name_of.ensures ∙ w.if-has_name_of.false) (ap bound w.first-is) w.least-is
      ];
    }

pub returns : goal.returns
returns c =
    let slice = c.as_slice-entries in
    let loop = c.loop-i in
    subst (λ (entries : List Entry). IsFirstRepeat entries nowhere (bound loop.first)) (slice.ensures.value ∙ c.self.view_is)
    (scanned_to_end slice.result.now nowhere (bound loop.first) loop.least loop.i c.in-len1-up.len_at_least c.loop-i-test.false loop.invariant.scanned)
