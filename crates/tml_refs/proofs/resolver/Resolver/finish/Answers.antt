use Rattle.tml_refs.proofs.Finishing.{HasFound, fault_is, indexed, resolved}
use Rattle.tml_refs.specs.Firsts.{bound}
use Rattle.tml_refs.proofs.resolver.Resolver.finish.Goals as goal

pub returns-in-Some-clause-err : goal.returns-in-Some-clause-err
returns-in-Some-clause-err c = λ tags taken.
    let found : HasFound c.new-names.result c.args.self.asked c.args.self.links (bound c.first_repeat-repeat.result) (bound c.first_unlisted-unlisted.result) (bound c.in-Ok.loose) = record {
      repeats = c.first_repeat-repeat.ensures;
      before = rw c.as_slice.ensures at c.first_unlisted-unlisted.ensures.before;
      here = rw c.as_slice.ensures at c.first_unlisted-unlisted.ensures.here;
      before_loose = rw c.as_slice-2.ensures at c.in-Ok.ensures.before;
      here_loose = rw c.as_slice-2.ensures at c.in-Ok.ensures.here;
    } in
    fault_is taken c.new-names.result (c.new-names.ensures tags taken.entries) (bound c.first_repeat-repeat.result) (bound c.first_unlisted-unlisted.result) (bound c.in-Ok.loose) (bound c.earlier.result) found c.earlier.ensures c.in-Some.fault c.in-Some.ensures

pub invariant_of-result : goal.invariant_of-result
invariant_of-result c =
    let tags = c.requires.0 in
    let taken = c.requires.1 in
    let found : HasFound c.new-names.result c.args.self.asked c.args.self.links (bound c.first_repeat-repeat.result) (bound c.first_unlisted-unlisted.result) (bound c.in-Ok.loose) = record {
      repeats = c.first_repeat-repeat.ensures;
      before = rw c.as_slice.ensures at c.first_unlisted-unlisted.ensures.before;
      here = rw c.as_slice.ensures at c.first_unlisted-unlisted.ensures.here;
      before_loose = rw c.as_slice-2.ensures at c.in-Ok.ensures.before;
      here_loose = rw c.as_slice-2.ensures at c.in-Ok.ensures.here;
    } in
    indexed taken c.new-names.result (c.new-names.ensures tags taken.entries) (bound c.first_repeat-repeat.result) (bound c.first_unlisted-unlisted.result) (bound c.in-Ok.loose) (bound c.earlier.result) found c.earlier.ensures c.in-None.ensures c.link_up.new.links (rw c.as_slice-2.ensures at c.in-Ok.ensures.links)

pub returns-clause-ok : goal.returns-clause-ok
returns-clause-ok c = λ tags taken.
    let found : HasFound c.new-names.result c.args.self.asked c.args.self.links (bound c.first_repeat-repeat.result) (bound c.first_unlisted-unlisted.result) (bound c.in-Ok.loose) = record {
      repeats = c.first_repeat-repeat.ensures;
      before = rw c.as_slice.ensures at c.first_unlisted-unlisted.ensures.before;
      here = rw c.as_slice.ensures at c.first_unlisted-unlisted.ensures.here;
      before_loose = rw c.as_slice-2.ensures at c.in-Ok.ensures.before;
      here_loose = rw c.as_slice-2.ensures at c.in-Ok.ensures.here;
    } in
    resolved taken c.new-names.result (c.new-names.ensures tags taken.entries) (bound c.first_repeat-repeat.result) (bound c.first_unlisted-unlisted.result) (bound c.in-Ok.loose) (bound c.earlier.result) found c.earlier.ensures c.in-None.ensures c.link_up.new.links (rw c.as_slice-2.ensures at c.in-Ok.ensures.links)
