use Rattle.std.proofs.Common.{◌≡◌, [], ◌∷◌, ◌++◌, inr, refl, sym, ap, ◌∙◌, length, append_assoc, append-nil, arith}
use Rattle.std.proofs.lemmas.List.{map-append}
use Rattle.std.proofs.lemmas.Result.{err_from_is_err_and}
use Rattle.std.specs.Vec.Iter.{into_iter_items}
use Rattle.tml_span.specs.View.{unit_of}
use Rattle.tml_tree.proofs.Passing.{refused}
use Rattle.tml_tree.proofs.Taken.{agrees, taken_more, nothing_left}
use Rattle.tml_tree.proofs.whole.root.Goals as goal

pub take-requires : goal.take-requires
take-requires c = agrees _ c.loop-unit.builder c.loop-unit.invariant.taken

pub loop-unit-preserved : goal.loop-unit-preserved
loop-unit-preserved c =
    let at = c.loop-unit in
    let steps = c.in-Some.ensures.steps.0 in
    record {
      items = append_assoc at.yielded (c.in-Some.unit ∷ []) _ ∙ rw (← steps) at.invariant.items;
      left =
          let was = at.invariant.left in
          let gone = c.in-Some.ensures.steps.1 in
          let short = ap length steps in
          omega arith;
      taken = rw (map-append unit_of at.yielded (c.in-Some.unit ∷ [])) (taken_more _ _ at.builder c.take.new.self at.invariant.taken c.in_ok-take.ensures.ok);
    }

pub returns-in_err-take-clause-fault : goal.returns-in_err-take-clause-fault
returns-in_err-take-clause-fault c =
    let at = c.loop-unit in
    let p = err_from_is_err_and c.from_residual.result c.from_residual.ensures.1 in
    let whole : at.yielded ++ (c.in-Some.unit ∷ into_iter_items c.next.new.self) ≡ c.args.units.items = rw (← c.in-Some.ensures.steps.0) (at.invariant.items ∙ c.into_iter-unit-iterator.ensures.into_iter_gives.0) in
    rw (p.1, p.2, ← whole, map-append unit_of at.yielded (c.in-Some.unit ∷ into_iter_items c.next.new.self))
    (refused c.args.length _ _ _ _ _ at.builder.nesting _ at.invariant.taken c.in_err-take.ensures.err)

pub returns-in-None-finish-clause-fault : goal.returns-in-None-finish-clause-fault
returns-in-None-finish-clause-fault c =
    let at = c.loop-unit in
    let empty : into_iter_items at.unit-iterator ≡ [] = nothing_left _ (sym at.invariant.left ∙ c.in-None.ensures.steps.0) in
    let all : at.yielded ≡ c.args.units.items = sym (append-nil at.yielded) ∙ rw empty at at.invariant.items ∙ c.into_iter-unit-iterator.ensures.into_iter_gives.0 in
    rw (← all) (inr (refl, refl, c.in-None-finish.ensures.none refl _ at.invariant.taken))

pub returns-in-Some-finish-clause-ok : goal.returns-in-Some-finish-clause-ok
returns-in-Some-finish-clause-ok c =
    let at = c.loop-unit in
    let empty : into_iter_items at.unit-iterator ≡ [] = nothing_left _ (sym at.invariant.left ∙ c.in-None.ensures.steps.0) in
    let all : at.yielded ≡ c.args.units.items = sym (append-nil at.yielded) ∙ rw empty at at.invariant.items ∙ c.into_iter-unit-iterator.ensures.into_iter_gives.0 in
    rw (← all) (c.in-Some-finish.ensures.some _ at.invariant.taken)
