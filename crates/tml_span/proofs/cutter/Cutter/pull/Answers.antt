use Rattle.std.proofs.Common.{◌≡◌, ◌+◌, ◌-◌, drop, length, sym, ap, subst, ◌∙◌, arith, Some, None, Ok}
use Rattle.std.proofs.lemmas.Bool.Decides.{nat_tests}
use Rattle.tml_span.specs.Cutter.{CutsOn}
use Rattle.tml_span.specs.Reader.{Reading}
use Rattle.tml_span.specs.Faults.{HasBadMarkup, HasBadReference}
use Rattle.tml_span.proofs.Clear.{clear_later}
use Rattle.tml_span.proofs.Placing.{found_placed}
use Rattle.tml_span.proofs.Pulling.{at, gives_none, goes_further, here_in, left_next, moves_on, no_unit, unit_is_bad}
use Rattle.tml_span.proofs.cutter.Cutter.pull.Goals as goal

pub returns-then-is_empty : goal.returns-then-is_empty
returns-then-is_empty c =
    let r = at c.self.inside.source.now c.self.inside.place in
    let is : c.left-left.result.now ≡ drop r.place r.source = c.left-left.ensures ∙ ap (λ (q : Reading). drop q.place q.source) (sym c.self.view_is) in
    subst (λ (q : Reading). CutsOn q r (Ok None)) c.self.view_is (gives_none r c.self.invariant.0 c.left-left.result.now is (grind (arith, nat_tests)))

pub returns-in_default-found : goal.returns-in_default-found
returns-in_default-found c =
    let r = at c.self.inside.source.now c.self.inside.place in
    let is : c.left-left.result.now ≡ drop r.place r.source = c.left-left.ensures ∙ ap (λ (q : Reading). drop q.place q.source) (sym c.self.view_is) in
    let stops = rw c.in_default-found.is at c.in-Ok.ensures.unit in
    let fault = no_unit r c.self.invariant.0 c.left-left.result.now is (λ z. grind (arith, nat_tests, z)) stops in
    (c.self.view_is, subst (λ (q : Reading). HasBadMarkup q.source c.self.inside.place) c.self.view_is fault)

pub is_clear-requires-clause-order : goal.is_clear-requires-clause-order
is_clear-requires-clause-order c = found_placed _ _ _ _ (rw c.in-Some.is at c.in-Ok.ensures.unit)

pub is_clear-requires-clause-inside : goal.is_clear-requires-clause-inside
is_clear-requires-clause-inside c =
    let r = at c.self.inside.source.now c.self.inside.place in
    let is : c.left-left.result.now ≡ drop r.place r.source = c.left-left.ensures ∙ ap (λ (q : Reading). drop q.place q.source) (sym c.self.view_is) in
    let found = rw c.in-Some.is at c.in-Ok.ensures.unit in
    here_in r c.self.invariant.0 c.left-left.result.now is c.in-Some.rest.now _ found

pub bad_reference_in-requires : goal.bad_reference_in-requires
bad_reference_in-requires c = found_placed _ _ _ _ (rw c.in-Some.is at c.in-Ok.ensures.unit)

pub returns-in-Some-bad_reference_in : goal.returns-in-Some-bad_reference_in
returns-in-Some-bad_reference_in c =
    let r = at c.self.inside.source.now c.self.inside.place in
    let is : c.left-left.result.now ≡ drop r.place r.source = c.left-left.ensures ∙ ap (λ (q : Reading). drop q.place q.source) (sym c.self.view_is) in
    let found = rw c.in-Some.is at c.in-Ok.ensures.unit in
    let place = c.in-Some-bad_reference_in.place in
    let fault = unit_is_bad r c.self.invariant.0 c.left-left.result.now is c.in-Some.rest.now _ found place (rw c.in-Some-bad_reference_in.is at c.bad_reference_in.ensures) in
    (c.self.view_is, subst (λ (q : Reading). HasBadReference q.source place) c.self.view_is fault)

pub clear_after-self-inside-requires-clause-rest : goal.clear_after-self-inside-requires-clause-rest
clear_after-self-inside-requires-clause-rest c =
    let r = at c.self.inside.source.now c.self.inside.place in
    let is : c.left-left.result.now ≡ drop r.place r.source = c.left-left.ensures ∙ ap (λ (q : Reading). drop q.place q.source) (sym c.self.view_is) in
    let found = rw c.in-Some.is at c.in-Ok.ensures.unit in
    let after = c.in-Some.rest.now in
    sym (left_next r c.self.invariant.0 c.left-left.result.now is after _ found)

pub invariant_of-self-then-is_clear : goal.invariant_of-self-then-is_clear
invariant_of-self-then-is_clear c =
    let r = at c.self.inside.source.now c.self.inside.place in
    let is : c.left-left.result.now ≡ drop r.place r.source = c.left-left.ensures ∙ ap (λ (q : Reading). drop q.place q.source) (sym c.self.view_is) in
    let found = rw c.in-Some.is at c.in-Ok.ensures.unit in
    let after = c.in-Some.rest.now in
    let end = r.place + (length c.left-left.result.now - length after) in
    let further = goes_further r c.self.invariant.0 c.left-left.result.now is after _ found (c.is_clear.ensures c.if-is_clear.true) (rw c.in-Some.is at c.in-Ok.ensures.shorter) in
    (further, clear_later r.source r.place end c.self.inside.clear (omega arith) c.self.invariant.1)

pub returns-then-is_clear : goal.returns-then-is_clear
returns-then-is_clear c =
    let r = at c.self.inside.source.now c.self.inside.place in
    let is : c.left-left.result.now ≡ drop r.place r.source = c.left-left.ensures ∙ ap (λ (q : Reading). drop q.place q.source) (sym c.self.view_is) in
    let found = rw c.in-Some.is at c.in-Ok.ensures.unit in
    let after = c.in-Some.rest.now in
    let new = at r.source (r.place + (length c.left-left.result.now - length after)) in
    let moves = moves_on r c.self.invariant.0 c.left-left.result.now is after _ found (c.is_clear.ensures c.if-is_clear.true) (rw c.in-Some.is at c.in-Ok.ensures.shorter) in
    subst (λ (q : Reading). CutsOn q new (Ok (Some c.in-Some.unit))) c.self.view_is moves

pub invariant_of-self-4 : goal.invariant_of-self-4
invariant_of-self-4 c =
    let r = at c.self.inside.source.now c.self.inside.place in
    let is : c.left-left.result.now ≡ drop r.place r.source = c.left-left.ensures ∙ ap (λ (q : Reading). drop q.place q.source) (sym c.self.view_is) in
    let found = rw c.in-Some.is at c.in-Ok.ensures.unit in
    let after = c.in-Some.rest.now in
    let end = r.place + (length c.left-left.result.now - length after) in
    let further = goes_further r c.self.invariant.0 c.left-left.result.now is after _ found (rw c.in_default-bad_reference_in.is at c.bad_reference_in.ensures) (rw c.in-Some.is at c.in-Ok.ensures.shorter) in
    (further, c.clear_after-self-inside.ensures)

pub returns : goal.returns
returns c =
    let r = at c.self.inside.source.now c.self.inside.place in
    let is : c.left-left.result.now ≡ drop r.place r.source = c.left-left.ensures ∙ ap (λ (q : Reading). drop q.place q.source) (sym c.self.view_is) in
    let found = rw c.in-Some.is at c.in-Ok.ensures.unit in
    let after = c.in-Some.rest.now in
    let new = at r.source (r.place + (length c.left-left.result.now - length after)) in
    let moves = moves_on r c.self.invariant.0 c.left-left.result.now is after _ found (rw c.in_default-bad_reference_in.is at c.bad_reference_in.ensures) (rw c.in-Some.is at c.in-Ok.ensures.shorter) in
    subst (λ (q : Reading). CutsOn q new (Ok (Some c.in-Some.unit))) c.self.view_is moves
