use Rattle.std.proofs.Common.{◌≡◌, ◌∙◌, ℕ, ◌<◌, ◌++◌, List, [], ◌∷◌, Option, None, Some, ap, drop, get_or, length, replicate, set, subst, sym, arith, rules}
use Rattle.std.proofs.lemmas.List.{get_or_default}
use Rattle.seconds_search.specs.Relaxation.{IsClosedTrail, predecessor}
use Rattle.seconds_search.proofs.Trails.{IsWalked, free_less, walk_begins, walk_closes, walk_ends, walk_goes_on}
use Rattle.seconds_search.proofs.cycle.closed_trail.Goals as goal

-- the place of a point, as it was read
place_is : (places : List (Option ℕ)) (point : ℕ) (read is : Option ℕ) → point < length places → read ≡ get_or places point read → read ≡ is → predecessor places point ≡ is
place_is places point read is within at same = sym (at ∙ get_or_default places point read None within) ∙ same

pub loop-number-init : goal.loop-number-init
loop-number-init c =
    let edges = c.args.edges.now in
    let d = c.args.distances.now in
    let from = c.args.from in
    let none : Option ℕ = None in
    let made : c.in_ok-places.places.items ≡ replicate c.len.result none = search rules in
    let size : c.len.result ≡ length d.seconds = c.len.ensures ∙ c.requires.relaxed.size in
    subst (λ (trail : List ℕ). IsWalked edges d from trail c.in_ok-places.places.items from) (sym c.new-trail.ensures.items)
    (subst (λ (places : List (Option ℕ)). IsWalked edges d from [] places from) (sym (made ∙ ap (λ (n : ℕ). replicate n none) size)) (walk_begins edges d c.requires.relaxed from c.requires.from))

pub rest_of-requires : goal.rest_of-requires
rest_of-requires c =
    let walked = c.loop-number.invariant in
    let places = c.loop-number.places.items in
    let point = c.loop-number.point in
    let met = place_is places point c.index.result.now (Some c.in-Some-index.first) (omega (arith, walked.inside, walked.size)) c.index.ensures c.in-Some-index.is in
    omega (arith, (walked.placed point c.in-Some-index.first met).0, ap length c.deref.ensures.value)

pub returns-in-Some-index : goal.returns-in-Some-index
returns-in-Some-index c =
    let edges = c.args.edges.now in
    let d = c.args.distances.now in
    let walked = c.loop-number.invariant in
    let trail = c.loop-number.trail.items in
    let places = c.loop-number.places.items in
    let point = c.loop-number.point in
    let first = c.in-Some-index.first in
    let met = place_is places point c.index.result.now (Some first) (omega (arith, walked.inside, walked.size)) c.index.ensures c.in-Some-index.is in
    let rest : c.in_ok-rest.rest.items ≡ drop first trail = c.in_ok-rest.ensures ∙ ap (drop first) c.deref.ensures.value in
    (point, subst (λ (r : List ℕ). IsClosedTrail edges d r point) (sym rest) (walk_closes edges d c.requires.relaxed c.args.from trail places point walked first met))

pub from_of-point-requires : goal.from_of-point-requires
from_of-point-requires c = (c.requires.relaxed.lowered c.loop-number.point c.in-Some.number (sym c.predecessor.ensures ∙ c.in-Some.is)).edge

pub loop-number-smaller : goal.loop-number-smaller
loop-number-smaller c =
    let walked = c.loop-number.invariant in
    let places = c.loop-number.places.items in
    let point = c.loop-number.point in
    let unplaced = place_is places point c.index.result.now None (omega (arith, walked.inside, walked.size)) c.index.ensures c.in_default-index.is in
    omega (arith, free_less places point c.len-in-Some.result (omega (arith, walked.inside, walked.size)) unplaced)

pub loop-number-preserved : goal.loop-number-preserved
loop-number-preserved c =
    let edges = c.args.edges.now in
    let d = c.args.distances.now in
    let from = c.args.from in
    let walked = c.loop-number.invariant in
    let trail = c.loop-number.trail.items in
    let places = c.loop-number.places.items in
    let point = c.loop-number.point in
    let number = c.in-Some.number in
    let unplaced = place_is places point c.index.result.now None (omega (arith, walked.inside, walked.size)) c.index.ensures c.in_default-index.is in
    let goes_on = walk_goes_on edges d c.requires.relaxed from trail places point walked number (sym c.predecessor.ensures ∙ c.in-Some.is) unplaced in
    let pushed : c.push.new.self.items ≡ trail ++ number ∷ [] = search rules in
    let count : c.len-in-Some.result ≡ length trail = search rules in
    subst (λ (more : List ℕ). IsWalked edges d from more (set places point (Some c.len-in-Some.result)) c.from_of-point.result) (sym pushed)
    (subst (λ (k : ℕ). IsWalked edges d from (trail ++ number ∷ []) (set places point (Some k)) c.from_of-point.result) (sym count)
    (subst (λ (p : ℕ). IsWalked edges d from (trail ++ number ∷ []) (set places point (Some (length trail))) p) (sym c.from_of-point.ensures) goes_on))

pub returns : goal.returns
returns c =
    walk_ends c.args.edges.now c.args.distances.now c.requires.relaxed c.args.from c.loop-number.trail.items c.loop-number.places.items c.loop-number.point c.loop-number.invariant (sym c.predecessor.ensures ∙ c.in_default.is)
