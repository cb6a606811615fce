use Rattle.std.proofs.Common.{◌≡◌, ◌<◌, ◌∷◌, [], ℕ, Bool, false, true, List, Ok, length, slice_index, refl, sym, ap, subst, ◌∙◌, arith, inl, inr}
use Rattle.std.specs.List.{All, Contains}
use Rattle.std.proofs.lemmas.Bool.{cases_lt}
use Rattle.std.proofs.lemmas.List.Elements.{All-cons, All-nil}
use Rattle.std.proofs.lemmas.List.{get_or_default}
use Rattle.tml_score.specs.Reached.{PlainReached}
use Rattle.tml_score.specs.Search.{GoesOn, IsThrough, basis_of}
use Rattle.tml_score.proofs.Searching.{exhausted_fails, found_follows, starts_through}
use Rattle.tml_score.proofs.Spreading.{no_fewer, passed_more, same_point, still_there}
use Rattle.tml_score.proofs.search.KeptLinks.leads.Goals as goal

pub spread-requires : goal.spread-requires
spread-requires c = record {
  ready = c.requires.ready;
  asked = c.requires.asked;
  search = c.loop-turn.invariant.search;
  turn = omega (arith, c.loop-turn-test.true, c.len.ensures.count);
}

pub loop-turn-init : goal.loop-turn-init
loop-turn-init c =
    let basis = basis_of c.args.self.now in
    let asked = c.args.asked in
    let first = asked.order.from in
    let new = c.start.new.self in
    let points_are : new.points ≡ first ∷ [] = ap (λ (r : PlainReached). r.points) c.in_ok-start.ensures in
    let through = starts_through basis asked c.requires.ready c.requires.asked c.requires.apart in
    record {
      search = record {
        room = ap (λ (r : PlainReached). r.room) c.in_ok-start.ensures ∙ c.requires.room;
        through = subst (All (IsThrough basis asked)) (sym points_are) (All-cons (IsThrough basis asked) first [] through (All-nil (IsThrough basis asked)));
      };
      start = subst (λ (xs : List ℕ). Contains xs first) (sym points_are) (0, omega arith, refl);
      turn = omega arith;
      passed = λ k lt. absurd (omega arith);
    }

pub loop-turn-preserved : goal.loop-turn-preserved
loop-turn-preserved c =
    let basis = basis_of c.args.self.now in
    let asked = c.args.asked in
    let old = c.loop-turn.reached in
    let new = c.spread.new.reached in
    let turn = c.loop-turn.turn in
    let was = c.loop-turn.invariant in
    let goes : GoesOn basis asked (λ o. o.atom.from ≡ slice_index old.points turn) old new (Ok false) = subst (λ (b : Bool). GoesOn basis asked (λ o. o.atom.from ≡ slice_index old.points turn) old new (Ok b)) c.if-branch.false c.in_ok-spread.ensures in
    let more = goes.1 in
    let lt : turn < length old.points = omega (arith, c.loop-turn-test.true, c.len.ensures.count) in
    record {
      search = goes.0;
      start = still_there old new more asked.order.from was.start;
      turn = omega (arith, lt, no_fewer old new more);
      passed = λ k less o way from. elim (cases_lt k turn) [
        | inl before ↦ passed_more old new more basis asked o (was.passed k before o way (from ∙ same_point old new more k (omega (arith, before, lt))))
        | inr last ↦
            let same : k ≡ turn = omega (arith, last, less) in
            goes.2 o way (from ∙ ap (slice_index new.points) same ∙ same_point old new more turn lt)
      ];
    }

pub loop-turn-smaller : goal.loop-turn-smaller
loop-turn-smaller c =
    let basis = basis_of c.args.self.now in
    let asked = c.args.asked in
    let old = c.loop-turn.reached in
    let new = c.spread.new.reached in
    let goes : GoesOn basis asked (λ o. o.atom.from ≡ slice_index old.points c.loop-turn.turn) old new (Ok false) = subst (λ (b : Bool). GoesOn basis asked (λ o. o.atom.from ≡ slice_index old.points c.loop-turn.turn) old new (Ok b)) c.if-branch.false c.in_ok-spread.ensures in
    omega (arith, goes.0.room, c.loop-turn.invariant.search.room, c.loop-turn-test.true, c.len.ensures.few)

pub returns-then-branch : goal.returns-then-branch
returns-then-branch c =
    let basis = basis_of c.args.self.now in
    let asked = c.args.asked in
    let old = c.loop-turn.reached in
    let new = c.spread.new.reached in
    let goes : GoesOn basis asked (λ o. o.atom.from ≡ slice_index old.points c.loop-turn.turn) old new (Ok true) = subst (λ (b : Bool). GoesOn basis asked (λ o. o.atom.from ≡ slice_index old.points c.loop-turn.turn) old new (Ok b)) c.if-branch.true c.in_ok-spread.ensures in
    record { decides = found_follows basis asked c.requires.ready c.requires.asked goes.0; room = goes.1 }

pub returns : goal.returns
returns c =
    let basis = basis_of c.args.self.now in
    let asked = c.args.asked in
    let was = c.loop-turn.invariant in
    let xs = c.loop-turn.reached.points in
    record {
      decides = exhausted_fails basis asked c.requires.ready c.requires.asked xs was.search.through (λ o way among.
          let (k, lt, e) = among in
          was.passed k (omega (arith, lt, c.loop-turn-test.false, c.len.ensures.count)) o way (sym e ∙ get_or_default xs k o.atom.from 0 lt)) was.start;
      room = was.search.room;
    }
