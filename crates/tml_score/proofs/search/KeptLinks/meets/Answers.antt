use Rattle.std.proofs.Common.{◌<◌, Bool, false, Ok, length, slice_index, sym, subst, ◌∙◌, arith, inl, inr}
use Rattle.std.proofs.lemmas.Bool.{cases_lt}
use Rattle.std.proofs.lemmas.List.{get_or_default}
use Rattle.tml_score.specs.Meeting.{GoesFrom}
use Rattle.tml_score.specs.Search.{basis_of}
use Rattle.tml_score.specs.declared.ends.End.TheVariants.{From, To}
use Rattle.tml_score.proofs.Searching.{back_ends, onward_ends}
use Rattle.tml_score.proofs.Spreading.{no_fewer, still_there}
use Rattle.tml_score.proofs.TwoSided.{passed_turn}
use Rattle.tml_score.proofs.search.KeptLinks.meets.Goals as goal

pub spread_side-requires-in-loop-turn-clause-apart : goal.spread_side-requires-in-loop-turn-clause-apart
spread_side-requires-in-loop-turn-clause-apart c =
    let basis = basis_of c.args.self.now in
    let asked = c.args.asked in
    let goes : GoesFrom basis asked From (slice_index c.loop-turn.onward.points c.loop-turn.turn) c.loop-turn.back c.loop-turn.onward c.spread_side.new.own (Ok false) =
    subst (λ (b : Bool). GoesFrom basis asked From (slice_index c.loop-turn.onward.points c.loop-turn.turn) c.loop-turn.back c.loop-turn.onward c.spread_side.new.own (Ok b)) c.if-branch.false c.in_ok-spread_side.ensures in
    λ x there here. goes.2 x here there

pub loop-turn-preserved : goal.loop-turn-preserved
loop-turn-preserved c =
    let basis = basis_of c.args.self.now in
    let asked = c.args.asked in
    let turn = c.loop-turn.turn in
    let was = c.loop-turn.invariant in
    let on = c.spread_side.new.own in
    let behind = c.spread_side-in-loop-turn.new.own in
    let goes : GoesFrom basis asked From (slice_index c.loop-turn.onward.points turn) c.loop-turn.back c.loop-turn.onward on (Ok false) =
    subst (λ (b : Bool). GoesFrom basis asked From (slice_index c.loop-turn.onward.points turn) c.loop-turn.back c.loop-turn.onward on (Ok b)) c.if-branch.false c.in_ok-spread_side.ensures in
    let comes : GoesFrom basis asked To (slice_index c.loop-turn.back.points turn) on c.loop-turn.back behind (Ok false) =
    subst (λ (b : Bool). GoesFrom basis asked To (slice_index c.loop-turn.back.points turn) on c.loop-turn.back behind (Ok b)) c.if-branch-2.false c.in_ok-spread_side-2.ensures in
    let lt : turn < length c.loop-turn.onward.points = omega (arith, c.loop-turn-test.true, c.min.ensures, c.len.ensures.count, c.len-in-loop-turn.ensures.count) in
    let less : turn < length c.loop-turn.back.points = omega (arith, c.loop-turn-test.true, c.min.ensures, c.len.ensures.count, c.len-in-loop-turn.ensures.count) in
    record {
      onward = goes.0;
      back = comes.0;
      apart = λ x here there. comes.2 x there here;
      first = still_there c.loop-turn.onward on goes.1 asked.order.from was.first;
      last = still_there c.loop-turn.back behind comes.1 asked.order.to was.last;
      turn = (omega (arith, lt, no_fewer c.loop-turn.onward on goes.1), omega (arith, less, no_fewer c.loop-turn.back behind comes.1));
      on = passed_turn basis asked From turn c.loop-turn.onward on lt goes.1 was.on goes.3;
      before = passed_turn basis asked To turn c.loop-turn.back behind less comes.1 was.before comes.3;
    }

pub returns-clause-decides : goal.returns-clause-decides
returns-clause-decides c =
    let basis = basis_of c.args.self.now in
    let asked = c.args.asked in
    let was = c.loop-turn.invariant in
    let xs = c.loop-turn.onward.points in
    let ys = c.loop-turn.back.points in
    elim (cases_lt c.loop-turn.turn (length xs)) [
      | inr on_done ↦ onward_ends basis asked c.requires.ready c.requires.asked c.requires.one_place xs was.onward.all was.first (λ last. was.apart asked.order.to last was.last) (λ o way among.
          let (k, lt, e) = among in
          was.on k (omega (arith, lt, on_done)) o way (sym e ∙ get_or_default xs k o.atom.from 0 lt))
      | inl more ↦ back_ends basis asked c.requires.ready c.requires.asked c.requires.one_place ys was.last (λ first. was.apart asked.order.from was.first first) (λ o way among.
          let (k, lt, e) = among in
          was.before k (omega (arith, lt, more, c.loop-turn-test.false, c.min.ensures, c.len.ensures.count, c.len-in-loop-turn.ensures.count)) o way (sym e ∙ get_or_default ys k o.atom.to 0 lt))
    ]
