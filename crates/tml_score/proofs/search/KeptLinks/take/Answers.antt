use Rattle.std.proofs.Common.{arith, rules}
use Rattle.tml_score.specs.Search.{basis_of}
use Rattle.tml_score.proofs.Searching.{asked_range, way_range}
use Rattle.tml_score.proofs.Spreading.{added, decided, extends_none, passed_there}
use Rattle.tml_score.proofs.search.KeptLinks.take.Goals as goal

pub has-requires : goal.has-requires
has-requires c =
    let range = way_range (basis_of c.args.self.now) c.args.asked c.requires.ready c.requires.asked c.args.order.now c.requires.way in
    omega (arith, range.1, c.requires.search.room)

pub returns-then-has : goal.returns-then-has
returns-then-has c = (
  c.requires.search,
  extends_none c.args.reached.now,
  λ o way same. passed_there (basis_of c.args.self.now) c.args.asked c.requires.ready c.requires.asked c.args.reached.now c.requires.search c.args.order.now o (c.if-has.ensures.0 (search rules)) same,
)

pub leads_out-requires : goal.leads_out-requires
leads_out-requires c =
    let basis = basis_of c.args.self.now in
    let range = way_range basis c.args.asked c.requires.ready c.requires.asked c.args.order.now c.requires.way in
    let own = asked_range basis c.args.asked c.requires.ready c.requires.asked in
    record { to = omega (arith, range.1, c.requires.ready.closure.size); first = omega (arith, own.0, c.requires.ready.closure.size) }

pub add-requires : goal.add-requires
add-requires c =
    let range = way_range (basis_of c.args.self.now) c.args.asked c.requires.ready c.requires.asked c.args.order.now c.requires.way in
    record { room = omega (arith, range.1, c.requires.search.room); new = λ among. let h = c.if-has.ensures.1 among in absurd (search rules) }

pub returns-then-not-leads_out : goal.returns-then-not-leads_out
returns-then-not-leads_out c =
    added (basis_of c.args.self.now) c.args.asked c.requires.ready c.requires.asked c.args.reached.now c.add.new.self c.args.order.now c.requires.search c.requires.way c.requires.led
    (λ out. let h = c.if-not-leads_out.ensures.1 out in absurd (search rules)) c.in_ok-add.ensures

pub is_enough-requires : goal.is_enough-requires
is_enough-requires c =
    let basis = basis_of c.args.self.now in
    let range = way_range basis c.args.asked c.requires.ready c.requires.asked c.args.order.now c.requires.way in
    let own = asked_range basis c.args.asked c.requires.ready c.requires.asked in
    record {
      to = omega (arith, range.1, c.requires.ready.closure.size);
      last = omega (arith, own.1, c.requires.ready.closure.size);
      out = c.if-not-leads_out.ensures.0 (search rules);
    }

pub returns : goal.returns
returns c =
    decided (basis_of c.args.self.now) c.args.asked c.requires.ready c.requires.asked c.args.reached.now c.args.order.now c.is_enough.result c.requires.search c.requires.way c.requires.led
    (c.if-not-leads_out.ensures.0 (search rules)) c.is_enough.ensures
