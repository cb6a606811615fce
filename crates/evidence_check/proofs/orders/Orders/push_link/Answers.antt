use Rattle.std.proofs.Common.{◌*◌, ◌-◌, arith}
use Rattle.net_core.specs.Nets.{intervals, points}
use Rattle.net_core.specs.Limits.{max_intervals}
use Rattle.net_core.specs.Relations.{ends_of}
use Rattle.evidence_check.specs.declared.pairs.TheConstants.{MAX_PAIRS as most_pairs}
use Rattle.evidence_check.proofs.OrderSets.{atoms_kept, atoms_within, few_up, instead, link_read, through}
use Rattle.evidence_check.proofs.orders.Orders.push_link.Goals as goal

pub push_equal-requires-clause-a : goal.push_equal-requires-clause-a
push_equal-requires-clause-a c = omega (arith, c.link-link.ensures.a, c.requires.net.few_intervals)

pub push_equal-requires-clause-b : goal.push_equal-requires-clause-b
push_equal-requires-clause-b c = omega (arith, c.link-link.ensures.b, c.requires.net.few_intervals)

pub push_equal-requires-clause-few : goal.push_equal-requires-clause-few
push_equal-requires-clause-few c = few_up (4 * c.args.k) (most_pairs - 4) c.args.self.now (omega (arith, c.requires.k, c.requires.net.few_links)) c.requires.few

pub atoms_of-requires-clause-a : goal.atoms_of-requires-clause-a
atoms_of-requires-clause-a c = omega (arith, c.link-link.ensures.a, c.requires.net.few_intervals)

pub atoms_of-requires-clause-b : goal.atoms_of-requires-clause-b
atoms_of-requires-clause-b c = omega (arith, c.link-link.ensures.b, c.requires.net.few_intervals)

pub push_atoms-requires-clause-points : goal.push_atoms-requires-clause-points
push_atoms-requires-clause-points c =
    atoms_within max_intervals c.link-link.result.rel c.link-link.result.a c.link-link.result.b _ c.atoms_of.ensures (omega (arith, c.link-link.ensures.a, c.requires.net.few_intervals)) (omega (arith, c.link-link.ensures.b, c.requires.net.few_intervals))

pub push_atoms-requires-clause-few : goal.push_atoms-requires-clause-few
push_atoms-requires-clause-few c = few_up (4 * c.args.k) (most_pairs - 4) c.args.self.now (omega (arith, c.requires.k, c.requires.net.few_links)) c.requires.few

pub returns-then-is_equality-clause-keeps : goal.returns-then-is_equality-clause-keeps
returns-then-is_equality-clause-keeps c t =
    let link = c.link-link.result in
    instead _ _ _ _ (c.push_equal.ensures.keeps t)
    (through _ _ _ (c.is_equality.ensures c.if-is_equality.true (ends_of t link.a) (ends_of t link.b)) (link_read c.args.net.now t c.args.k link c.link-link.ensures.link))

pub returns-then-is_equality-clause-within : goal.returns-then-is_equality-clause-within
returns-then-is_equality-clause-within c = c.push_equal.ensures.within (points c.args.net.now) c.requires.within (omega (arith, c.link-link.ensures.a)) (omega (arith, c.link-link.ensures.b))

pub returns-else-is_equality-clause-keeps : goal.returns-else-is_equality-clause-keeps
returns-else-is_equality-clause-keeps c t =
    let link = c.link-link.result in
    instead _ _ _ _ (c.push_atoms.ensures.keeps t) (through _ _ _ (atoms_kept t link.rel link.a link.b _ c.atoms_of.ensures) (link_read c.args.net.now t c.args.k link c.link-link.ensures.link))

pub returns-else-is_equality-clause-within : goal.returns-else-is_equality-clause-within
returns-else-is_equality-clause-within c =
    let link = c.link-link.result in
    c.push_atoms.ensures.within (points c.args.net.now) c.requires.within (atoms_within (intervals c.args.net.now) link.rel link.a link.b _ c.atoms_of.ensures c.link-link.ensures.a c.link-link.ensures.b)
