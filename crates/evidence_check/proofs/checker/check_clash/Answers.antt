use Rattle.std.proofs.Common.{◌≤◌, length, arith}
use Rattle.net_core.specs.Limits.{max_links}
use Rattle.evidence_check.proofs.Cites.{by_place, no_more, rising_links}
use Rattle.evidence_check.proofs.checker.check_clash.Goals as goal

pub check_closed-requires-clause-cites : goal.check_closed-requires-clause-cites
check_closed-requires-clause-cites c = rising_links c.args.net.now c.args.cites.now c.requires.well_formed.0.0 (by_place c.args.net.now c.args.cites.now (rw c.in_ok-check_cites.was at c.check_cites.ensures.ok))

pub check_spares-requires-clause-cites : goal.check_spares-requires-clause-cites
check_spares-requires-clause-cites c = rising_links c.args.net.now c.args.cites.now c.requires.well_formed.0.0 (by_place c.args.net.now c.args.cites.now (rw c.in_ok-check_cites.was at c.check_cites.ensures.ok))

pub check_spares-requires-clause-few : goal.check_spares-requires-clause-few
check_spares-requires-clause-few c =
    let few : length c.args.net.now.links ≤ max_links = rw c.in_ok-check_cites.was at c.check_cites.ensures.few in
    omega (arith, few, no_more c.args.cites.now (length c.args.net.now.links) c.requires.well_formed.0.0 (by_place c.args.net.now c.args.cites.now (rw c.in_ok-check_cites.was at c.check_cites.ensures.ok)))
