use Rattle.std.proofs.Common.{Some, to_z, of_z, w64}
use Rattle.net_core.specs.Ranks.{timeline_of}
use Rattle.net_core.proofs.PointLaws.{row_goes_on}
use Rattle.net_core.proofs.timeline.keeps_row.Goals as goal

pub loop-i-preserved : goal.loop-i-preserved
loop-i-preserved c = (
  c.loop-i.invariant.0,
  row_goes_on c.args.net.now (timeline_of c.args.ranks.now) (Some (to_z w64 (of_z w64 c.args.upper))) c.args.rank c.loop-i.i _ _ _ _
      c.bounds.ensures.bounds c.ends_at.ensures c.loop-i.invariant.1 c.keeps_both-keeps.ensures,
)
