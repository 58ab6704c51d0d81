use Rattle.std.proofs.Common.{arith}
use Rattle.lw_pool.proofs.RegionGrowth.{Grows-same, Grows-trans}
use Rattle.lw_gen.specs.Counts.{Sums}
use Rattle.lw_gen.proofs.SummedCounts.{Sums-next}
use Rattle.lw_gen.proofs.questions.summary.Goals as goal

pub loop-i-init : goal.loop-i-init
loop-i-init c = (Grows-same c.args.pool.now, Sums.none, omega arith)

pub loop-i-preserved : goal.loop-i-preserved
loop-i-preserved c = (
  Grows-trans c.args.pool.now c.loop-i.pool c.count_for_number.new.pool c.loop-i.invariant.0 c.in_ok-yes.ensures.grows,
  Sums-next c.loop-i.i c.loop-i.yes c.in_ok-yes.field-0 c.loop-i.invariant.1 c.in_ok-yes.ensures.count,
  omega (arith, c.loop-i.invariant.2, c.in_ok-yes.ensures.few),
)
