use Rattle.std.proofs.Common.{arith}
use Rattle.lw_pool.proofs.RegionGrowth.{Grows-same, Grows-trans}
use Rattle.lw_gen.specs.declared.families.Family.TheVariants.{Transitive}
use Rattle.lw_gen.specs.Counts.{Sums, families}
use Rattle.lw_gen.proofs.SummedCounts.{Sums-take}
use Rattle.lw_gen.proofs.questions.count_for_number.Goals as goal

pub loop-which-init : goal.loop-which-init
loop-which-init c = (Grows-same c.args.pool.now, Sums.none, omega arith)

pub loop-which-preserved : goal.loop-which-preserved
loop-which-preserved c = (
  Grows-trans c.args.pool.now c.loop-which.pool c.count_in_logics.new.pool c.loop-which.invariant.0 c.in_ok-yes.ensures.grows,
  Sums-take families c.loop-which.which-index Transitive c.loop-which.yes c.in_ok-yes.field-0 (omega (arith, c.loop-which-test.true)) c.loop-which.invariant.1 c.in_ok-yes.ensures.count,
  omega (arith, c.loop-which.invariant.2, c.in_ok-yes.ensures.few),
)
