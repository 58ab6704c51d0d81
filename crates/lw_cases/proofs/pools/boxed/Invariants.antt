use Rattle.lw_pool.specs.Region.{IsLive}
use Rattle.lw_cases.proofs.pools.boxed.Given as goal

abbrev pub invariant-boxes : goal.invariant-boxes
invariant-boxes l = IsLive l.pool l.form
