use Rattle.lw_pool.specs.Region.{AreSubformulas}
use Rattle.lw_pool.proofs.VariablesMet.{AreNamesSoFar}
use Rattle.lw_pool.proofs.pool.Pool.variables.Given as goal

abbrev pub invariant-loop-part : goal.invariant-loop-part
invariant-loop-part l = AreSubformulas l.self l.fn.id l.part-items × AreNamesSoFar l.self l.part-items l.part-index l.names.items
