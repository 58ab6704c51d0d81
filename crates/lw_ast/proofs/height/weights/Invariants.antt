use Rattle.std.proofs.Common.{◌≡◌, ◌^◌, ◌-◌, min, sum_by, take}
use Rattle.lw_ast.specs.Private.ScriptMachine.{weight}
use Rattle.lw_ast.specs.Private.ReaderViews.{frame}
use Rattle.lw_ast.proofs.height.weights.Given as goal

abbrev pub invariant-loop-construct : goal.invariant-loop-construct
invariant-loop-construct l = l.total ≡ min (sum_by (λ u. weight (frame u)) (take l.construct-index l.stack)) (2 ^ 64 - 1)
