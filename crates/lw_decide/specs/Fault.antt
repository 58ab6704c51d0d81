-- When nothing is decided.
use Rattle.std.specs.Prelude.{List}
use Rattle.lw_formula.specs.Formula.{Formula}
use Rattle.lw_pool.specs.declared.id.FormId.{FormId}
use Rattle.lw_closure.specs.Fault as closure
use Rattle.lw_closure.specs.declared.fault.ClosureFault.{ClosureFault}
use Rattle.lw_decide.specs.declared.fault.DecideFault.{DecideFault}
use Rattle.lw_decide.specs.declared.fault.DecideFault.TheVariants.{TooLarge, Memory}

-- the closure's fault that it stands for
abbrev pub closure_fault : DecideFault → ClosureFault
closure_fault (TooLarge n) = ClosureFault.TooLarge n
closure_fault Memory = ClosureFault.Memory

-- the fault comes where that of the goal's closure does
abbrev pub IsFault : List Formula → List Formula → FormId → DecideFault → Type 0
IsFault old new goal fault = closure.IsFault old new goal (closure_fault fault)
