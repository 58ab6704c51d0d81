use Rattle.std.proofs.Common.{arith}
use Rattle.lw_formula.specs.Formula.{depth}
use Rattle.lw_trace.proofs.SettledTruth.{holds_at-settled}
use Rattle.lw_trace.proofs.laws.truth_settles.Goals as goal

pub returns : goal.returns
returns c = λ a n l. holds_at-settled a n (depth a) l (omega arith)
