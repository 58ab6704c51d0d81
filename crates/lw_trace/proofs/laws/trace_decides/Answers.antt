use Rattle.lw_trace.proofs.TraceTruth.{Valid-everywhere, trace_of-everywhere}
use Rattle.lw_trace.proofs.laws.trace_decides.Goals as goal

pub returns : goal.returns
returns c = λ a free. let valid = Valid-everywhere a free in let told = trace_of-everywhere a in (λ v. told.0 (valid.0 v), λ e. valid.1 (told.1 e))
