use Rattle.lw_trace.proofs.TraceTruth.{letterless_of-unique}
use Rattle.lw_trace.proofs.laws.form_is_unique.Goals as goal

pub returns : goal.returns
returns c = letterless_of-unique
