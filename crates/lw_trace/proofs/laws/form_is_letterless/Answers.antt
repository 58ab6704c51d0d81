use Rattle.lw_trace.proofs.TraceTruth.{letterless_of-IsLetterless}
use Rattle.lw_trace.proofs.laws.form_is_letterless.Goals as goal

pub returns : goal.returns
returns c = letterless_of-IsLetterless
