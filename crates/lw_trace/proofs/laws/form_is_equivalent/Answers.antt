use Rattle.std.proofs.Common.{sym}
use Rattle.lw_trace.specs.LetterlessForm.{letterless_of}
use Rattle.lw_trace.proofs.TraceTruth.{equi-everywhere, holds_at-letterless_of, letterless_of-IsLetterless}
use Rattle.lw_trace.proofs.laws.form_is_equivalent.Goals as goal

pub returns : goal.returns
returns c = λ a free. (equi-everywhere a (letterless_of a) free (letterless_of-IsLetterless a)).1 (λ n. sym (holds_at-letterless_of a n))
