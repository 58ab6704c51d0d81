use Rattle.std.proofs.Common.{sym, ◌∙◌}
use Rattle.lw_check.proofs.Verdicts.{went_through, was_broken}
use Rattle.lw_check.proofs.walked.Walked.verdict.Goals as goal

pub returns-in-Through : goal.returns-in-Through
returns-in-Through c = λ broken next e. went_through broken next c.in-Through.next (sym c.in-Through.is ∙ e)

pub returns-in-Broken : goal.returns-in-Broken
returns-in-Broken c = λ broken next e. was_broken broken next c.in-Broken.step c.in-Broken.why (sym c.in-Broken.is ∙ e)
