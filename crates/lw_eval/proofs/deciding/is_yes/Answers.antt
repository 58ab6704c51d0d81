use Rattle.lw_eval.specs.Evaluations.{Tells}
use Rattle.lw_eval.proofs.CallsAnswered.{yes_tells, no_tells}
use Rattle.lw_eval.proofs.deciding.is_yes.Goals as goal

pub returns-in-Yes : goal.returns-in-Yes
returns-in-Yes c = λ l a h. Tells.holds (yes_tells l a c.args.answer.now _ c.in-Yes.is h)

pub returns-in-No : goal.returns-in-No
returns-in-No c = λ l a h. Tells.fails_to (no_tells l a c.args.answer.now _ _ c.in-No.is h)
