use Rattle.lw_eval.proofs.CallsAnswered.{proof_shown, model_shown}
use Rattle.lw_eval.proofs.deciding.body_of.Goals as goal

pub returns-in-Yes : goal.returns-in-Yes
returns-in-Yes c = record { shows = λ l ts a h. proof_shown l ts a c.args.answer _ c.in-Yes.is h }

pub returns-in-No : goal.returns-in-No
returns-in-No c = record { shows = λ l ts a h. model_shown l ts a c.args.answer _ _ c.in-No.is h }
