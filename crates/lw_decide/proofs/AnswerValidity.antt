-- What an answer tells of its goal.
use Rattle.std.proofs.Common.{List}
use Rattle.lw_formula.specs.declared.logic.Logic.{Logic}
use Rattle.lw_formula.specs.Formula.{Formula}
use Rattle.lw_proof.proofs.SoundRules.{proved_is_valid}
use Rattle.lw_proof.specs.Pooled.{proof_at}
use Rattle.lw_counter.specs.Answers.{IsAnswerTo}
use Rattle.lw_counter.specs.declared.answer.Answer.{Answer}
use Rattle.lw_counter.specs.declared.answer.Answer.TheVariants.{Yes, No}
use Rattle.lw_decide.specs.Decided.{TellsValidity}

pub answer_tells : (L : Logic) (ts : List Formula) (goal : Formula) (answer : Answer) → IsAnswerTo L ts goal answer → TellsValidity L goal answer
answer_tells L ts goal (Yes proof) h = proved_is_valid L (proof_at ts proof) goal h.1.proves
answer_tells L ts goal (No model world) h = λ valid. h.0.fails (valid model h.0.in_class world h.0.within)
