-- What an answer tells of its goal.
use Rattle.lw_formula.specs.declared.logic.Logic.{Logic}
use Rattle.lw_formula.specs.Formula.{Formula}
use Rattle.lw_formula.specs.Validity.{Valid}
use Rattle.lw_counter.specs.declared.answer.Answer.{Answer}
use Rattle.lw_counter.specs.declared.answer.Answer.TheVariants.{Yes, No}

-- a yes tells that the goal is valid in the logic, a no that it isn't
abbrev pub TellsValidity : Logic → Formula → Answer → Type 0
TellsValidity logic goal (Yes proof) = Valid logic goal
TellsValidity logic goal (No model world) = ¬ Valid logic goal
