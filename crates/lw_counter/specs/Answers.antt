-- What an answer to a goal has to be.
use Rattle.std.specs.Prelude.{List}
use Rattle.lw_formula.specs.declared.logic.Logic.{Logic}
use Rattle.lw_formula.specs.Formula.{Formula}
use Rattle.lw_formula.specs.Validity.{Refutes}
use Rattle.lw_model.specs.Bounds.{HasShortChains, IsWithinBounds}
use Rattle.lw_proof.specs.Lean.{Lean}
use Rattle.lw_proof.specs.Pooled.{proof_at, IsProofLive}
use Rattle.lw_counter.specs.declared.answer.Answer.{Answer}
use Rattle.lw_counter.specs.declared.answer.Answer.TheVariants.{Yes, No}

-- the answer is a lean proof of the goal by ids of the pool with the formulas ts, or a model of the logic's class, within the bounds, and a
-- world of it at which the goal is false
abbrev pub IsAnswerTo : Logic → List Formula → Formula → Answer → Type 0
IsAnswerTo L ts goal (Yes proof) = IsProofLive ts proof × Lean L (proof_at ts proof) goal
IsAnswerTo L ts goal (No model world) = Refutes L model world goal × IsWithinBounds L goal model × HasShortChains L goal model world
