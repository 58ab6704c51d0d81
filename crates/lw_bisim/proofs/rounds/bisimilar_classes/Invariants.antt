use Rattle.std.proofs.Common.{ℕ, ◌-◌}
use Rattle.lw_formula.specs.FiniteModel.{IsWellFormed}
use Rattle.lw_bisim.specs.Private.Rounds.{AreAlike, AreClassesOf}
use Rattle.lw_bisim.proofs.rounds.bisimilar_classes.Given as goal

abbrev pub invariant-loop-classes : goal.invariant-loop-classes
invariant-loop-classes l = record {
  well_formed : IsWellFormed l.model;
  round : (k : ℕ) × AreClassesOf l.model (AreAlike l.model k) l.classes.places.items l.classes.count;
}

abbrev pub decreases-loop-classes : goal.decreases-loop-classes
decreases-loop-classes l = l.model.worlds - l.classes.count
