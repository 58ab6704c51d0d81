use Rattle.std.proofs.Common.{◌≡◌, ℕ, ◌<◌, length, get_or}
use Rattle.lw_formula.specs.FiniteModel.{IsWellFormed}
use Rattle.lw_bisim.specs.Quotient.{place_of}
use Rattle.lw_bisim.proofs.RoundKeys.{AreClassesSeen}
use Rattle.lw_bisim.proofs.rounds.refined.Given as goal

abbrev pub invariant-loop-world : goal.invariant-loop-world
invariant-loop-world l = record {
  end : l.world-end ≡ l.model.worlds;
  well_formed : IsWellFormed l.model;
  long : length l.keys.items ≡ l.world;
  own : (i : ℕ) (d : _) → i < l.world → (get_or l.keys.items i d).0 ≡ place_of l.classes.places.items i;
  seen : (i : ℕ) (d : _) → i < l.world → AreClassesSeen l.model l.classes.places.items i (get_or l.keys.items i d).1.items;
}
