use Rattle.std.proofs.Common.{◌≡◌, ℕ, ◌<◌, length, get_or, Bor, List}
use Rattle.lw_bisim.proofs.RoundKeys.{AreLettersOf}
use Rattle.lw_bisim.proofs.rounds.by_letters.Given as goal

abbrev pub invariant-loop-world : goal.invariant-loop-world
invariant-loop-world l = record {
  end : l.world-end ≡ l.model.worlds;
  long : length l.keys.items ≡ l.world;
  keys : (i : ℕ) (d : Bor (List (List ℕ))) → i < l.world → AreLettersOf l.model i (get_or l.keys.items i d).now;
}
