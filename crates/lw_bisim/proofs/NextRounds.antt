-- From the classes of one round to those of the next: there are more, or they are those of bisimilar worlds.
use Rattle.std.proofs.Common.{◌≡◌, ℕ, ◌-◌, ◌<◌, ◌≤◌, suc, List, length, sym, ◌∙◌, arith}
use Rattle.lw_formula.specs.FiniteModel.{FiniteModel, IsWellFormed}
use Rattle.lw_bisim.specs.Bisimulation.{AreBisimilar}
use Rattle.lw_bisim.specs.Private.Rounds.{AreAlike, AreClassesOf}
use Rattle.lw_bisim.proofs.StillRounds.{IsStill, still_bisimilar, bisimilar_alike}
use Rattle.lw_bisim.proofs.LeastWorlds.{AreFiner, count_within, count_grows, same_classes}

module _ (m : FiniteModel) (k : ℕ) (places fine : List ℕ) (count more : ℕ) (h : AreClassesOf m (AreAlike m k) places count) (g : AreClassesOf m (AreAlike m (suc k)) fine more) where
  as_long : length fine ≡ length places
  as_long = g.placed ∙ sym h.placed

  finer : AreFiner fine places
  finer v u l n e =
      let long : length places ≡ m.worlds = h.placed in
      let alike = (g.classes v u (omega arith) (omega arith)).0 e in
      (h.classes v u (omega arith) (omega arith)).1 alike.0

  -- where there are not as many, fewer can still come
  pub fewer_left : (more ≡ count → ⊥) → m.worlds - more < m.worlds - count
  fewer_left other =
      let grown : count ≤ more = count_grows places fine count more h.numbered g.numbered as_long finer in
      let within : more ≤ length fine = count_within fine more g.numbered in
      let long : length fine ≡ m.worlds = g.placed in
      omega arith

  still : more ≡ count → IsStill m k
  still e v u l n alike =
      let long : length places ≡ m.worlds = h.placed in
      let same = same_classes places fine count more h.numbered g.numbered as_long finer e v u (omega arith) (omega arith) ((h.classes v u l n).1 alike) in
      (g.classes v u l n).0 same

  -- where there are as many, worlds of one class are bisimilar
  pub bisimilar : IsWellFormed m → more ≡ count → AreClassesOf m (AreBisimilar m) fine more
  bisimilar ok e = record {
    placed = g.placed;
    numbered = g.numbered;
    classes = λ v u l n. (
      λ same. still_bisimilar m ok k (still e) v u l n ((g.classes v u l n).0 same).0,
      λ b. (g.classes v u l n).1 (bisimilar_alike m (suc k) v u b),
    );
  }
