-- The model of the classes of bisimilar worlds is the quotient.
use Rattle.std.proofs.Common.{◌≡◌, ℕ, ◌<◌, ◌≤◌, List, length, refl, sym, subst, arith}
use Rattle.lw_formula.specs.FiniteModel.{FiniteModel, IsWellFormed}
use Rattle.lw_bisim.specs.Bisimulation.{IsBisimulation, AreBisimilar}
use Rattle.lw_bisim.specs.Quotient.{IsQuotient, AreNumbered, place_of}
use Rattle.lw_bisim.specs.Private.Joined.{IsJoinedTo}
use Rattle.lw_bisim.specs.Private.Rounds.{AreClassesOf}
use Rattle.lw_bisim.proofs.LeastWorlds.{place_below}
use Rattle.lw_bisim.proofs.StillRounds.{seen_within}

module _ (m : FiniteModel) (ok : IsWellFormed m) (places : List ℕ) (count : ℕ) (h : AreClassesOf m (AreBisimilar m) places count) where
  pub some_class : 1 ≤ count
  some_class =
      let some : 1 ≤ m.worlds = ok.inhabited in
      let long : length places ≡ m.worlds = h.placed in
      let first : place_of places 0 < count = place_below places count h.numbered 0 (omega arith) in
      omega arith

  pub joined_IsQuotient : (joined : FiniteModel) → IsJoinedTo m places count m.worlds joined → IsWellFormed joined → IsQuotient m (record { model = joined; places = places })
  joined_IsQuotient joined j formed = record {
    well_formed = formed;
    placed = h.placed;
    numbered = subst (AreNumbered places) (sym j.worlds) h.numbered;
    classes = h.classes;
    letters = λ v p l. (
      λ f.
          let u = (j.facts (place_of places v) p).0 f in
          let same = (h.classes u.0 v u.1 l).0 u.3 in
          let bisimulation : IsBisimulation m same.0 = same.1 in
          (bisimulation.letters u.0 v same.2 p).0 u.2,
      λ f. (j.facts (place_of places v) p).1 (v, l, f, refl),
    );
    sees = λ c d. (
      λ s. let t = (j.sees c d).0 s in (t.0, t.1, t.3, t.4, t.5),
      λ t. (j.sees c d).1 (t.0, t.1, (seen_within m ok t.0 t.1 t.2).0, t.2, t.3, t.4),
    );
  }
