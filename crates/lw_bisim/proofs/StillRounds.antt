-- A round after which no class splits: worlds that are alike then are bisimilar.
use Rattle.std.proofs.Common.{◌≡◌, ℕ, ◌<◌, zero, suc, Bool, true, false, List, length, ◌⊎◌, inl, inr, refl, arith}
use Rattle.std.specs.List.{Contains, filter}
use Rattle.lw_formula.specs.FiniteModel.{FiniteModel, IsWellFormed, Sees}
use Rattle.lw_formula.proofs.ListMembers.{All-members, Contains-filter, Contains-filter_cases}
use Rattle.std.proofs.lemmas.List.Elements.{All-contains}
use Rattle.lw_bisim.specs.Bisimulation.{IsBisimulation, AreBisimilar}
use Rattle.lw_bisim.specs.Private.Rounds.{AreAlike}
use Rattle.lw_bisim.proofs.RoundTests.{alike, alike-Decides, alike_sym, alike-letters, alike_from_bisimulation}
use Rattle.lw_bisim.proofs.TellingFormulas.{Differ, alike-Differ}
use Rattle.lw_bisim.proofs.WorldPairs.{pairs_below, pairs_below-Contains, pairs_below-cases, fewer_pass, same_pass, stand_still}

-- what is seen and what sees are worlds
pub seen_within : (m : FiniteModel) → IsWellFormed m → (w v : ℕ) → Sees m w v → (w < m.worlds) × (v < m.worlds)
seen_within m ok w v s = All-contains (λ p. (p.0 < m.worlds) × (p.1 < m.worlds)) m.pairs (w, v) ok.pairs_within s

-- worlds that are alike in round k are alike in the next
abbrev pub IsStill : FiniteModel → ℕ → Type 0
IsStill m k = (v u : ℕ) → v < m.worlds → u < m.worlds → AreAlike m k v u → AreAlike m (suc k) v u

abbrev are_alike : FiniteModel → ℕ → ℕ × ℕ → Bool
are_alike m k p = alike m k p.0 p.1

alike_pairs : FiniteModel → ℕ → List (ℕ × ℕ)
alike_pairs m k = filter (are_alike m k) (pairs_below m.worlds m.worlds)

alike_before : (m : FiniteModel) (k : ℕ) (p : ℕ × ℕ) → are_alike m (suc k) p ≡ true → are_alike m k p ≡ true
alike_before m k p e = (alike-Decides m k p.0 p.1).1 ((alike-Decides m (suc k) p.0 p.1).0 e).0

-- some round is the last that splits a class
pub still_round : (m : FiniteModel) → (k : ℕ) × IsStill m k
unfolding alike_pairs
still_round m =
    let all = pairs_below m.worlds m.worlds in
    let still = stand_still (λ k. length (alike_pairs m k)) (λ k. fewer_pass (are_alike m k) (are_alike m (suc k)) (alike_before m k) all) (length (alike_pairs m zero)) (omega arith) in (
      still.0,
      λ v u l h a. (alike-Decides m (suc still.0) v u).0
          (same_pass (are_alike m still.0) (are_alike m (suc still.0)) (alike_before m still.0) all still.1 (v, u)
          (pairs_below-Contains m.worlds m.worlds v u l h) ((alike-Decides m still.0 v u).1 a)),
    )

alike_pairs-Contains : (m : FiniteModel) (k v u : ℕ) → v < m.worlds → u < m.worlds → AreAlike m k v u → Contains (alike_pairs m k) (v, u)
unfolding alike_pairs
alike_pairs-Contains m k v u l h a =
    Contains-filter (are_alike m k) (pairs_below m.worlds m.worlds) (v, u) (pairs_below-Contains m.worlds m.worlds v u l h) ((alike-Decides m k v u).1 a)

record IsAlikePair (m : FiniteModel) (k : ℕ) (p : ℕ × ℕ) : Type 0 where
  first : p.0 < m.worlds
  second : p.1 < m.worlds
  alike : AreAlike m k p.0 p.1

alike_pairs-cases : (m : FiniteModel) (k : ℕ) (p : ℕ × ℕ) → Contains (alike_pairs m k) p → IsAlikePair m k p
unfolding alike_pairs
alike_pairs-cases m k p h =
    let c = Contains-filter_cases (are_alike m k) (pairs_below m.worlds m.worlds) p h in
    let b = pairs_below-cases m.worlds m.worlds p c.0 in
    record { first = b.0; second = b.1; alike = (alike-Decides m k p.0 p.1).0 c.1 }

alike_pairs-IsBisimulation : (m : FiniteModel) → IsWellFormed m → (k : ℕ) → IsStill m k → IsBisimulation m (alike_pairs m k)
alike_pairs-IsBisimulation m ok k still = record {
  within = All-members (λ p. (p.0 < m.worlds) × (p.1 < m.worlds)) (alike_pairs m k) (λ p h. let a = alike_pairs-cases m k p h in (a.first, a.second));
  letters = λ v u h. alike-letters m k v u (alike_pairs-cases m k (v, u) h).alike;
  forth = λ v u w h s.
      let a = alike_pairs-cases m k (v, u) h in
      let t = (still v u a.first a.second a.alike).1 w s in
      (t.0, t.1, alike_pairs-Contains m k w t.0 (seen_within m ok v w s).1 (seen_within m ok u t.0 t.1).1 t.2);
  back = λ v u x h s.
      let a = alike_pairs-cases m k (v, u) h in
      let t = (still v u a.first a.second a.alike).2 x s in
      (t.0, t.1, alike_pairs-Contains m k t.0 x (seen_within m ok v t.0 t.1).1 (seen_within m ok u x s).1 (alike_sym m k x t.0 t.2));
}

-- worlds that are alike in a round that stands still are bisimilar
pub still_bisimilar : (m : FiniteModel) → IsWellFormed m → (k : ℕ) → IsStill m k → (v u : ℕ) → v < m.worlds → u < m.worlds → AreAlike m k v u → AreBisimilar m v u
still_bisimilar m ok k still v u l h a = (alike_pairs m k, alike_pairs-IsBisimulation m ok k still, alike_pairs-Contains m k v u l h a)

-- bisimilar worlds are alike in each round
pub bisimilar_alike : (m : FiniteModel) (k v u : ℕ) → AreBisimilar m v u → AreAlike m k v u
bisimilar_alike m k v u h = alike_from_bisimulation m h.0 h.1 k v u h.2

-- two worlds are bisimilar, or some formula is true at the first alone
pub bisimilar_or_differ : (m : FiniteModel) → IsWellFormed m → (v u : ℕ) → v < m.worlds → u < m.worlds → AreBisimilar m v u ⊎ Differ m v u
bisimilar_or_differ m ok v u l h = by (alike m (still_round m).0 v u) refl
  where
    by : (b : Bool) → alike m (still_round m).0 v u ≡ b → AreBisimilar m v u ⊎ Differ m v u
    by true e = inl (still_bisimilar m ok (still_round m).0 (still_round m).1 v u l h ((alike-Decides m (still_round m).0 v u).0 e))
    by false e = inr (alike-Differ m (still_round m).0 v u e)
