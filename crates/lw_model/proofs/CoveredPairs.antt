-- Why a pair that is covered needs no test: an induction, first over the pairs that lead upwards, then over the others.
use Rattle.std.proofs.Common.{ℕ, ◌+◌, ◌<◌, ◌≤◌, zero, suc, List, length, get_or, nat_cmp, ◌⊎◌, ◌↔◌, inl, inr, ⊎_elim, ◌∙◌, subst, arith}
use Rattle.std.specs.Prelude.{Option, Some, None}
use Rattle.std.specs.List.{Contains}
use Rattle.std.specs.List.Sorted.{IsStrictlySortedBy}
use Rattle.std.proofs.lemmas.Bool.{cases_lt}
use Rattle.std.proofs.lemmas.List.{get_or_default}
use Rattle.std.proofs.lemmas.List.Elements.{Contains-get_or}
use Rattle.std.proofs.lemmas.Map.Keys.{below_from_sorted}
use Rattle.lw_formula.specs.FiniteModel.{FiniteModel, Sees}
use Rattle.lw_formula.specs.Class.{IsTransitive}
use Rattle.lw_model.specs.Private.PairCover.{SeesAllOf, Passes, IsCovered}

-- all pairs pass
abbrev AllPass : FiniteModel → Type 0
AllPass m = (v w : ℕ) → Sees m v w → Passes m v w

-- the first world sees all that the second sees, for the pairs that lead upwards from a world that is at most r below n
abbrev HoldsFrom : FiniteModel → ℕ → ℕ → Type 0
HoldsFrom m n r = (v w : ℕ) → Sees m v w → v < w → n ≤ v + r → SeesAllOf m v w

-- if so, it holds for those from a world that is one further below, by the second world
one_below : (m : FiniteModel) (n r : ℕ) → AllPass m → HoldsFrom m n r → (s v w : ℕ) → w < s → Sees m v w → v < w → n ≤ v + suc r → SeesAllOf m v w
one_below m n r pass later zero v w less sees up high = absurd (omega arith)
one_below m n r pass later (suc s) v w less sees up high = elim (pass v w sees) [
  | inl covered ↦
      let c = covered.0 in
      let below : c < w = covered.2 in
      ⊎_elim
      (λ (above : v < c). λ u t.
      let first : SeesAllOf m v c = one_below m n r pass later s v c (omega arith) covered.1 above high in
      let through : SeesAllOf m c w = later c w covered.3.0 below (omega arith) in
      first u (through u t))
      (λ (down : w ≤ v). absurd (omega arith))
      covered.3.1
  | inr tested ↦ tested
]

upwards : (m : FiniteModel) (n : ℕ) → AllPass m → ((v w : ℕ) → Sees m v w → v < n) → (r : ℕ) → HoldsFrom m n r
upwards m n pass ends zero v w sees up high = let within : v < n = ends v w sees in absurd (omega arith)
upwards m n pass ends (suc r) v w sees up high = one_below m n r pass (upwards m n pass ends r) (suc w) v w (omega arith) sees up high

-- then for the other pairs, by the second world
others : (m : FiniteModel) → AllPass m → ((v w : ℕ) → Sees m v w → v < w → SeesAllOf m v w) → (s v w : ℕ) → w < s → Sees m v w → w ≤ v → SeesAllOf m v w
others m pass up zero v w less sees down = absurd (omega arith)
others m pass up (suc s) v w less sees down = elim (pass v w sees) [
  | inl covered ↦ λ u t.
      let c = covered.0 in
      let below : c < w = covered.2 in
      let first : SeesAllOf m v c = others m pass up s v c (omega arith) covered.1 (omega arith) in
      let through : SeesAllOf m c w = up c w covered.3.0 below in
      first u (through u t)
  | inr tested ↦ tested
]

-- where all pairs pass, the relation is transitive
pub IsTransitive-passes : (m : FiniteModel) (n : ℕ) → ((v w : ℕ) → Sees m v w → v < n) → ((v w : ℕ) → Sees m v w → Passes m v w) → IsTransitive m
IsTransitive-passes m n ends pass u v w s t = by_direction (cases_lt u v)
  where
    climb : (v w : ℕ) → Sees m v w → v < w → SeesAllOf m v w
    climb v w sees up = upwards m n pass ends n v w sees up (omega arith)

    by_direction : (u < v) ⊎ (v ≤ u) → Sees m u w
    by_direction (inl up) = climb u v s up w t
    by_direction (inr down) = others m pass climb (suc v) u v (omega arith) s down w t

-- the world before a place, unless that is the first
abbrev pub world_before : List ℕ → ℕ → Option ℕ
world_before ws zero = None
world_before ws (suc k) = Some (get_or ws k 0)

-- the pair of v and the world at the place is covered by the world before, or it holds that v sees all that its second sees
abbrev pub PassesAt : FiniteModel → ℕ → List ℕ → ℕ → Type 0
PassesAt m v ws k = IsCovered m (world_before ws k) v (get_or ws k 0) ⊎ SeesAllOf m v (get_or ws k 0)

-- where each place of the worlds that v sees, in their order, passes, each of its pairs does
pub places-pass : (m : FiniteModel) (v : ℕ) (ws : List ℕ) → IsStrictlySortedBy nat_cmp ws → ((w : ℕ) → Contains ws w ↔ Sees m v w) → ((k : ℕ) → k < length ws → PassesAt m v ws k) → (w : ℕ) → Sees m v w → Passes m v w
places-pass m v ws sorted exact each w sees = at_place ((exact w).1 sees)
  where
    by_before : (k : ℕ) → k < length ws → PassesAt m v ws k → Passes m v (get_or ws k 0)
    by_before zero l (inl covered) = absurd covered
    by_before (suc k) l (inl covered) = inl (get_or ws k 0, (exact (get_or ws k 0)).0 (Contains-get_or ws k 0 (omega arith)), below_from_sorted ws k (suc k) 0 sorted (omega arith) l, covered)
    by_before k l (inr tested) = inr tested

    at_place : Contains ws w → Passes m v w
    at_place h = subst (Passes m v) (get_or_default ws h.0 0 w h.1 ∙ h.2) (by_before h.0 h.1 (each h.0 h.1))
