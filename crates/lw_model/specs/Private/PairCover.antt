-- What the test of transitivity asks of each pair of a model.
use Rattle.std.specs.Prelude.{ℕ, ◌<◌, ◌≤◌, ◌⊎◌, Option, IsSomeAnd}
use Rattle.lw_formula.specs.FiniteModel.{FiniteModel, Sees}

-- world v sees each world that w sees
abbrev pub SeesAllOf : FiniteModel → ℕ → ℕ → Type 0
SeesAllOf m v w = (u : ℕ) → Sees m w u → Sees m v u

-- world c sees w, and is later than v, or w isn't later than v
abbrev pub Covers : FiniteModel → (c v w : ℕ) → Type 0
Covers m c v w = Sees m c w × ((v < c) ⊎ (w ≤ v))

-- world v sees all that w sees, or the pair (v, w) needs no test, as v sees a world before w that covers the pair
abbrev pub Passes : FiniteModel → ℕ → ℕ → Type 0
Passes m v w = ((c : ℕ) × Sees m v c × (c < w) × Covers m c v w) ⊎ SeesAllOf m v w

-- the world that stands before w among those that v sees, if there is one, covers the pair (v, w)
abbrev pub IsCovered : FiniteModel → Option ℕ → ℕ → ℕ → Type 0
IsCovered m before v w = IsSomeAnd before (λ c. Covers m c v w)
