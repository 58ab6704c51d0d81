-- The heights of the worlds of a finite model of GL (Boolos, The Logic of Provability, chapter 7, where they are called ranks).
use Rattle.std.specs.Prelude.{◌≡◌, ℕ, suc, zero, ◌+◌, ◌<◌, ◌==◌, max, List, [], ◌∷◌, length, map}
use Rattle.std.specs.List.{filter}
use Rattle.lw_formula.specs.FiniteModel.{FiniteModel, Sees}

-- the greatest of the numbers, 0 for none
abbrev pub greatest : List ℕ → ℕ
greatest [] = 0
greatest (n ∷ ns) = max n (greatest ns)

-- the worlds that w sees
abbrev pub seen_from : FiniteModel → ℕ → List ℕ
seen_from m w = map (λ p. p.1) (filter (λ p. p.0 == w) m.pairs)

-- the height of the world, looked for along paths of at most so many steps
abbrev pub height_within : ℕ → FiniteModel → ℕ → ℕ
height_within zero m w = 0
height_within (suc steps) m w = greatest (map (λ v. height_within steps m v + 1) (seen_from m w))

-- the height of the world: in a model of GL no path has more steps than there are pairs
abbrev pub height : FiniteModel → ℕ → ℕ
height m w = height_within (length m.pairs) m w

-- each world that w sees has a smaller height, and one of them has the next smaller one
pub record IsOneAboveGreatest (m : FiniteModel) (heights : ℕ → ℕ) (w : ℕ) : Type 0 where
  pub smaller : (v : ℕ) → Sees m w v → heights v < heights w
  pub next : (v : ℕ) × Sees m w v × (heights w ≡ heights v + 1)

-- a world that sees none has height 0, and another has one more than the greatest height that it sees
pub record AreHeights (m : FiniteModel) (heights : ℕ → ℕ) : Type 0 where
  pub lowest : (w : ℕ) → ((v : ℕ) → ¬ Sees m w v) → heights w ≡ 0
  pub higher : (w v : ℕ) → Sees m w v → IsOneAboveGreatest m heights w
