-- How large a refuting model need be: bounds by the goal's modal depth and its number m of distinct modal subformulas.
use Rattle.std.specs.Prelude.{◌≢◌, ℕ, zero, suc, ◌≤◌, ◌+◌, ◌*◌, ◌^◌, List, [], ◌∷◌, length, All, ⊤}
use Rattle.lw_formula.specs.declared.logic.Logic.{Logic}
use Rattle.lw_formula.specs.declared.logic.Logic.TheVariants.{K, KT, S4, S5, GL, Grz, K4, KD}
use Rattle.lw_formula.specs.Formula.{Formula, depth, modal_count}
use Rattle.lw_formula.specs.Variables.{Occurs}
use Rattle.lw_formula.specs.FiniteModel.{FiniteModel, Sees}

-- 1 + m + m^2 + .. + m^b, the number of worlds of a tree b steps deep in which each world has m children
abbrev pub tree_size : ℕ → ℕ → ℕ
tree_size m zero = 1
tree_size m (suc b) = 1 + m * tree_size m b

-- how many steps deep such a tree is, by the logic, for a goal of modal depth d with m modal subformulas
abbrev pub step_bound : Logic → ℕ → ℕ → ℕ
step_bound K m d = d
step_bound KT m d = d
step_bound S4 m d = (m + 1) ^ 2
step_bound S5 m d = 1
step_bound GL m d = m
step_bound Grz m d = m
step_bound K4 m d = (m + 1) ^ 2
step_bound KD m d = d

-- the greatest number of worlds
abbrev pub world_bound : Logic → ℕ → ℕ → ℕ
world_bound logic m d = tree_size m (step_bound logic m d)

-- each fact is of a variable of the goal
abbrev pub HasFactsOf : Formula → FiniteModel → Type 0
HasFactsOf a m = All (λ f. Occurs f.1 a) m.facts

-- the bounds on worlds and on facts
pub record IsWithinBounds (logic : Logic) (a : Formula) (m : FiniteModel) : Type 0 where
  pub worlds : m.worlds ≤ world_bound logic (modal_count a) (depth a)
  pub facts : HasFactsOf a m

-- each world of the list sees the next, and neighbours differ
abbrev pub IsChain : FiniteModel → List ℕ → Type 0
IsChain m [] = ⊤
IsChain m (w ∷ []) = ⊤
IsChain m (w ∷ v ∷ ws) = Sees m w v × (w ≢ v) × IsChain m (v ∷ ws)

-- no chain that begins at world w has more than n worlds
abbrev pub HasChainsUpTo : ℕ → FiniteModel → ℕ → Type 0
HasChainsUpTo n m w = (ws : List ℕ) → IsChain m (w ∷ ws) → length (w ∷ ws) ≤ n

-- the bounds on chains: from the refuting world w in K, KT and KD, from any world in GL and Grz
abbrev pub HasShortChains : Logic → Formula → FiniteModel → ℕ → Type 0
HasShortChains K a m w = HasChainsUpTo (depth a + 1) m w
HasShortChains KT a m w = HasChainsUpTo (depth a + 1) m w
HasShortChains GL a m w = (v : ℕ) → HasChainsUpTo (modal_count a + 1) m v
HasShortChains Grz a m w = (v : ℕ) → HasChainsUpTo (modal_count a + 1) m v
HasShortChains S4 a m w = ⊤
HasShortChains S5 a m w = ⊤
HasShortChains K4 a m w = ⊤
HasShortChains KD a m w = HasChainsUpTo (depth a + 1) m w
