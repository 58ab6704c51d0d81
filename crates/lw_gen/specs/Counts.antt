-- How many formulas of the families are valid in the logics K, KT, S4, S5, GL and Grz.
use Rattle.std.specs.Prelude.{◌≡◌, ◌⊎◌, ◌+◌, ◌*◌, ℕ, zero, suc, List, [], ◌∷◌, ◌++◌}
use Rattle.lw_formula.specs.declared.logic.Logic.{Logic}
use Rattle.lw_formula.specs.declared.logic.Logic.TheVariants.{K, KT, S4, S5, GL, Grz}
use Rattle.lw_formula.specs.Validity.{Valid}
use Rattle.lw_gen.specs.declared.families.Family.{Family}
use Rattle.lw_gen.specs.declared.families.Family.TheVariants.{Transitive, Reflexive, Loeb, Coded}
use Rattle.lw_gen.specs.declared.counts.Summary.{Summary}
use Rattle.lw_gen.specs.Families.{family_formula}

-- a sum over a list, of what is counted for each of its items
pub data Sums {A : Type 0} (Counts : A → ℕ → Type 0) : List A → ℕ → Type 0 where
  none : Sums Counts [] 0
  more : {x : A} {xs : List A} {m n : ℕ} → Counts x m → Sums Counts xs n → Sums Counts (x ∷ xs) (m + n)

-- 1 where it is so, and 0 where it isn't
abbrev pub Scores : Type 0 → ℕ → Type 0
Scores P n = (P × (n ≡ 1)) ⊎ ((¬ P) × (n ≡ 0))

-- the six logics that are asked
abbrev pub logics : List Logic
logics = K ∷ KT ∷ S4 ∷ S5 ∷ GL ∷ Grz ∷ []

-- the four families
abbrev pub families : List Family
families = Transitive ∷ Reflexive ∷ Loeb ∷ Coded ∷ []

-- the numbers from 1 to n
abbrev pub numbers_to : ℕ → List ℕ
numbers_to zero = []
numbers_to (suc n) = numbers_to n ++ suc n ∷ []

-- in how many logics the family's formula for i is valid
abbrev pub CountsLogics : ℕ → Family → ℕ → Type 0
CountsLogics i which = Sums (λ logic. Scores (Valid logic (family_formula which i))) logics

-- how many pairs of a family and a logic have a valid formula for i
abbrev pub CountsValid : ℕ → ℕ → Type 0
CountsValid i = Sums (CountsLogics i) families

-- there are 24 questions for each number from 1 to n, which ask whether a family's formula is valid in a logic; so
-- many of them have yes for an answer, and the rest no
pub record IsSummary (n : ℕ) (summary : Summary) : Type 0 where
  pub asked : summary.asked ≡ 24 * n
  pub yes : Sums CountsValid (numbers_to n) summary.yes
  pub no : summary.yes + summary.no ≡ summary.asked
