-- Laws of bisimilar worlds and of quotients, each a fact that stands by itself (Blackburn, de Rijke and Venema, section 2.2).
use Rattle.std.specs.Prelude.{◌≡◌, ◌≢◌, ℕ, ◌<◌, ◌≤◌, ◌↔◌, List}
use Rattle.lw_formula.specs.declared.logic.Logic.{Logic}
use Rattle.lw_formula.specs.Formula.{Formula}
use Rattle.lw_formula.specs.FiniteModel.{FiniteModel, IsWellFormed, Sees, HasFact}
use Rattle.lw_formula.specs.Class.{Class}
use Rattle.lw_formula.specs.Truth.{IsTrueAt}
use Rattle.lw_formula.specs.Validity.{Refutes}
use Rattle.lw_bisim.specs.Bisimulation.{AreBisimilar}
use Rattle.lw_bisim.specs.Quotient.{Quotient, IsQuotient, place_of}

-- worlds are bisimilar exactly where the same formulas are true at them (Hennessy and Milner, for finite models)
abbrev pub BisimilarWorldsAgree : Type 0
BisimilarWorldsAgree =
    (m : FiniteModel) (v u : ℕ) → IsWellFormed m → v < m.worlds → u < m.worlds →
    AreBisimilar m v u ↔ ((a : Formula) → IsTrueAt m v a ↔ IsTrueAt m u a)

-- a formula is true at a world exactly where it is true at its class
abbrev pub QuotientKeepsTruth : Type 0
QuotientKeepsTruth =
    (m : FiniteModel) (q : Quotient) → IsWellFormed m → IsQuotient m q → (v : ℕ) → v < m.worlds → (a : Formula) →
    IsTrueAt m v a ↔ IsTrueAt q.model (place_of q.places v) a

-- the quotient of a model of a logic's class is of the logic's class
abbrev pub QuotientKeepsClass : Type 0
QuotientKeepsClass = (logic : Logic) (m : FiniteModel) (q : Quotient) → IsQuotient m q → Class logic m → Class logic q.model

-- so what a model refutes at a world, its quotient refutes at the world's class
abbrev pub QuotientRefutes : Type 0
QuotientRefutes =
    (logic : Logic) (m : FiniteModel) (q : Quotient) (w : ℕ) (a : Formula) → IsQuotient m q → Refutes logic m w a →
    Refutes logic q.model (place_of q.places w) a

-- the formula is true at w and false at v
abbrev pub Tells : FiniteModel → Formula → ℕ → ℕ → Type 0
Tells m a w v = IsTrueAt m w a × (¬ IsTrueAt m v a)

-- of two worlds of the quotient some formula is true at the first alone
abbrev pub QuotientWorldsDiffer : Type 0
QuotientWorldsDiffer =
    (m : FiniteModel) (q : Quotient) → IsWellFormed m → IsQuotient m q →
    (c d : ℕ) → c < q.model.worlds → d < q.model.worlds → c ≢ d → (a : Formula) × Tells q.model a c d

-- the map takes each world of the first model to a world of the second at which the same formulas are true
pub record KeepsTruth (m n : FiniteModel) (map : ℕ → ℕ) : Type 0 where
  pub within : (v : ℕ) → v < m.worlds → map v < n.worlds
  pub truth : (v : ℕ) (a : Formula) → v < m.worlds → IsTrueAt m v a ↔ IsTrueAt n (map v) a

-- no model that such a map leads to has fewer worlds than the quotient
abbrev pub QuotientIsSmallest : Type 0
QuotientIsSmallest =
    (m n : FiniteModel) (q : Quotient) (map : ℕ → ℕ) → IsWellFormed m → IsQuotient m q → KeepsTruth m n map →
    q.model.worlds ≤ n.worlds

-- the same classes, and the same relation and letters between them
pub record IsSameQuotient (q r : Quotient) : Type 0 where
  pub places : q.places ≡ r.places
  pub worlds : q.model.worlds ≡ r.model.worlds
  pub sees : (c d : ℕ) → Sees q.model c d ↔ Sees r.model c d
  pub letters : (c : ℕ) (p : List ℕ) → HasFact q.model c p ↔ HasFact r.model c p

-- a model has one quotient, but for the order of its lists
abbrev pub QuotientIsOne : Type 0
QuotientIsOne = (m : FiniteModel) (q r : Quotient) → IsQuotient m q → IsQuotient m r → IsSameQuotient q r
