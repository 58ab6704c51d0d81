-- Models of one world, one for each logic.
use Rattle.std.proofs.Common.{◌≡◌, ℕ, ◌<◌, ◌≤◌, [], ◌∷◌, ⊎_elim, ap, sym, subst, ◌∙◌, arith}
use Rattle.std.specs.List.{Contains}
use Rattle.std.proofs.lemmas.List.Elements.{All-nil, All-cons}
use Rattle.lw_formula.specs.declared.logic.Logic.{Logic}
use Rattle.lw_formula.specs.declared.logic.Logic.TheVariants.{K, KT, S4, S5, GL, Grz, K4, KD}
use Rattle.lw_formula.specs.Formula.{falsum}
use Rattle.lw_formula.specs.FiniteModel.{FiniteModel, IsWellFormed, Sees}
use Rattle.lw_formula.specs.Class.{Class}
use Rattle.lw_formula.specs.Validity.{Valid}
use Rattle.lw_formula.proofs.ListMembers.{Contains-nil, Contains-head, Contains-cons_cases, AreDistinct-nil, AreDistinct-cons}

-- one world that sees nothing
abbrev pub dead_end : FiniteModel
dead_end = record { worlds = 1; pairs = []; facts = [] }

-- one world that sees itself
abbrev pub loop : FiniteModel
loop = record { worlds = 1; pairs = (0, 0) ∷ []; facts = [] }

dead_end-IsWellFormed : IsWellFormed dead_end
dead_end-IsWellFormed = record {
  inhabited = omega arith;
  pairs_within = All-nil (λ p. (p.0 < 1) × (p.1 < 1));
  pairs_distinct = AreDistinct-nil;
  facts_within = All-nil (λ f. f.0 < 1);
  facts_distinct = AreDistinct-nil;
}

loop-IsWellFormed : IsWellFormed loop
loop-IsWellFormed = record {
  inhabited = omega arith;
  pairs_within = All-cons (λ p. (p.0 < 1) × (p.1 < 1)) (0, 0) [] (omega arith, omega arith) (All-nil (λ p. (p.0 < 1) × (p.1 < 1)));
  pairs_distinct = AreDistinct-cons (0, 0) [] (Contains-nil (0, 0)) AreDistinct-nil;
  facts_within = All-nil (λ f. f.0 < 1);
  facts_distinct = AreDistinct-nil;
}

-- it sees no world but itself, which is the world 0
loop-Sees : (v w : ℕ) → Sees loop v w → (v ≡ 0) × (w ≡ 0)
loop-Sees v w s = ⊎_elim (λ e. (sym (ap (λ p. p.0) e), sym (ap (λ p. p.1) e))) (λ none. absurd (Contains-nil (v, w) none)) (Contains-cons_cases (0, 0) [] (v, w) s)

loop-sees : (v w : ℕ) → v ≡ 0 → w ≡ 0 → Sees loop v w
loop-sees v w e f = subst (Contains ((0, 0) ∷ [])) (λ i. (sym e i, sym f i)) (Contains-head (0, 0) [])

-- which of the two is of the logic's class
abbrev pub one_world : Logic → FiniteModel
one_world K = dead_end
one_world KT = loop
one_world S4 = loop
one_world S5 = loop
one_world GL = dead_end
one_world Grz = loop
one_world K4 = dead_end
one_world KD = loop

reflexive : (w : ℕ) → w < 1 → Sees loop w w
reflexive w l = loop-sees w w (omega arith) (omega arith)

transitive : (u v w : ℕ) → Sees loop u v → Sees loop v w → Sees loop u w
transitive u v w s t = loop-sees u w (loop-Sees u v s).0 (loop-Sees v w t).1

symmetric : (v w : ℕ) → Sees loop v w → Sees loop w v
symmetric v w s = loop-sees w v (loop-Sees v w s).1 (loop-Sees v w s).0

antisymmetric : (v w : ℕ) → Sees loop v w → Sees loop w v → v ≡ w
antisymmetric v w s t = (loop-Sees v w s).0 ∙ sym (loop-Sees v w s).1

pub one_world-Class : (logic : Logic) → Class logic (one_world logic)
one_world-Class K = record { well_formed = dead_end-IsWellFormed; frame = tt }
one_world-Class KT = record { well_formed = loop-IsWellFormed; frame = reflexive }
one_world-Class S4 = record { well_formed = loop-IsWellFormed; frame = (reflexive, transitive) }
one_world-Class S5 = record { well_formed = loop-IsWellFormed; frame = (reflexive, symmetric, transitive) }
one_world-Class GL = record { well_formed = dead_end-IsWellFormed; frame = (λ u v w s t. absurd (Contains-nil (u, v) s), λ w s. Contains-nil (w, w) s) }
one_world-Class Grz = record { well_formed = loop-IsWellFormed; frame = (reflexive, transitive, antisymmetric) }
one_world-Class K4 = record { well_formed = dead_end-IsWellFormed; frame = λ u v w s t. absurd (Contains-nil (u, v) s) }
one_world-Class KD = record { well_formed = loop-IsWellFormed; frame = λ w l. (w, reflexive w l) }

one_world-inhabited : (logic : Logic) → 0 < (one_world logic).worlds
one_world-inhabited logic = let some : IsWellFormed (one_world logic) = (one_world-Class logic).well_formed in let one : 1 ≤ (one_world logic).worlds = some.inhabited in omega arith

pub falsum_not_Valid : (logic : Logic) → ¬ Valid logic falsum
falsum_not_Valid logic valid = valid (one_world logic) (one_world-Class logic) 0 (one_world-inhabited logic)
