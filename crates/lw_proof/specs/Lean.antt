-- Lean proofs: each premise but that of a Step or a Serial has something new, and the formula bounds the Steps on a path; each Serial lowers the
-- modal depth. So the formula bounds the proof.
use Rattle.std.specs.Prelude.{ℕ, ◌+◌, ◌^◌, ◌≤◌, max, IsTrue, List, [], ◌∷◌, ⊤}
use Rattle.lw_formula.specs.declared.logic.Logic.{Logic}
use Rattle.lw_formula.specs.declared.sign.Sign.TheVariants.{F}
use Rattle.lw_formula.specs.Formula.{Formula, modal_count}
use Rattle.lw_formula.specs.Signed.{Signed}
use Rattle.lw_proof.specs.declared.rule.Rule.{Rule}
use Rattle.lw_proof.specs.Tree.{Tree, Forest, node, none, more}
use Rattle.lw_proof.specs.System.{Set, System, trees}
use Rattle.lw_proof.specs.Derivation.{premises, Proves, only}

-- how many Steps the rule is
abbrev pub own_steps : Rule → ℕ
own_steps Rule.Close = 0
own_steps Rule.Absurd = 0
own_steps Rule.One = 0
own_steps Rule.Two = 0
own_steps Rule.Refl = 0
own_steps Rule.Step = 1
own_steps Rule.Serial = 0
own_steps Rule.Cut = 0

-- the greatest number of Steps on a path
abbrev mutual
  pub steps : {A : Type 0} → Tree A → ℕ
  steps (node r x ts) = own_steps r + steps_all ts

  pub steps_all : {A : Type 0} → Forest A → ℕ
  steps_all none = 0
  steps_all (more t ts) = max (steps t) (steps_all ts)

-- the second set has something that the first lacks
abbrev pub HasNew : {I : Type 0} → Set I → Set I → Type 0
HasNew {I} X Y = (s : I) × IsTrue (Y s) × (¬ IsTrue (X s))

-- each of the sets has something that the first lacks
abbrev pub AllHaveNew : {I : Type 0} → Set I → List (Set I) → Type 0
AllHaveNew X [] = ⊤
AllHaveNew X (Y ∷ Ys) = HasNew X Y × AllHaveNew X Ys

-- so has each premise of a rule that goes to no other world
abbrev pub Gains : {I : Type 0} → Rule → Set I → List (Set I) → Type 0
Gains Rule.Close X Ys = AllHaveNew X Ys
Gains Rule.Absurd X Ys = AllHaveNew X Ys
Gains Rule.One X Ys = AllHaveNew X Ys
Gains Rule.Two X Ys = AllHaveNew X Ys
Gains Rule.Refl X Ys = AllHaveNew X Ys
Gains Rule.Step X Ys = ⊤
Gains Rule.Serial X Ys = ⊤
Gains Rule.Cut X Ys = AllHaveNew X Ys

module _ {I : Type 0} (S : System I) where
  -- the proof that is to close the set has something new in each premise of a rule other than Step and Serial
  abbrev mutual
    pub Grows : Logic → Set I → Tree I → Type 0
    Grows L X (node r s ts) = Gains r X (premises S L r s (S.parts s) X) × GrowAll L (premises S L r s (S.parts s) X) ts

    pub GrowAll : Logic → List (Set I) → Forest I → Type 0
    GrowAll L (X ∷ Xs) (more t ts) = Grows L X t × GrowAll L Xs ts
    GrowAll L _ _ = ⊤

-- the proof proves the goal, each premise of a One, Two, Refl or Cut has something that the set before it lacks, and no path has more
-- Steps than the square of one more than the goal's modal subformulas
pub record Lean (logic : Logic) (proof : Tree Signed) (goal : Formula) : Type 0 where
  pub proves : Proves logic proof goal
  pub grows : Grows trees logic (only (F, goal)) proof
  pub few_steps : steps proof ≤ (modal_count goal + 1) ^ 2
