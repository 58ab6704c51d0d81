-- The first step of a proof that breaks its rule.
use Rattle.std.specs.Prelude.{ℕ, ◌+◌, suc, Bool, true, ◌&&◌, ◌==◌, if◌then◌else◌, List, ◌∷◌, Option, Some, None}
use Rattle.lw_formula.specs.declared.logic.Logic.{Logic}
use Rattle.lw_formula.specs.Formula.{Formula}
use Rattle.lw_formula.specs.Signed.{Signed}
use Rattle.lw_proof.specs.declared.rule.Rule.{Rule}
use Rattle.lw_proof.specs.declared.why.Why.{Why}
use Rattle.lw_formula.specs.declared.sign.Sign.TheVariants.{T, F}
use Rattle.lw_proof.specs.Tree.{Tree, Forest, node, more, lines, count_of}
use Rattle.lw_proof.specs.System.{Set, System, trees, same_sign}
use Rattle.lw_proof.specs.Derivation.{has_refl, has_cut, has_serial, is_one, is_two, is_nu, is_pi, is_modal_part, premises, goal_cuts, only}

-- how many premises the rule has
abbrev pub arity : Rule → ℕ
arity Rule.Close = 0
arity Rule.Absurd = 0
arity Rule.One = 1
arity Rule.Two = 2
arity Rule.Refl = 1
arity Rule.Step = 1
arity Rule.Serial = 1
arity Rule.Cut = 2

-- whether the rule is one of the logic
abbrev pub in_logic : Logic → Rule → Bool
in_logic L Rule.Close = true
in_logic L Rule.Absurd = true
in_logic L Rule.One = true
in_logic L Rule.Two = true
in_logic L Rule.Refl = has_refl L
in_logic L Rule.Step = true
in_logic L Rule.Serial = has_serial L
in_logic L Rule.Cut = has_cut L

-- the first of two, where there is one
abbrev pub or_else : {X : Type 0} → Option X → Option X → Option X
or_else None y = y
or_else (Some x) y = Some x

-- the step with its reason, where there is one
abbrev pub at_step : ℕ → Option Why → Option (ℕ × Why)
at_step k None = None
at_step k (Some why) = Some (k, why)

module _ {I : Type 0} (S : System I) where
  -- whether the rule takes such a principal, whatever the set is
  abbrev pub fits : Rule → I → Bool
  fits Rule.Close s = same_sign (S.sign s) T
  fits Rule.Absurd s = S.is_absurd s
  fits Rule.One s = is_one (S.parts s)
  fits Rule.Two s = is_two (S.parts s)
  fits Rule.Refl s = is_nu (S.parts s)
  fits Rule.Step s = is_pi (S.parts s)
  fits Rule.Serial s = is_nu (S.parts s)
  fits Rule.Cut s = same_sign (S.sign s) T && is_modal_part (S.parts s)

  -- whether the set has what must be there
  abbrev pub present : Set I → Rule → I → Bool
  present X Rule.Close s = X s && X (S.flip s)
  present X Rule.Absurd s = X s
  present X Rule.One s = X s
  present X Rule.Two s = X s
  present X Rule.Refl s = X s
  present X Rule.Step s = X s
  present X Rule.Serial s = X s
  present X Rule.Cut s = true

  -- whether the formula of a cut may be cut
  abbrev pub in_goal : Set I → Rule → I → Bool
  in_goal cuts Rule.Close s = true
  in_goal cuts Rule.Absurd s = true
  in_goal cuts Rule.One s = true
  in_goal cuts Rule.Two s = true
  in_goal cuts Rule.Refl s = true
  in_goal cuts Rule.Step s = true
  in_goal cuts Rule.Serial s = true
  in_goal cuts Rule.Cut s = cuts s

  -- the first reason why a step with n subproofs breaks its rule
  abbrev pub reason : Set I → Logic → Set I → Rule → I → ℕ → Option Why
  reason cuts L X r s n =
      if in_logic L r then
      if fits r s then
      if n == arity r then
      if present X r s then
      if in_goal cuts r s then None
      else Some Why.Goal
      else Some Why.Missing
      else Some Why.Arity
      else Some Why.Shape
      else Some Why.Logic

  -- the first step that breaks its rule, with its reason, where the steps are counted from k
  abbrev mutual
    pub break_from : Set I → Logic → Set I → ℕ → Tree I → Option (ℕ × Why)
    break_from cuts L X k (node r s ts) =
        or_else (at_step k (reason cuts L X r s (count_of ts))) (breaks_from cuts L (premises S L r s (S.parts s) X) (suc k) ts)

    pub breaks_from : Set I → Logic → List (Set I) → ℕ → Forest I → Option (ℕ × Why)
    breaks_from cuts L (X ∷ Xs) k (more t ts) = or_else (break_from cuts L X k t) (breaks_from cuts L Xs (k + lines t) ts)
    breaks_from cuts L _ k _ = None

-- the number, from 1 in pre-order, of the first step that breaks its rule where the proof is to prove the goal, with its first reason
abbrev pub first_break : Logic → Formula → Tree Signed → Option (ℕ × Why)
first_break L goal P = break_from trees (goal_cuts goal) L (only (F, goal)) 1 P
