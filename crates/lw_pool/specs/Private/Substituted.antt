-- The substitution of a pool's formula for a variable, as the pool grows.
use Rattle.std.proofs.Common.{ℕ, List, sym, subst, ◌∙◌, arith}
use Rattle.lw_formula.specs.Formula.{Formula}
use Rattle.lw_formula.specs.Variables.{replace}
use Rattle.lw_pool.specs.declared.id.FormId.{FormId}
use Rattle.lw_pool.specs.Region.{tree_at, IsLive, IsAt, Grows}

-- the id is that of the formula with the one at `by` for every p
abbrev pub IsSubstituted : List ℕ → FormId → List Formula → Formula → FormId → Type 0
IsSubstituted p by ts t a = IsAt ts (replace p (tree_at ts by) t) a

pub IsLive-grows : (old new : List Formula) (a : FormId) → Grows old new → IsLive old a → IsLive new a
IsLive-grows old new a g l = omega (arith, g.longer)

pub IsSubstituted-grows : (p : List ℕ) (by : FormId) (old new : List Formula) (t : Formula) (a : FormId) → Grows old new → IsLive old by →
    IsSubstituted p by old t a → IsSubstituted p by new t a
IsSubstituted-grows p by old new t a g l h =
    subst (λ (b : Formula). IsAt new (replace p b t) a) (sym (g.same by l)) (omega (arith, g.longer, h.0), g.same a h.0 ∙ h.1)
