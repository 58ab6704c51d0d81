-- The ids of normal forms, as the pool grows.
use Rattle.std.specs.Prelude.{List}
use Rattle.lw_formula.specs.declared.sign.Sign.TheVariants.{T, F}
use Rattle.lw_formula.specs.Formula.{Formula, conj, disj}
use Rattle.lw_pool.specs.declared.id.FormId.{FormId}
use Rattle.lw_pool.specs.Region.{tree_at, IsLive, IsAt, Grows}
use Rattle.lw_pool.proofs.RegionGrowth.{IsAt-grows}
use Rattle.lw_normal.specs.declared.normal_form.NormalForms.{NormalForms}
use Rattle.lw_normal.specs.NegationNormalForm.{nnf_under}

-- the ids are those of the normal forms of the formula and of its negation
abbrev pub AreNormalForms : List Formula → Formula → NormalForms → Type 0
AreNormalForms ts a forms = IsAt ts (nnf_under T a) forms.own × IsAt ts (nnf_under F a) forms.negated

-- ids keep their formulas
pub AreNormalForms-grows : (old new : List Formula) (a : Formula) (forms : NormalForms) → Grows old new → AreNormalForms old a forms → AreNormalForms new a forms
AreNormalForms-grows old new a forms grows at =
    (IsAt-grows old new (nnf_under T a) forms.own grows at.0, IsAt-grows old new (nnf_under F a) forms.negated grows at.1)

-- both ids are the list's
abbrev pub AreLive : List Formula → NormalForms → Type 0
AreLive ts forms = IsLive ts forms.own × IsLive ts forms.negated

-- both formulas of the first pair, or both of the second
abbrev pub either_pair : List Formula → FormId × FormId → FormId × FormId → Formula
either_pair ts p q = disj (conj (tree_at ts p.0) (tree_at ts p.1)) (conj (tree_at ts q.0) (tree_at ts q.1))
