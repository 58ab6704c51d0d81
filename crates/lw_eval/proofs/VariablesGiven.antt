-- An argument that is to be a variable.
use Rattle.std.proofs.Common.{◌≡◌, refl, ℕ, List}
use Rattle.lw_formula.specs.Formula.{Formula, letter, falsum, verum, neg, conj, disj, impl, equi, nec, poss}
use Rattle.lw_formula.specs.Variables.{replace}
use Rattle.lw_ast.specs.declared.function.Function.TheVariants.{Fixpoint, Substitute}
use Rattle.lw_value.specs.Values.{Val, formula, empty, item}
use Rattle.lw_eval.specs.declared.trouble.Trouble.TheVariants.{Kind}
use Rattle.lw_eval.specs.Evaluations.{Evaluation, Got, Fails}
use Rattle.lw_eval.specs.Calls.{Calls, Fixes}
use Rattle.lw_eval.specs.Private.Given.{IsCompound}

pub fixpoint_of : (p : List ℕ) (t a : Formula) (r : Evaluation (Val Formula)) → t ≡ letter p → Fixes p a r → Calls Fixpoint (item (formula t) (item (formula a) empty)) r
fixpoint_of p t a r q h = rw q h

pub fixpoint_of_none : (t a : Formula) → IsCompound t → Calls Fixpoint (item (formula t) (item (formula a) empty)) (Fails Kind)
fixpoint_of_none (letter p) a h = absurd h
fixpoint_of_none falsum a h = refl
fixpoint_of_none verum a h = refl
fixpoint_of_none (neg b) a h = refl
fixpoint_of_none (conj b c) a h = refl
fixpoint_of_none (disj b c) a h = refl
fixpoint_of_none (impl b c) a h = refl
fixpoint_of_none (equi b c) a h = refl
fixpoint_of_none (nec b) a h = refl
fixpoint_of_none (poss b) a h = refl

pub substitute_of : (p : List ℕ) (t a b x : Formula) → t ≡ letter p → x ≡ replace p b a → Calls Substitute (item (formula a) (item (formula t) (item (formula b) empty))) (Got (formula x))
substitute_of p t a b x q k = rw (q, k) refl

pub substitute_of_none : (t a b : Formula) → IsCompound t → Calls Substitute (item (formula a) (item (formula t) (item (formula b) empty))) (Fails Kind)
substitute_of_none (letter p) a b h = absurd h
substitute_of_none falsum a b h = refl
substitute_of_none verum a b h = refl
substitute_of_none (neg c) a b h = refl
substitute_of_none (conj c d) a b h = refl
substitute_of_none (disj c d) a b h = refl
substitute_of_none (impl c d) a b h = refl
substitute_of_none (equi c d) a b h = refl
substitute_of_none (nec c) a b h = refl
substitute_of_none (poss c) a b h = refl
