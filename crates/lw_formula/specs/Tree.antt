-- What the contracts see of a program's formula: its tree. This is the one place that names the variants of `Form`.
use Rattle.lw_formula.specs.declared.form.Form.{Form}
use Rattle.lw_formula.specs.declared.form.Form.TheVariants.{Var, Bot, Top, Not', And', Or', Imp', Iff', Nec', Poss'}
use Rattle.lw_formula.specs.Formula.{Formula, letter, falsum, verum, neg, conj, disj, impl, equi, nec, poss}

abbrev pub tree_of : Form → Formula
tree_of (Var p) = letter p
tree_of Bot = falsum
tree_of Top = verum
tree_of (Not' i a) = neg (tree_of a)
tree_of (And' i a j b) = conj (tree_of a) (tree_of b)
tree_of (Or' i a j b) = disj (tree_of a) (tree_of b)
tree_of (Imp' i a j b) = impl (tree_of a) (tree_of b)
tree_of (Iff' i a j b) = equi (tree_of a) (tree_of b)
tree_of (Nec' i a) = nec (tree_of a)
tree_of (Poss' i a) = poss (tree_of a)
