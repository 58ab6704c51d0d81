-- The operands of an operator and the arguments of a function, of the kinds that it takes. Other kinds, or another number
-- of arguments, are a trouble.
use Rattle.std.specs.Prelude.{ℕ, Bool, List}
use Rattle.lw_formula.specs.declared.logic.Logic.{Logic}
use Rattle.lw_formula.specs.Formula.{Formula, letter}
use Rattle.lw_value.specs.Values.{Evidence, Val, Vals, formula, truth, number, items, logic, certificate, empty, item}
use Rattle.lw_eval.specs.declared.trouble.Trouble.TheVariants.{Kind}
use Rattle.lw_eval.specs.Evaluations.{Evaluation, Got, Fails}

-- a formula
abbrev pub formula_in : Val Formula → Evaluation Formula
formula_in (formula a) = Got a
formula_in _ = Fails Kind

-- a single propositional variable
abbrev pub variable_in : Val Formula → Evaluation (List ℕ)
variable_in (formula (letter p)) = Got p
variable_in _ = Fails Kind

-- a truth value
abbrev pub truth_in : Val Formula → Evaluation Bool
truth_in (truth b) = Got b
truth_in _ = Fails Kind

-- a number
abbrev pub number_in : Val Formula → Evaluation ℕ
number_in (number n) = Got n
number_in _ = Fails Kind

-- a list
abbrev pub list_in : Val Formula → Evaluation (Vals Formula)
list_in (items vs) = Got vs
list_in _ = Fails Kind

-- a logic
abbrev pub logic_in : Val Formula → Evaluation Logic
logic_in (logic l) = Got l
logic_in _ = Fails Kind

-- a certificate: its logic, its formula and what it shows of it
abbrev pub certificate_in : Val Formula → Evaluation (Logic × Formula × Evidence Formula)
certificate_in (certificate l a e) = Got (l, a, e)
certificate_in _ = Fails Kind

-- any value
abbrev pub any_in : Val Formula → Evaluation (Val Formula)
any_in v = Got v

-- both, where each is of its kind
abbrev pub both : {A B : Type 0} → Evaluation A → Evaluation B → Evaluation (A × B)
both (Got x) (Got y) = Got (x, y)
both _ _ = Fails Kind

-- the one argument, of this kind
abbrev pub one : {A : Type 0} → (Val Formula → Evaluation A) → Vals Formula → Evaluation A
one kind (item v empty) = kind v
one kind _ = Fails Kind

-- the two arguments, of these kinds
abbrev pub two : {A B : Type 0} → (Val Formula → Evaluation A) → (Val Formula → Evaluation B) → Vals Formula → Evaluation (A × B)
two first second (item v (item w empty)) = both (first v) (second w)
two first second _ = Fails Kind

-- the three arguments, of these kinds
abbrev pub three : {A B C : Type 0} → (Val Formula → Evaluation A) → (Val Formula → Evaluation B) → (Val Formula → Evaluation C) →
    Vals Formula → Evaluation (A × (B × C))
three first second third (item u (item v (item w empty))) = both (first u) (both (second v) (third w))
three first second third _ = Fails Kind
