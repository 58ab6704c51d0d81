-- What operators give for their operands.
use Rattle.std.specs.Prelude.{◌≡◌, ◌≢◌, ℕ, ◌+◌, ◌-◌, ◌*◌, ◌^◌, nat_le, nat_lt, Bool, true, false, if◌then◌else◌}
use Rattle.lw_formula.specs.declared.joint.Joint.{Joint}
use Rattle.lw_formula.specs.Formula.{Formula, neg, nec, poss}
use Rattle.lw_formula.specs.Joint.{join}
use Rattle.lw_ast.specs.declared.operator.Op.{Op}
use Rattle.lw_ast.specs.declared.operator.Op.TheVariants.{Plus, Minus, Times}
use Rattle.lw_ast.specs.declared.operator.Prefix.{Prefix}
use Rattle.lw_ast.specs.declared.operator.Prefix.TheVariants.{Not, Nec, Poss}
use Rattle.lw_ast.specs.declared.operator.Relation.{Relation}
use Rattle.lw_ast.specs.declared.operator.Relation.TheVariants.{Equal, Unequal, Less, AtMost}
use Rattle.lw_value.specs.Values.{Val, Vals, formula, truth, number, items, weight}
use Rattle.lw_value.specs.Evidence.{HasNoCertificate}
use Rattle.lw_eval.specs.declared.trouble.Trouble.TheVariants.{Kind, Range}
use Rattle.lw_eval.specs.Evaluations.{Evaluation, Got, Fails, Is, Given, Bind, Tells}
use Rattle.lw_eval.specs.Operands.{formula_in, number_in, truth_in, both}

-- the greatest weight of a list
abbrev pub weight_limit : ℕ
weight_limit = 65536

-- `~`, `box` and `dia` before a formula
abbrev pub prefixed_by : Prefix → Formula → Formula
prefixed_by Not a = neg a
prefixed_by Nec a = nec a
prefixed_by Poss a = poss a

-- the value of such a sign before a value: a formula with the sign
abbrev pub Prefixes : Prefix → Val Formula → Evaluation (Val Formula) → Type 0
Prefixes sign v = Given (formula_in v) (λ a. Is (Got (formula (prefixed_by sign a))))

-- `&`, `v`, `->` and `<->` between formulas
abbrev pub Joins : Joint → Val Formula → Val Formula → Evaluation (Val Formula) → Type 0
Joins j v w = Given (both (formula_in v) (formula_in w)) (λ a. Is (Got (formula (join j a.0 a.1))))

-- numbers go from 0 to 2^64 - 1
abbrev pub in_range : ℕ → Evaluation (Val Formula)
in_range n = if nat_lt n (2 ^ 64) then Got (number n) else Fails Range

-- `+`, `-` and `*`
abbrev pub calculated : Op → ℕ → ℕ → Evaluation (Val Formula)
calculated Plus m n = in_range (m + n)
calculated Minus m n = if nat_le n m then in_range (m - n) else Fails Range
calculated Times m n = in_range (m * n)

-- the value of such a sign between two values: the number, if both are numbers
abbrev pub Calculates : Op → Val Formula → Val Formula → Evaluation (Val Formula) → Type 0
Calculates s v w = Given (both (number_in v) (number_in w)) (λ n. Is (calculated s n.0 n.1))

-- values are equal or not where no certificate stands in them, inside lists too
pub data Compared (v w : Val Formula) (answer : Evaluation (Val Formula) → Type 0) : Evaluation (Val Formula) → Type 0 where
  plain : {r : Evaluation (Val Formula)} → HasNoCertificate v → HasNoCertificate w → answer r → Compared v w answer r
  certified : ¬ (HasNoCertificate v × HasNoCertificate w) → Compared v w answer (Fails Kind)

-- `==`, `!=`, `<` and `<=`
abbrev pub Compares : Relation → Val Formula → Val Formula → Evaluation (Val Formula) → Type 0
Compares Equal v w = Compared v w (Tells (v ≡ w))
Compares Unequal v w = Compared v w (Tells (v ≢ w))
Compares Less v w = Given (both (number_in v) (number_in w)) (λ n. Is (Got (truth (nat_lt n.0 n.1))))
Compares AtMost v w = Given (both (number_in v) (number_in w)) (λ n. Is (Got (truth (nat_le n.0 n.1))))

-- a truth value of what has a value
abbrev pub Tests : (Evaluation (Val Formula) → Type 0) → Evaluation Bool → Type 0
Tests value = Bind value (λ v. Is (truth_in v))

-- and as a value again
abbrev pub Truth : (Evaluation Bool → Type 0) → Evaluation (Val Formula) → Type 0
Truth test = Bind test (λ b. Is (Got (truth b)))

-- `and`: where the left side is no, the right one isn't evaluated
abbrev pub Both : Bool → (Evaluation (Val Formula) → Type 0) → Evaluation (Val Formula) → Type 0
Both true right = Truth (Tests right)
Both false right = Is (Got (truth false))

-- `or`: where the left side is yes, the right one isn't evaluated
abbrev pub Either : Bool → (Evaluation (Val Formula) → Type 0) → Evaluation (Val Formula) → Type 0
Either true right = Is (Got (truth true))
Either false right = Truth (Tests right)

-- a list may not be too heavy
abbrev pub list_of : Vals Formula → Evaluation (Val Formula)
list_of vs = if nat_le (weight (items vs)) weight_limit then Got (items vs) else Fails Range
