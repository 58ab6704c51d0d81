-- The printed text of a formula: the fewest brackets with which it reads back.
use Rattle.std.specs.Prelude.{ℕ, nat_lt, if◌then◌else◌, Option, Some, None, List, ◌++◌, codes}
use Rattle.lw_formula.specs.declared.joint.Joint.{Joint}
use Rattle.lw_formula.specs.declared.joint.Joint.TheVariants.{And, Or, Imp, Iff}
use Rattle.lw_formula.specs.Joint.{joint_of}
use Rattle.lw_read.specs.Grammar.{rank}
use Rattle.lw_formula.specs.Formula.{Formula, letter, falsum, verum, neg, conj, disj, impl, equi, nec, poss}

-- how tightly a connective between two operands binds, by its level in the grammar; 5 where there is none
abbrev pub tightness_of : Option Joint → ℕ
tightness_of (Some sign) = rank sign
tightness_of None = 5

-- how tightly a formula binds, by its main connective
abbrev pub tightness : Formula → ℕ
tightness a = tightness_of (joint_of a)

-- a connective with the spaces round it
abbrev pub sign_text : Joint → List ℕ
sign_text And = codes " & "
sign_text Or = codes " v "
sign_text Imp = codes " -> "
sign_text Iff = codes " <-> "

-- the text of an operand where a formula must bind so tightly: in brackets if it doesn't
abbrev pub operand_text : ℕ → Formula → List ℕ → List ℕ
operand_text least a text = if nat_lt (tightness a) least then codes "(" ++ text ++ codes ")" else text

-- the text of the operand of `box` or `dia`: behind a space, if not in brackets
abbrev pub modal_operand_text : Formula → List ℕ → List ℕ
modal_operand_text a text = if nat_lt (tightness a) 5 then codes "(" ++ text ++ codes ")" else codes " " ++ text

-- a left operand must bind more tightly than its connective, a right one as tightly
abbrev pub text_of : Formula → List ℕ
text_of (letter p) = p
text_of falsum = codes "false"
text_of verum = codes "true"
text_of (neg a) = codes "~" ++ operand_text 5 a (text_of a)
text_of (nec a) = codes "box" ++ modal_operand_text a (text_of a)
text_of (poss a) = codes "dia" ++ modal_operand_text a (text_of a)
text_of (conj a b) = operand_text 5 a (text_of a) ++ sign_text And ++ operand_text 4 b (text_of b)
text_of (disj a b) = operand_text 4 a (text_of a) ++ sign_text Or ++ operand_text 3 b (text_of b)
text_of (impl a b) = operand_text 3 a (text_of a) ++ sign_text Imp ++ operand_text 2 b (text_of b)
text_of (equi a b) = operand_text 2 a (text_of a) ++ sign_text Iff ++ operand_text 1 b (text_of b)
