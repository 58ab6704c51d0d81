-- The lengths of texts, and the printer's pieces.
use Rattle.std.proofs.Common.{◌≡◌, ℕ, ◌+◌, List, ◌++◌, length, min, ◌∙◌, ap, arith, length-append}
use Rattle.lw_formula.specs.Formula.{Formula}
use Rattle.lw_formula.specs.declared.joint.Joint.{Joint}
use Rattle.lw_formula.specs.declared.joint.Joint.TheVariants.{And, Or, Imp, Iff}
use Rattle.lw_formula.specs.Joint.{join}
use Rattle.lw_read.specs.Grammar.{rank}
use Rattle.lw_read.specs.Text.{text_of, sign_text, operand_text}

length-three : (xs ys zs : List ℕ) → length (xs ++ ys ++ zs) ≡ length xs + length ys + length zs
length-three xs ys zs = length-append (xs ++ ys) zs ∙ ap (λ n. n + length zs) (length-append xs ys)

pub join-length : (sign : Joint) (a b : Formula) → length (text_of (join sign a b)) ≡ length (operand_text (rank sign + 1) a (text_of a)) + length (sign_text sign) + length (operand_text (rank sign) b (text_of b))
join-length And a b = length-three (operand_text 5 a (text_of a)) (sign_text And) (operand_text 4 b (text_of b))
join-length Or a b = length-three (operand_text 4 a (text_of a)) (sign_text Or) (operand_text 3 b (text_of b))
join-length Imp a b = length-three (operand_text 3 a (text_of a)) (sign_text Imp) (operand_text 2 b (text_of b))
join-length Iff a b = length-three (operand_text 2 a (text_of a)) (sign_text Iff) (operand_text 1 b (text_of b))

-- a sum of which each part and each sum is cut at the most is the whole sum, cut there
pub sum-min : (x s y m p q r t w : ℕ) → p ≡ min x m → q ≡ min y m → r ≡ min (p + s) m → t ≡ min (r + q) m → w ≡ x + s + y → t ≡ min w m
sum-min x s y m p q r t w a b c d e = omega arith
