-- The tokens of a printed formula, and that they read as it.
use Rattle.std.proofs.Common.{◌≡◌, ℕ, ◌≤◌, Bool, true, false, List, ◌∷◌, nat_lt, refl, arith}
use Rattle.std.proofs.lemmas.Bool.Decides.{nat_tests}
use Rattle.lw_formula.specs.Formula.{Formula, letter, falsum, verum, neg, conj, disj, impl, equi, nec, poss}
use Rattle.lw_read.specs.declared.lexeme.Prefix.TheVariants.{Not, Nec, Poss}
use Rattle.lw_formula.specs.declared.joint.Joint.TheVariants.{And, Or, Imp, Iff}
use Rattle.lw_read.specs.Lexemes.{Lexeme, Variable, Truth, Falsity, Before, Between, Open, Close}
use Rattle.lw_read.specs.Grammar.{Reads, variable, truth, falsity, prefixed, bracketed, joined}
use Rattle.lw_read.specs.Text.{tightness}

-- in brackets or not
abbrev pub in_brackets : Bool → (List Lexeme → List Lexeme) → List Lexeme → List Lexeme
in_brackets true spell rest = Open ∷ spell (Close ∷ rest)
in_brackets false spell rest = spell rest

-- the tokens of a printed formula before others
abbrev pub spelled : Formula → List Lexeme → List Lexeme
spelled (letter p) rest = Variable p ∷ rest
spelled falsum rest = Falsity ∷ rest
spelled verum rest = Truth ∷ rest
spelled (neg a) rest = Before Not ∷ in_brackets (nat_lt (tightness a) 5) (spelled a) rest
spelled (nec a) rest = Before Nec ∷ in_brackets (nat_lt (tightness a) 5) (spelled a) rest
spelled (poss a) rest = Before Poss ∷ in_brackets (nat_lt (tightness a) 5) (spelled a) rest
spelled (conj a b) rest = in_brackets (nat_lt (tightness a) 5) (spelled a) (Between And ∷ in_brackets (nat_lt (tightness b) 4) (spelled b) rest)
spelled (disj a b) rest = in_brackets (nat_lt (tightness a) 4) (spelled a) (Between Or ∷ in_brackets (nat_lt (tightness b) 3) (spelled b) rest)
spelled (impl a b) rest = in_brackets (nat_lt (tightness a) 3) (spelled a) (Between Imp ∷ in_brackets (nat_lt (tightness b) 2) (spelled b) rest)
spelled (equi a b) rest = in_brackets (nat_lt (tightness a) 2) (spelled a) (Between Iff ∷ in_brackets (nat_lt (tightness b) 1) (spelled b) rest)

pub tightness-low : (a : Formula) → 1 ≤ tightness a
tightness-low (letter p) = omega arith
tightness-low falsum = omega arith
tightness-low verum = omega arith
tightness-low (neg a) = omega arith
tightness-low (nec a) = omega arith
tightness-low (poss a) = omega arith
tightness-low (conj a b) = omega arith
tightness-low (disj a b) = omega arith
tightness-low (impl a b) = omega arith
tightness-low (equi a b) = omega arith

-- an operand where one must bind so tightly
operand-reads : (a : Formula) (spell : List Lexeme → List Lexeme) (least : ℕ) → ((n : ℕ) (rest : List Lexeme) → n ≤ tightness a → Reads n (spell rest) a rest) → (rest : List Lexeme) → Reads least (in_brackets (nat_lt (tightness a) least) spell rest) a rest
operand-reads a spell least reads rest =
    let Goal : Bool → Type 0 = λ b. nat_lt (tightness a) least ≡ b → Reads least (in_brackets b spell rest) a rest in
    elim (nat_lt (tightness a) least) as Goal [
      | true ↦ λ is. bracketed (reads 1 (Close ∷ rest) (tightness-low a))
      | false ↦ λ is. let high : least ≤ tightness a = grind (arith, nat_tests) in reads least rest high
    ] refl

-- the tokens of a printed formula read as it
pub spelled-reads : (a : Formula) (n : ℕ) (rest : List Lexeme) → n ≤ tightness a → Reads n (spelled a rest) a rest
spelled-reads (letter p) n rest h = variable
spelled-reads falsum n rest h = falsity
spelled-reads verum n rest h = truth
spelled-reads (neg a) n rest h = prefixed Not refl (operand-reads a (spelled a) 5 (spelled-reads a) rest)
spelled-reads (nec a) n rest h = prefixed Nec refl (operand-reads a (spelled a) 5 (spelled-reads a) rest)
spelled-reads (poss a) n rest h = prefixed Poss refl (operand-reads a (spelled a) 5 (spelled-reads a) rest)
spelled-reads (conj a b) n rest h = joined And h refl (operand-reads a (spelled a) 5 (spelled-reads a) _) (operand-reads b (spelled b) 4 (spelled-reads b) rest)
spelled-reads (disj a b) n rest h = joined Or h refl (operand-reads a (spelled a) 4 (spelled-reads a) _) (operand-reads b (spelled b) 3 (spelled-reads b) rest)
spelled-reads (impl a b) n rest h = joined Imp h refl (operand-reads a (spelled a) 3 (spelled-reads a) _) (operand-reads b (spelled b) 2 (spelled-reads b) rest)
spelled-reads (equi a b) n rest h = joined Iff h refl (operand-reads a (spelled a) 2 (spelled-reads a) _) (operand-reads b (spelled b) 1 (spelled-reads b) rest)
