-- What holds of reading and printing as a whole.
use Rattle.std.specs.Prelude.{◌≡◌, ◌≢◌, ℕ, List}
use Rattle.lw_formula.specs.Formula.{Formula}
use Rattle.lw_read.specs.declared.fault.ReadFault.{ReadFault}
use Rattle.lw_read.specs.declared.fault.ReadFault.TheVariants.{Memory}
use Rattle.lw_read.specs.Lexemes.{Lexeme, lexemes_of}
use Rattle.lw_read.specs.Grammar.{IsFormula, ReadsAs, IsFaultOf}
use Rattle.lw_read.specs.Text.{text_of}

-- tokens have at most one tree
abbrev pub HasOneTree : List Lexeme → Type 0
HasOneTree ts = (a b : Formula) → IsFormula ts a → IsFormula ts b → a ≡ b

-- a text has at most one fault, want of memory aside
abbrev pub HasOneFault : List ℕ → Type 0
HasOneFault text =
    (fault other : ReadFault) → IsFaultOf text fault → IsFaultOf text other → fault ≢ Memory → other ≢ Memory →
    fault ≡ other

-- the text has no fault: nothing but want of memory keeps it from being read
abbrev pub IsFaultless : List ℕ → Type 0
IsFaultless text = (fault : ReadFault) → IsFaultOf text fault → fault ≡ Memory

-- a text that reads as a formula has no fault
abbrev pub HasOneAnswer : List ℕ → Type 0
HasOneAnswer text = (a : Formula) → ReadsAs text a → IsFaultless text

-- the tokens of the formula's text always have its tree, and where the text has no fault, it reads as the formula
pub record ReadsBack (a : Formula) : Type 0 where
  pub tree : IsFormula (lexemes_of (text_of a)) a
  pub reads : IsFaultless (text_of a) → ReadsAs (text_of a) a
