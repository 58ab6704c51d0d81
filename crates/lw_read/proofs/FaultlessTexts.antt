-- A text has at most one fault, and one of the grammar without a fault reads as its tree.
use Rattle.std.proofs.Common.{◌≡◌, ◌≢◌, ℕ, List, refl, sym, ◌∙◌, ap}
use Rattle.lw_formula.specs.Formula.{Formula}
use Rattle.lw_read.specs.declared.fault.ReadFault.{ReadFault}
use Rattle.lw_read.specs.declared.fault.ReadFault.TheVariants as fault
use Rattle.lw_read.specs.Lexemes.{lexemes_of}
use Rattle.lw_read.specs.Places.{FaultKind, Unexpected, TooLong, Nested, HasFirstFault, HasNoFirstFault, HasOneCount}
use Rattle.lw_read.specs.Grammar.{IsFormula, formula_language, formulas, ReadsAs, IsFaultOf}
use Rattle.lw_read.specs.Language.{start_of}
use Rattle.lw_read.specs.Private.FormulaMachine.{formula_machine}
use Rattle.lw_read.specs.Text.{text_of}
use Rattle.lw_formula.specs.Variables.{HasNames}
use Rattle.lw_read.specs.Laws.{HasOneFault, IsFaultless, HasOneAnswer, ReadsBack}
use Rattle.lw_read.proofs.FaultPlaces.{fine-no-fault, one-fault, faultless-fine, one-count}
use Rattle.lw_read.proofs.FirstFaults.{formulas-read}
use Rattle.lw_read.proofs.PrintedTokens.{text-reads}

pub one-count-of : HasOneCount formulas
one-count-of = one-count formula_language formula_machine formulas-read

-- the fault of a kind at the byte
abbrev fault_at : FaultKind → ℕ → ReadFault
fault_at Unexpected at = fault.Unexpected at
fault_at TooLong at = fault.Name at
fault_at Nested at = fault.Nested at

-- a fault that isn't want of memory is of a kind, at a token
record IsAt (text : List ℕ) (e : ReadFault) : Type 0 where
  kind : FaultKind
  token : ℕ
  has : HasFirstFault formulas (lexemes_of text) kind token
  is : e ≡ fault_at kind (start_of text token)

placed : (text : List ℕ) (e : ReadFault) → e ≢ fault.Memory → IsFaultOf text e → IsAt text e
placed text (fault.Unexpected at) real is = record { kind = Unexpected; token = is.0; has = is.1; is = ap fault.Unexpected is.2 }
placed text (fault.Name at) real is = record { kind = TooLong; token = is.0; has = is.1; is = ap fault.Name is.2 }
placed text (fault.Nested at) real is = record { kind = Nested; token = is.0; has = is.1; is = ap fault.Nested is.2 }
placed text fault.Memory real is = absurd (real refl)

pub one-fault-of : (text : List ℕ) → HasOneFault text
one-fault-of text e f is also real true' =
    let here = placed text e real is in
    let there = placed text f true' also in
    let same = one-fault formulas one-count-of (lexemes_of text) here.kind there.kind here.token there.token here.has there.has in
    here.is ∙ ap (λ kind. fault_at kind (start_of text here.token)) same.0 ∙ ap (λ i. fault_at there.kind (start_of text i)) same.1 ∙ sym there.is

-- a text whose faults are want of memory alone has no token with a fault
no-fault : (text : List ℕ) → IsFaultless text → HasNoFirstFault formulas (lexemes_of text)
no-fault text none Unexpected i is = let same = none (fault.Unexpected (start_of text i)) (i, is, refl) in absurd (cc)
no-fault text none TooLong i is = let same = none (fault.Name (start_of text i)) (i, is, refl) in absurd (cc)
no-fault text none Nested i is = let same = none (fault.Nested (start_of text i)) (i, is, refl) in absurd (cc)

-- and reads as its tree
pub faultless-reads : (text : List ℕ) (a : Formula) → IsFormula (lexemes_of text) a → IsFaultless text → ReadsAs text a
faultless-reads text a tree none = (faultless-fine formulas (lexemes_of text) (no-fault text none) (a, tree), tree)

pub reads-back : (a : Formula) → HasNames a → ReadsBack a
reads-back a names = record {
  tree = text-reads a names;
  reads = faultless-reads (text_of a) a (text-reads a names);
}

-- a text that reads has no fault
pub one-answer : (text : List ℕ) → HasOneAnswer text
one-answer text a reads (fault.Unexpected at) is = absurd (fine-no-fault formulas one-count-of (lexemes_of text) Unexpected is.0 (reads.0 is.0 is.1.0) is.1)
one-answer text a reads (fault.Name at) is = absurd (fine-no-fault formulas one-count-of (lexemes_of text) TooLong is.0 (reads.0 is.0 is.1.0) is.1)
one-answer text a reads (fault.Nested at) is = absurd (fine-no-fault formulas one-count-of (lexemes_of text) Nested is.0 (reads.0 is.0 is.1.0) is.1)
one-answer text a reads fault.Memory is = refl
