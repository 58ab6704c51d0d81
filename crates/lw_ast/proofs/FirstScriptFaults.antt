-- A text is at most one script, or has at most one fault.
use Rattle.std.proofs.Common.{◌≡◌, ◌≢◌, ℕ, List, refl, sym, ◌∙◌, ap}
use Rattle.std.specs.List.{HoldsAt}
use Rattle.lw_read.specs.declared.lexer.Token.{Token}
use Rattle.lw_read.specs.declared.lexer.TokenKind.TheVariants as token
use Rattle.lw_read.specs.declared.text_fault.TextFault.{TextFault}
use Rattle.lw_read.specs.declared.text_fault.TextFault.TheVariants as fault
use Rattle.lw_read.specs.Tokens.{tokens_of}
use Rattle.lw_read.specs.Places.{FaultKind, Unexpected, TooLong, Nested, HasFirstFault, HasOneCount}
use Rattle.lw_read.specs.Language.{lexemes_in, IsFaultIn}
use Rattle.lw_read.proofs.FaultPlaces.{fine-no-fault, one-fault, one-count}
use Rattle.lw_ast.specs.declared.fault.ScriptFault.{ScriptFault}
use Rattle.lw_ast.specs.declared.fault.ScriptFault.TheVariants.{Memory}
use Rattle.lw_ast.specs.Trees.{Statements}
use Rattle.lw_ast.specs.ScriptLexemes.{ScriptLexeme}
use Rattle.lw_ast.specs.ScriptGrammar.{script_language}
use Rattle.lw_ast.specs.Private.ScriptMachine.{script_machine}
use Rattle.lw_ast.specs.ScriptFaults.{scripts, script_fault, ReadsAsScript, HasOneScript, HasOneScriptFault, HasOneScriptAnswer}
use Rattle.lw_ast.proofs.ScriptsAccepted.{accepted}
use Rattle.lw_ast.proofs.ScriptReader.{scripts-read}

pub same-script : (ts : List ScriptLexeme) → HasOneScript ts
same-script ts ss us r s = let e = accepted r in let f = accepted s in cc

pub one-count-of : HasOneCount scripts
one-count-of = one-count script_language script_machine scripts-read

-- the fault of a kind at a token
abbrev fault_at : FaultKind → Token → TextFault
fault_at Unexpected t = fault.Unexpected t
fault_at TooLong t = fault.TooLong t
fault_at Nested t = fault.Nested t

-- a fault that isn't want of memory is of a kind, at a token
record IsAt (text : List ℕ) (e : TextFault) : Type 0 where
  kind : FaultKind
  index : ℕ
  at : Token
  has : HasFirstFault scripts (lexemes_in script_language text) kind index
  there : HoldsAt (λ t. t ≡ at) (tokens_of text) index
  is : e ≡ fault_at kind at

placed : (text : List ℕ) (e : TextFault) → e ≢ fault.Memory → IsFaultIn script_language text e → IsAt text e
placed text (fault.Unexpected t) real is = record { kind = Unexpected; index = is.0; at = t; has = is.1; there = is.2; is = refl }
placed text (fault.TooLong t) real is = record { kind = TooLong; index = is.0; at = t; has = is.1; there = is.2; is = refl }
placed text (fault.Nested t) real is = record { kind = Nested; index = is.0; at = t; has = is.1; there = is.2; is = refl }
placed text fault.Memory real is = absurd (real refl)

-- some token
none : Token
none = record { kind = token.Word; start = 0; end = 0 }

same-token : (text : List ℕ) (i j : ℕ) (t u : Token) → i ≡ j → HoldsAt (λ v. v ≡ t) (tokens_of text) i → HoldsAt (λ v. v ≡ u) (tokens_of text) j → t ≡ u
same-token text i j t u is here there = let one = here none in let other = there none in cc

same-fault : (text : List ℕ) (e f : TextFault) → IsFaultIn script_language text e → IsFaultIn script_language text f → e ≢ fault.Memory → f ≢ fault.Memory → e ≡ f
same-fault text e f is also real true' =
    let here = placed text e real is in
    let there = placed text f true' also in
    let same = one-fault scripts one-count-of (lexemes_in script_language text) here.kind there.kind here.index there.index here.has there.has in
    here.is ∙ ap (λ kind. fault_at kind here.at) same.0 ∙ ap (fault_at there.kind) (same-token text here.index there.index here.at there.at same.1 here.there there.there) ∙ sym there.is

-- want of memory is want of memory
real-fault : (text : List ℕ) (s : ScriptFault) (e : TextFault) → s ≡ script_fault text e → s ≢ Memory → e ≢ fault.Memory
real-fault text s e is real memory = real (is ∙ ap (script_fault text) memory)

pub one-fault-of : (text : List ℕ) → HasOneScriptFault text
one-fault-of text s t is also real true' =
    is.2 ∙ ap (script_fault text) (same-fault text is.0 also.0 is.1 also.1 (real-fault text s is.0 is.2 real) (real-fault text t also.0 also.2 true')) ∙ sym also.2

no-fault : (text : List ℕ) (ss : Statements) (e : TextFault) → ReadsAsScript text ss → IsFaultIn script_language text e → e ≡ fault.Memory
no-fault text ss (fault.Unexpected t) reads is = absurd (fine-no-fault scripts one-count-of (lexemes_in script_language text) Unexpected is.0 (reads.0 is.0 is.1.0) is.1)
no-fault text ss (fault.TooLong t) reads is = absurd (fine-no-fault scripts one-count-of (lexemes_in script_language text) TooLong is.0 (reads.0 is.0 is.1.0) is.1)
no-fault text ss (fault.Nested t) reads is = absurd (fine-no-fault scripts one-count-of (lexemes_in script_language text) Nested is.0 (reads.0 is.0 is.1.0) is.1)
no-fault text ss fault.Memory reads is = refl

pub one-answer : (text : List ℕ) → HasOneScriptAnswer text
one-answer text ss s reads is = is.2 ∙ ap (script_fault text) (no-fault text ss is.0 reads is.1)
