-- The machine of formulas reads the language of formulas, so it finds the first fault of a text, or its tree.
use Rattle.std.proofs.Common.{◌≡◌, ℕ, ◌<◌, List, [], ◌∷◌, ◌++◌, length, ◌⊎◌, inl, inr, refl, sym, ◌∙◌, ap, subst, arith}
use Rattle.std.proofs.lemmas.List.{get_or-map, length-map}
use Rattle.std.specs.List.{slice_range, HoldsAt}
use Rattle.lw_formula.specs.Formula.{Formula}
use Rattle.lw_read.specs.declared.lexer.Token.{Token}
use Rattle.lw_read.specs.declared.lexer.TokenKind.TheVariants.{Bad, Stop}
use Rattle.lw_read.specs.declared.text_fault.TextFault.{TextFault}
use Rattle.lw_read.specs.declared.text_fault.TextFault.TheVariants as fault
use Rattle.lw_read.specs.Tokens.{tokens_of}
use Rattle.lw_read.specs.Lexemes.{Lexeme, End, Foreign, kind_lexeme, lexeme_of, lexemes_of}
use Rattle.lw_read.specs.Language.{start_of, IsFaultIn}
use Rattle.lw_read.specs.Grammar.{formula_language, IsFaultOf, read_fault}
use Rattle.lw_read.specs.Machine.{IsReaderOf, IsDone}
use Rattle.lw_read.specs.Private.FormulaMachine.{Frame, State, Need, Have, Over, Astray, stop, step, run, formula_machine}
use Rattle.lw_read.proofs.MachineAccepts.{accepted, counts-are}
use Rattle.lw_read.proofs.MachineSound.{sound, completes}
use Rattle.lw_read.proofs.TokenByToken as tokens

-- the state behind these tokens
abbrev pub state_behind : List Lexeme → State
state_behind ts = run ts (Need [])

-- the end of the text leaves nothing open
stop-done : (a : Formula) (fs : List Frame) → IsDone formula_machine (stop a fs)
stop-done a [] = inr (a, refl)
stop-done a (f ∷ fs) = inl refl

step-end : (s : State) → IsDone formula_machine (step End s)
step-end (Need fs) = inl refl
step-end (Have a fs) = stop-done _ _
step-end (Over a) = inl refl
step-end Astray = inl refl

step-foreign : (s : State) → step Foreign s ≡ Astray
step-foreign (Need fs) = refl
step-foreign (Have a fs) = refl
step-foreign (Over a) = refl
step-foreign Astray = refl

stops : (text : List ℕ) (token : Token) (s : State) → (token.kind ≡ Stop) ⊎ (token.kind ≡ Bad) → IsDone formula_machine (step (lexeme_of text token) s)
stops text token s kind =
    let bytes = slice_range text token.start token.end in
    elim kind [
      | inl is ↦ subst (λ k. IsDone formula_machine (step (kind_lexeme k bytes) s)) (sym is) (step-end s)
      | inr is ↦ subst (λ k. IsDone formula_machine (step (kind_lexeme k bytes) s)) (sym is) (inl (step-foreign s))
    ]

apart : (a : Formula) → Over a ≡ Astray → ⊥
apart a is = cc

pub formulas-read : IsReaderOf formula_language formula_machine
formulas-read = record {
  accepts = λ ts a tree. accepted tree;
  sound = sound;
  completes = λ ts on. let more = completes (state_behind ts) on in (more.0, (more.1, sound (ts ++ more.0) more.1 (tokens.run-append formula_machine ts more.0 (Need []) ∙ more.2)));
  lost = λ t. refl;
  apart = apart;
  bare = refl;
  counts = λ ts a tree. counts-are ts (a, tree);
  stops = stops;
}

-- a token begins at its first byte
started : (text : List ℕ) (i : ℕ) (token : Token) → i < length (lexemes_of text) → HoldsAt (λ t. t ≡ token) (tokens_of text) i → token.start ≡ start_of text i
started text i token h is =
    let same = length-map (tokens_of text) (lexeme_of text) in
    ap (λ (t : Token). t.start) (sym (is token)) ∙ sym (get_or-map (λ (t : Token). t.start) (tokens_of text) i token 0 (omega arith))

-- the first fault of the text is that of the formula, at its byte
pub fault-of : (text : List ℕ) (e : TextFault) → IsFaultIn formula_language text e → IsFaultOf text (read_fault e)
fault-of text (fault.Unexpected token) is = (is.0, is.1, started text is.0 token is.1.0 is.2)
fault-of text (fault.TooLong token) is = (is.0, is.1, started text is.0 token is.1.0 is.2)
fault-of text (fault.Nested token) is = (is.0, is.1, started text is.0 token is.1.0 is.2)
fault-of text fault.Memory is = tt
