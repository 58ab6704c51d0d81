-- The machine reads the language of scripts.
use Rattle.std.proofs.Common.{◌≡◌, ℕ, List, [], ◌∷◌, ◌⊎◌, inl, inr, refl, sym, subst}
use Rattle.std.specs.List.{slice_range}
use Rattle.lw_read.specs.declared.lexer.Token.{Token}
use Rattle.lw_read.specs.declared.lexer.TokenKind.TheVariants.{Bad, Stop}
use Rattle.lw_read.specs.LinesAndColumns.{line_at}
use Rattle.lw_read.specs.Machine.{IsReaderOf, IsDone}
use Rattle.lw_read.specs.Constructs.{ended}
use Rattle.lw_ast.specs.Trees.{Expression, Statements}
use Rattle.lw_ast.specs.ScriptLexemes.{Stops, Foreign, kind_script_lexeme, script_lexeme_of}
use Rattle.lw_ast.specs.ScriptGrammar.{script_language}
use Rattle.lw_ast.specs.Private.ScriptMachine.{Frame, Setting, In', Assigning, Printing, Choosing, Counting, Bounding, Listing, Repeating, Enclosing, State, Need, Have, Calling, At, Named, Looping, LoopNamed, Done, Astray, leave, leave_all, stop, step, script_constructs, script_machine}
use Rattle.lw_ast.proofs.ScriptsAccepted.{accepted}
use Rattle.lw_ast.proofs.ScriptsSound.{sound}
use Rattle.lw_ast.proofs.ScriptsCompleted.{completes}
use Rattle.lw_ast.proofs.ScriptsCounted.{counts-are}

stop-done : (ss : Statements) (bs : List Enclosing) → IsDone script_machine (stop ss bs)
stop-done ss [] = inr (ss, refl)
stop-done ss (b ∷ bs) = inl refl

leave-end : (a : Expression) (p : Setting) → leave Stops a p ≡ Astray
leave-end a (In' bs ss line (Assigning x)) = refl
leave-end a (In' bs ss line (Printing es)) = refl
leave-end a (In' bs ss line Choosing) = refl
leave-end a (In' bs ss line (Counting x)) = refl
leave-end a (In' bs ss line (Bounding x b)) = refl
leave-end a (In' bs ss line (Listing x)) = refl
leave-end a (In' bs ss line Repeating) = refl

leave-foreign : (a : Expression) (p : Setting) → leave Foreign a p ≡ Astray
leave-foreign a (In' bs ss line (Assigning x)) = refl
leave-foreign a (In' bs ss line (Printing es)) = refl
leave-foreign a (In' bs ss line Choosing) = refl
leave-foreign a (In' bs ss line (Counting x)) = refl
leave-foreign a (In' bs ss line (Bounding x b)) = refl
leave-foreign a (In' bs ss line (Listing x)) = refl
leave-foreign a (In' bs ss line Repeating) = refl

end-lost : (a : Expression) (fs : List Frame) (p : Setting) → leave_all Stops a fs p ≡ Astray
end-lost a [] p = leave-end a p
end-lost a (f ∷ fs) p = refl

foreign-lost : (a : Expression) (fs : List Frame) (p : Setting) → leave_all Foreign a fs p ≡ Astray
foreign-lost a [] p = leave-foreign a p
foreign-lost a (f ∷ fs) p = refl

step-end : (s : State) → IsDone script_machine (step Stops s)
step-end (Need fs p) = inl refl
step-end (Have a fs p) = inl (end-lost (ended script_constructs 0 a fs).0 (ended script_constructs 0 a fs).1 p)
step-end (Calling f fs p) = inl refl
step-end (At ss bs) = stop-done ss bs
step-end (Named x line ss bs) = inl refl
step-end (Looping line ss bs) = inl refl
step-end (LoopNamed x line ss bs) = inl refl
step-end (Done ss) = inl refl
step-end Astray = inl refl

step-foreign : (s : State) → IsDone script_machine (step Foreign s)
step-foreign (Need fs p) = inl refl
step-foreign (Have a fs p) = inl (foreign-lost (ended script_constructs 0 a fs).0 (ended script_constructs 0 a fs).1 p)
step-foreign (Calling f fs p) = inl refl
step-foreign (At ss bs) = inl refl
step-foreign (Named x line ss bs) = inl refl
step-foreign (Looping line ss bs) = inl refl
step-foreign (LoopNamed x line ss bs) = inl refl
step-foreign (Done ss) = inl refl
step-foreign Astray = inl refl

stops : (text : List ℕ) (token : Token) (s : State) → (token.kind ≡ Stop) ⊎ (token.kind ≡ Bad) → IsDone script_machine (step (script_lexeme_of text token) s)
stops text token s kind =
    let line = line_at text token.start in
    let bytes = slice_range text token.start token.end in
    elim kind [
      | inl is ↦ subst (λ k. IsDone script_machine (step (kind_script_lexeme k line bytes) s)) (sym is) (step-end s)
      | inr is ↦ subst (λ k. IsDone script_machine (step (kind_script_lexeme k line bytes) s)) (sym is) (step-foreign s)
    ]

apart : (ss : Statements) → Done ss ≡ Astray → ⊥
apart ss is = cc

pub scripts-read : IsReaderOf script_language script_machine
scripts-read = record {
  accepts = λ ts ss text. accepted text;
  sound = sound;
  completes = completes;
  lost = λ t. refl;
  apart = apart;
  bare = refl;
  counts = counts-are;
  stops = stops;
}
