-- The machine accepts each script.
use Rattle.std.proofs.Common.{◌≡◌, ℕ, List, [], ◌∷◌, refl, sym, ◌∙◌, ap, arith}
use Rattle.lw_ast.specs.Trees.{Expressions, none, joined, put, print, Statement, at, Statements, over, then, followed, behind}
use Rattle.lw_ast.specs.ScriptLexemes.{ScriptLexeme, Semicolon}
use Rattle.lw_ast.specs.ScriptGrammar.{Items, last_item, next_item, States, assignment, printing, choice, choice_of_two, counting, each_item, repetition, Follow, no_statement, statement, IsScript}
use Rattle.lw_ast.specs.Private.ScriptMachine.{Assigning, Printing, Choosing, Counting, Bounding, Listing, Repeating, Yes, No, Counted, EachOf, Repeated, Enclosing, Within, In', Need, At, Done}
use Rattle.lw_ast.proofs.ExpressionsAccepted.{run, accepts, joined-put}

pub followed-behind : (ss : Statements) (s : Statement) (us : Statements) → followed (behind ss s) us ≡ followed ss (then s us)
followed-behind over s us = refl
followed-behind (then t ss) s us = ap (then t) (followed-behind ss s us)

pub followed-over : (ss : Statements) → followed ss over ≡ ss
followed-over over = refl
followed-over (then s ss) = ap (then s) (followed-over ss)

accepts-printed : {ts rest : List ScriptLexeme} {bs : Expressions} → Items Semicolon ts bs rest → (bodies : List Enclosing) (ss : Statements) (line : ℕ) (es : Expressions) → run ts (Need [] (In' bodies ss line (Printing es))) ≡ run rest (At (behind ss (at line (print (joined es bs)))) bodies)
accepts-printed (last_item r) bodies ss line es = accepts r [] (In' bodies ss line (Printing es)) (omega arith) (omega arith)
accepts-printed {rest = rest} (next_item {b = b} {bs = bs} r items) bodies ss line es =
    accepts r [] (In' bodies ss line (Printing es)) (omega arith) (omega arith)
    ∙ accepts-printed items bodies ss line (put es b)
    ∙ ap (λ bs. run rest (At (behind ss (at line (print bs))) bodies)) (joined-put es b bs)

mutual
  accepts-statement : {ts rest : List ScriptLexeme} {s : Statement} → States ts s rest → (ss : Statements) (bodies : List Enclosing) → run ts (At ss bodies) ≡ run rest (At (behind ss s) bodies)
  accepts-statement (assignment {line} {x} r) ss bodies = accepts r [] (In' bodies ss line (Assigning x)) (omega arith) (omega arith)
  accepts-statement (printing {line} items) ss bodies = accepts-printed items bodies ss line none
  accepts-statement (choice {line} {a = a} r body) ss bodies =
      accepts r [] (In' bodies ss line Choosing) (omega arith) (omega arith)
      ∙ accepts-block body over (Within ss line (Yes a) ∷ bodies)
  accepts-statement (choice_of_two {line} {a = a} {ss = us} r first second) ss bodies =
      accepts r [] (In' bodies ss line Choosing) (omega arith) (omega arith)
      ∙ accepts-block first over (Within ss line (Yes a) ∷ bodies)
      ∙ accepts-block second over (Within ss line (No a us) ∷ bodies)
  accepts-statement (counting {line} {x = x} {a = a} {b = b} r s body) ss bodies =
      accepts r [] (In' bodies ss line (Counting x)) (omega arith) (omega arith)
      ∙ accepts s [] (In' bodies ss line (Bounding x a)) (omega arith) (omega arith)
      ∙ accepts-block body over (Within ss line (Counted x a b) ∷ bodies)
  accepts-statement (each_item {line} {x = x} {a = a} r body) ss bodies =
      accepts r [] (In' bodies ss line (Listing x)) (omega arith) (omega arith)
      ∙ accepts-block body over (Within ss line (EachOf x a) ∷ bodies)
  accepts-statement (repetition {line} {a = a} r body) ss bodies =
      accepts r [] (In' bodies ss line Repeating) (omega arith) (omega arith)
      ∙ accepts-block body over (Within ss line (Repeated a) ∷ bodies)

  accepts-block : {ts rest : List ScriptLexeme} {us : Statements} → Follow ts us rest → (ss : Statements) (bodies : List Enclosing) → run ts (At ss bodies) ≡ run rest (At (followed ss us) bodies)
  accepts-block {rest = rest} (no_statement is) ss bodies = ap (λ from. run from (At ss bodies)) is ∙ ap (λ us. run rest (At us bodies)) (sym (followed-over ss))
  accepts-block {rest = rest} (statement {s = s} {ss = us} first others) ss bodies =
      accepts-statement first ss bodies
      ∙ accepts-block others (behind ss s) bodies
      ∙ ap (λ us. run rest (At us bodies)) (followed-behind ss s us)

pub accepted : {ts : List ScriptLexeme} {ss : Statements} → IsScript ts ss → run ts (At over []) ≡ Done ss
accepted script = accepts-block script over []
