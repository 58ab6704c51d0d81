-- A state that isn't astray can be completed.
use Rattle.std.proofs.Common.{◌≡◌, ℕ, zero, suc, ◌+◌, ◌-◌, ◌<◌, true, List, [], ◌∷◌, ◌++◌, cond, nat_eq, nat_lt, refl, ◌∙◌, ap, arith}
use Rattle.std.proofs.lemmas.Bool.Decides.{nat_tests}
use Rattle.lw_read.proofs.TokenByToken.{run-append}
use Rattle.lw_ast.specs.declared.function.Function.{Function}
use Rattle.lw_ast.specs.Trees.{Expression, nothing, call, Expressions, none, put, count, Statements, over}
use Rattle.lw_ast.specs.ScriptLexemes.{ScriptLexeme, Atom, Upper, Open, Close, CloseList, Comma, Calls, Becomes, Semicolon, Then, End, To, In, Do, Stops}
use Rattle.lw_ast.specs.Functions.{arity}
use Rattle.lw_ast.specs.ScriptGrammar.{IsScript}
use Rattle.lw_ast.specs.Private.ScriptMachine.{Frame, Prefixed, Denied, Left, Compared, Linked, Bracket, Listed, Called, Assigning, Printing, Choosing, Counting, Bounding, Listing, Repeating, Enclosing, Within, Setting, In', State, Need, Have, Calling, At, Named, Looping, LoopNamed, Done, Astray, frame_level, finish, script_machine}
use Rattle.lw_ast.proofs.ExpressionsAccepted.{run, Ends, swallow, count-put, link-bounds, chain-bounds}
use Rattle.lw_ast.proofs.ExpressionsSound.{Pending}
use Rattle.lw_ast.proofs.ScriptsSound.{Placed, Good, ran, started, sound, arity-some}

-- what closes the statements round a place
abbrev ends : List Enclosing → List ScriptLexeme
ends [] = Stops ∷ []
ends (b ∷ bs) = End ∷ ends bs

-- what closes a statement whose expression is there
abbrev leaving : Setting → List ScriptLexeme
leaving (In' bs ss line (Assigning x)) = Semicolon ∷ ends bs
leaving (In' bs ss line (Printing es)) = Semicolon ∷ ends bs
leaving (In' bs ss line Choosing) = Then ∷ End ∷ ends bs
leaving (In' bs ss line (Counting x)) = To ∷ Atom nothing ∷ Do ∷ End ∷ ends bs
leaving (In' bs ss line (Bounding x a)) = Do ∷ End ∷ ends bs
leaving (In' bs ss line (Listing x)) = Do ∷ End ∷ ends bs
leaving (In' bs ss line Repeating) = Do ∷ End ∷ ends bs

-- the arguments that are wanting, and the bracket behind them
abbrev wanting : ℕ → List ScriptLexeme → List ScriptLexeme
wanting zero rest = Close ∷ rest
wanting (suc j) rest = Comma ∷ Atom nothing ∷ wanting j rest

abbrev closers : List Frame → List ScriptLexeme → List ScriptLexeme
closers [] rest = rest
closers (Bracket ∷ fs) rest = Close ∷ closers fs rest
closers (Listed bs ∷ fs) rest = CloseList ∷ closers fs rest
closers (Called f bs ∷ fs) rest = wanting (arity f - (count bs + 1)) (closers fs rest)
closers (f ∷ fs) rest = closers fs rest

-- each call still takes an argument
abbrev AreOpen : List Frame → Type 0
AreOpen [] = Unit {0}
AreOpen (Called f bs ∷ fs) = (count bs < arity f) × AreOpen fs
AreOpen (f ∷ fs) = AreOpen fs

pending-open : (Begun : List ScriptLexeme → Type 0) (fs : List Frame) (ts : List ScriptLexeme) → Pending Begun fs ts → AreOpen fs
pending-open Begun [] ts p = tt
pending-open Begun (Prefixed sign ∷ fs) ts p = pending-open Begun fs _ p
pending-open Begun (Denied ∷ fs) ts p = pending-open Begun fs _ p.0
pending-open Begun (Left o a ∷ fs) ts p = pending-open Begun fs p.0 p.1
pending-open Begun (Compared r a ∷ fs) ts p = pending-open Begun fs p.0 p.1
pending-open Begun (Linked k a bs s ∷ fs) ts p = pending-open Begun fs p.0 p.1
pending-open Begun (Bracket ∷ fs) ts p = pending-open Begun fs _ p
pending-open Begun (Listed bs ∷ fs) ts p = pending-open Begun fs p.0 p.1
pending-open Begun (Called f bs ∷ fs) ts p = (p.3, pending-open Begun fs p.0 p.1)

wanting-end : (n j : ℕ) (rest : List ScriptLexeme) → 0 < n → Ends n (wanting j rest)
wanting-end n zero rest low = low
wanting-end n (suc j) rest low = low

leaving-end : (n : ℕ) (p : Setting) → 0 < n → Ends n (leaving p)
leaving-end n (In' bs ss line (Assigning x)) low = low
leaving-end n (In' bs ss line (Printing es)) low = low
leaving-end n (In' bs ss line Choosing) low = low
leaving-end n (In' bs ss line (Counting x)) low = low
leaving-end n (In' bs ss line (Bounding x a)) low = low
leaving-end n (In' bs ss line (Listing x)) low = low
leaving-end n (In' bs ss line Repeating) low = low

closers-end : (n : ℕ) (fs : List Frame) (p : Setting) → 0 < n → Ends n (closers fs (leaving p))
closers-end n [] p low = leaving-end n p low
closers-end n (Bracket ∷ fs) p low = low
closers-end n (Listed bs ∷ fs) p low = low
closers-end n (Called f bs ∷ fs) p low = wanting-end n (arity f - (count bs + 1)) (closers fs (leaving p)) low
closers-end n (Prefixed sign ∷ fs) p low = closers-end n fs p low
closers-end n (Denied ∷ fs) p low = closers-end n fs p low
closers-end n (Left o a ∷ fs) p low = closers-end n fs p low
closers-end n (Compared r a ∷ fs) p low = closers-end n fs p low
closers-end n (Linked k a bs s ∷ fs) p low = closers-end n fs p low

ended : (bs : List Enclosing) (ss : Statements) → (us : Statements) × (run (ends bs) (At ss bs) ≡ Done us)
ended [] ss = (ss, refl)
ended (Within before line shape ∷ bs) ss = ended bs _

left-off : (p : Setting) (a : Expression) → (us : Statements) × (run (leaving p) (Have a [] p) ≡ Done us)
left-off (In' bs ss line (Assigning x)) a = ended bs _
left-off (In' bs ss line (Printing es)) a = ended bs _
left-off (In' bs ss line Choosing) a = ended bs _
left-off (In' bs ss line (Counting x)) a = ended bs _
left-off (In' bs ss line (Bounding x b)) a = ended bs _
left-off (In' bs ss line (Listing x)) a = ended bs _
left-off (In' bs ss line Repeating) a = ended bs _

module _ (p : Setting) where
  abbrev Closes : List Frame → Type 0
  Closes fs = (a : Expression) → (us : Statements) × (run (closers fs (leaving p)) (Have a fs p) ≡ Done us)

  closes-call : (j : ℕ) (f : Function) (bs : Expressions) (a : Expression) (fs : List Frame) → count bs + 1 + j ≡ arity f → Closes fs → (us : Statements) × (run (wanting j (closers fs (leaving p))) (Have a (Called f bs ∷ fs) p) ≡ Done us)
  closes-call zero f bs a fs is closes =
      let all : nat_eq (count bs + 1) (arity f) ≡ true = grind (arith, nat_tests) in
      let rest = closes (call f (put bs a)) in
      (rest.0, ap (λ t. run (closers fs (leaving p)) (cond t (Have (call f (put bs a)) fs p) Astray)) all ∙ rest.1)
  closes-call (suc j) f bs a fs is closes =
      let some : nat_lt (count bs + 1) (arity f) ≡ true = grind (arith, nat_tests) in
      let one = count-put bs a in
      let rest = closes-call j f (put bs a) nothing fs (omega arith) closes in
      (rest.0, ap (λ t. run (Atom nothing ∷ wanting j (closers fs (leaving p))) (cond t (Need (Called f (put bs a) ∷ fs) p) Astray)) some ∙ rest.1)

  -- one that ends with its operand
  closes-one : (f : Frame) (fs : List Frame) → 0 < frame_level f → Closes fs → (a : Expression) → (us : Statements) × (run (closers fs (leaving p)) (Have a (f ∷ fs) p) ≡ Done us)
  closes-one f fs low closes a = let rest = closes (finish f a) in (rest.0, swallow p f a fs (closers fs (leaving p)) (closers-end (frame_level f) fs p low) ∙ rest.1)

  closed : (fs : List Frame) → AreOpen fs → Closes fs
  closed [] all = λ a. left-off p a
  closed (Bracket ∷ fs) all = λ a. closed fs all a
  closed (Listed bs ∷ fs) all = λ a. closed fs all _
  closed (Called f bs ∷ fs) all = λ a. closes-call (arity f - (count bs + 1)) f bs a fs (omega (arith, all.0)) (closed fs all.1)
  closed (Prefixed sign ∷ fs) all = closes-one (Prefixed sign) fs (omega arith) (closed fs all)
  closed (Denied ∷ fs) all = closes-one Denied fs (omega arith) (closed fs all)
  closed (Left o a ∷ fs) all = closes-one (Left o a) fs (link-bounds o).0 (closed fs all)
  closed (Compared r a ∷ fs) all = closes-one (Compared r a) fs (omega arith) (closed fs all)
  closed (Linked k a bs s ∷ fs) all = closes-one (Linked k a bs s) fs (chain-bounds k).0 (closed fs all)

finished : (whole ts : List ScriptLexeme) (s : State) → Good whole s ts → (s ≡ Astray → ⊥) → (rest : List ScriptLexeme) × (us : Statements) × (run rest s ≡ Done us)
finished whole ts (Need fs p) g on =
    let more = closed p fs (pending-open (Placed whole p) fs ts g) nothing in
    (Atom nothing ∷ closers fs (leaving p), more.0, more.1)
finished whole ts (Have a fs p) g on =
    let more = closed p fs (pending-open (Placed whole p) fs g.0 g.1) a in
    (closers fs (leaving p), more.0, more.1)
finished whole ts (Calling f fs p) g on =
    let all : AreOpen (Called f none ∷ fs) = (arity-some f, pending-open (Placed whole p) fs (Calls f ∷ ts) g) in
    let more = closed p (Called f none ∷ fs) all nothing in
    (Open ∷ Atom nothing ∷ closers (Called f none ∷ fs) (leaving p), more.0, more.1)
finished whole ts (At ss bs) g on = let more = ended bs ss in (ends bs, more.0, more.1)
finished whole ts (Named x line ss bs) g on = let more = ended bs _ in (Becomes ∷ Atom nothing ∷ Semicolon ∷ ends bs, more.0, more.1)
finished whole ts (Looping line ss bs) g on = let more = ended bs _ in (Upper 0 [] ∷ In ∷ Atom nothing ∷ Do ∷ End ∷ ends bs, more.0, more.1)
finished whole ts (LoopNamed x line ss bs) g on = let more = ended bs _ in (In ∷ Atom nothing ∷ Do ∷ End ∷ ends bs, more.0, more.1)
finished whole ts (Done ss) g on = ([], ss, refl)
finished whole ts Astray g on = absurd (on refl)

pub completes : (ts : List ScriptLexeme) → (run ts (At over []) ≡ Astray → ⊥) → (rest : List ScriptLexeme) × ((ss : Statements) × IsScript (ts ++ rest) ss)
completes ts on =
    let more = finished ts [] (run ts (At over [])) (ran ts ts (At over []) (started ts)) on in
    (more.0, (more.1, sound (ts ++ more.0) more.1 (run-append script_machine ts more.0 (At over []) ∙ more.2)))
