-- What the machine takes for an expression is one.
use Rattle.std.proofs.Common.{◌≡◌, ℕ, ◌+◌, ◌<◌, ◌≤◌, List, [], ◌∷◌, arith}
use Rattle.lw_read.specs.Constructs.{BindsNoTighter, ended}
use Rattle.lw_read.proofs.StackedConstructs.{ended-keeps}
use Rattle.lw_ast.specs.Trees.{Expression, chained, list, call, Expressions, none, more, joined, put, count, Operands, no_more, signed, chained_up}
use Rattle.lw_ast.specs.ScriptLexemes.{ScriptLexeme, Before, Deny, Between, Compare, Open, OpenList, CloseList}
use Rattle.lw_ast.specs.Functions.{arity}
use Rattle.lw_ast.specs.ScriptGrammar.{link_level, chain_level, Reads, atom, script_variable, signed_operand, denial, linking, comparison, chaining, bracketed, empty_list, listed, called, Terms, last, Items, Arguments}
use Rattle.lw_ast.specs.Private.ScriptMachine.{Frame, Prefixed, Denied, Left, Compared, Linked, Bracket, Listed, Called, frame_level, hole, finish, script_constructs}
use Rattle.lw_ast.proofs.ExpressionsAccepted.{link-bounds, chain-bounds, Holds, Holds-fits}

pub looser : {m : ℕ} {ts rest : List ScriptLexeme} {a : Expression} → Reads m ts a rest → (n : ℕ) → n ≤ m → Reads n ts a rest
looser atom n le = atom
looser script_variable n le = script_variable
looser (signed_operand sign r) n le = signed_operand sign r
looser (denial low r) n le = denial (omega arith) r
looser (linking o low r s) n le = linking o (omega arith) r s
looser (comparison sign low r s) n le = comparison sign (omega arith) r s
looser (chaining k s low r t) n le = chaining k s (omega arith) r t
looser (bracketed r) n le = bracketed r
looser empty_list n le = empty_list
looser (listed items) n le = listed items
looser (called f arguments) n le = called f arguments

-- the tokens from where an expression of a statement begins, of which this holds, up to these led to this stack
abbrev pub Pending : (List ScriptLexeme → Type 0) → List Frame → List ScriptLexeme → Type 0
Pending Begun [] ts = Begun ts
Pending Begun (Prefixed sign ∷ fs) ts = Pending Begun fs (Before sign ∷ ts)
Pending Begun (Denied ∷ fs) ts = Pending Begun fs (Deny ∷ ts) × Holds 3 fs
Pending Begun (Left o a ∷ fs) ts = (from : List ScriptLexeme) × Pending Begun fs from × Reads (link_level o + 1) from a (Between o ∷ ts) × Holds (link_level o) fs
Pending Begun (Compared r a ∷ fs) ts = (from : List ScriptLexeme) × Pending Begun fs from × Reads 5 from a (Compare r ∷ ts) × Holds 4 fs
Pending Begun (Linked k a bs s ∷ fs) ts = (from : List ScriptLexeme) × Pending Begun fs from × ((cs : Operands) (rest : List ScriptLexeme) → Terms k s ts cs rest → Reads (chain_level k) from (chained k a (chained_up bs cs)) rest) × Holds (chain_level k) fs
Pending Begun (Bracket ∷ fs) ts = Pending Begun fs (Open ∷ ts)
Pending Begun (Listed bs ∷ fs) ts = (from : List ScriptLexeme) × Pending Begun fs from × ((cs : Expressions) (rest : List ScriptLexeme) → Items CloseList ts cs rest → Reads 11 from (list (joined bs cs)) rest) × (bs ≡ none → from ≡ OpenList ∷ ts)
Pending Begun (Called f bs ∷ fs) ts = (from : List ScriptLexeme) × Pending Begun fs from × ((cs : Expressions) (rest : List ScriptLexeme) (m : ℕ) → count bs + m ≡ arity f → Arguments m ts cs rest → Reads 11 from (call f (joined bs cs)) rest) × (count bs < arity f)

-- and from there on to an operand
abbrev pub Operand : (List ScriptLexeme → Type 0) → Expression → List Frame → List ScriptLexeme → Type 0
Operand Begun a fs ts = (from : List ScriptLexeme) × Pending Begun fs from × Reads 11 from a ts

-- or to an expression of level n, which the innermost construct takes
abbrev pub OperandOf : (List ScriptLexeme → Type 0) → ℕ → Expression → List Frame → List ScriptLexeme → Type 0
OperandOf Begun n a fs ts = ((from : List ScriptLexeme) × Pending Begun fs from × Reads n from a ts) × Holds n fs

hole-high : (f : Frame) → hole f ≤ 11
hole-high (Prefixed sign) = omega arith
hole-high Denied = omega arith
hole-high (Left o a) = let b = link-bounds o in omega arith
hole-high (Compared r a) = omega arith
hole-high (Linked k a bs s) = let b = chain-bounds k in omega arith
hole-high Bracket = omega arith
hole-high (Listed bs) = omega arith
hole-high (Called f bs) = omega arith

Holds-tightest : (fs : List Frame) → Holds 11 fs
Holds-tightest [] = omega arith
Holds-tightest (f ∷ fs) = hole-high f

module _ (Begun : List ScriptLexeme → Type 0) where
  -- a construct ends with its last operand
  finishes : (ts : List ScriptLexeme) (m : ℕ) (a : Expression) (f : Frame) (fs : List Frame) → 0 < frame_level f → OperandOf Begun m a (f ∷ fs) ts → OperandOf Begun (frame_level f) (finish f a) fs ts
  finishes ts m a (Prefixed sign) fs low op = ((Before sign ∷ op.0.0, op.0.1, signed_operand sign (looser op.0.2 11 op.1)), Holds-tightest fs)
  finishes ts m a Denied fs low op = ((Deny ∷ op.0.0, op.0.1.0, denial (omega arith) (looser op.0.2 3 op.1)), op.0.1.1)
  finishes ts m a (Left o b) fs low op = ((op.0.1.0, op.0.1.1, linking o (omega arith) op.0.1.2 (looser op.0.2 (link_level o) op.1)), op.0.1.3)
  finishes ts m a (Compared r b) fs low op = ((op.0.1.0, op.0.1.1, comparison r (omega arith) op.0.1.2 (looser op.0.2 5 op.1)), op.0.1.3)
  finishes ts m a (Linked k b bs s) fs low op = ((op.0.1.0, op.0.1.1, op.0.1.2 (signed s a no_more) ts (last (looser op.0.2 (chain_level k + 1) op.1))), op.0.1.3)
  finishes ts m a Bracket fs low op = absurd (omega arith)
  finishes ts m a (Listed bs) fs low op = absurd (omega arith)
  finishes ts m a (Called f bs) fs low op = absurd (omega arith)

  -- the operand that is left once the constructs that bind tighter are ended
  pub left : (n : ℕ) (a : Expression) (fs : List Frame) (ts : List ScriptLexeme) → n < 11 → Operand Begun a fs ts → let e = ended script_constructs n a fs in (k : ℕ) × (n < k) × BindsNoTighter script_constructs n e.1 × OperandOf Begun k e.0 e.1 ts
  left n a fs ts low op =
      ended-keeps script_constructs (λ m b gs. OperandOf Begun m b gs ts)
      (λ m b f gs low high op. let made = finishes ts m b f gs low op in (made, Holds-fits (frame_level f) gs made.1))
      n fs 11 a low (Holds-fits 11 fs (Holds-tightest fs)) (op, Holds-tightest fs)

pub put-some : (bs : Expressions) (a : Expression) → put bs a ≡ none → ⊥
put-some none a is = cc
put-some (more b bs) a is = cc
