-- What the machine accepts is a script, and what it has not refused begins one.
use Rattle.std.proofs.Common.{◌≡◌, ℕ, suc, ◌+◌, ◌<◌, Bool, true, false, List, [], ◌∷◌, cond, nat_eq, nat_le, nat_lt, refl, sym, subst, arith}
use Rattle.std.proofs.lemmas.Bool.Decides.{nat_tests}
use Rattle.lw_read.specs.Constructs.{ended}
use Rattle.lw_ast.specs.declared.operator.Op.{Op}
use Rattle.lw_ast.specs.declared.function.Function.{Function}
use Rattle.lw_ast.specs.declared.function.Function.TheVariants as function
use Rattle.lw_ast.specs.declared.operator.Series.{Series}
use Rattle.lw_ast.specs.declared.operator.Series.TheVariants.{Sum, Product}
use Rattle.lw_ast.specs.Trees.{Expression, chained, list, call, Expressions, none, more, joined, put, count, no_more, signed, print, Statement, at, Statements, over, then, followed, behind}
use Rattle.lw_ast.specs.ScriptLexemes.{ScriptLexeme, Atom, Upper, Before, Deny, Between, Compare, Chained, Open, Close, OpenList, CloseList, Comma, Calls, Becomes, Semicolon, Print, If, Then, Else, End, For, To, In, Do, While, Stops, Foreign}
use Rattle.lw_ast.specs.Functions.{arity}
use Rattle.lw_ast.specs.ScriptGrammar.{link_level, chain_level, Reads, atom, script_variable, bracketed, empty_list, listed, called, chaining, next, Items, last_item, next_item, Arguments, last_argument, next_argument, States, assignment, printing, choice, choice_of_two, counting, each_item, repetition, Follow, no_statement, statement, IsScript}
use Rattle.lw_ast.specs.Private.ScriptMachine.{Frame, Denied, Left, Compared, Linked, Bracket, Listed, Called, Head, Assigning, Printing, Choosing, Counting, Bounding, Listing, Repeating, Compound, Yes, No, Counted, EachOf, Repeated, Enclosing, Within, Setting, In', State, Need, Have, Calling, At, Named, Looping, LoopNamed, Done, Astray, top_hole, script_constructs, where_fits, begin, chain, close, close_list, comma, leave, leave_all, open_call, kind_of, state, name, loop, loop_name, step}
use Rattle.lw_ast.proofs.ExpressionsAccepted.{run, link-bounds, chain-bounds, Holds, joined-put, count-put, chained-add}
use Rattle.lw_ast.proofs.ScriptsAccepted.{followed-behind}
use Rattle.lw_ast.proofs.ExpressionsSound.{looser, Pending, Operand, OperandOf, left, put-some}

-- the statements so far of a block, from its beginning up to these tokens
abbrev pub Gathered : List ScriptLexeme → Statements → List ScriptLexeme → Type 0
Gathered from ss ts = (us : Statements) (rest : List ScriptLexeme) → Follow ts us rest → Follow from (followed ss us) rest

-- the tokens from where a statement begins up to where the statements in it begin
abbrev pub Opened : ℕ → Compound → List ScriptLexeme → List ScriptLexeme → Type 0
Opened line (Yes a) from ts = (mid : List ScriptLexeme) × (from ≡ If line ∷ mid) × Reads 1 mid a (Then ∷ ts)
Opened line (No a first) from ts = (mid yes' : List ScriptLexeme) × (from ≡ If line ∷ mid) × Reads 1 mid a (Then ∷ yes') × Follow yes' first (Else ∷ ts)
Opened line (Counted x a b) from ts = (there : ℕ) × (mid to : List ScriptLexeme) × (from ≡ For line ∷ Upper there x ∷ Becomes ∷ mid) × Reads 1 mid a (To ∷ to) × Reads 1 to b (Do ∷ ts)
Opened line (EachOf x a) from ts = (there : ℕ) × (mid : List ScriptLexeme) × (from ≡ For line ∷ Upper there x ∷ In ∷ mid) × Reads 1 mid a (Do ∷ ts)
Opened line (Repeated a) from ts = (mid : List ScriptLexeme) × (from ≡ While line ∷ mid) × Reads 1 mid a (Do ∷ ts)

-- the tokens of the whole text up to these led to these statements, within these
abbrev pub Standing : List ScriptLexeme → List Enclosing → Statements → List ScriptLexeme → Type 0
Standing whole [] ss ts = Gathered whole ss ts
Standing whole (Within before line shape ∷ bs) ss ts = (from mid : List ScriptLexeme) × Standing whole bs before from × Opened line shape from mid × Gathered mid ss ts

-- the tokens from where a statement begins up to where its expression begins
abbrev pub Headed : ℕ → Head → List ScriptLexeme → List ScriptLexeme → Type 0
Headed line (Assigning x) from ts = from ≡ Upper line x ∷ Becomes ∷ ts
Headed line (Printing es) from ts = (fs : Expressions) (rest : List ScriptLexeme) → Items Semicolon ts fs rest → States from (at line (print (joined es fs))) rest
Headed line Choosing from ts = from ≡ If line ∷ ts
Headed line (Counting x) from ts = (there : ℕ) × (from ≡ For line ∷ Upper there x ∷ Becomes ∷ ts)
Headed line (Bounding x a) from ts = (there : ℕ) × (mid : List ScriptLexeme) × (from ≡ For line ∷ Upper there x ∷ Becomes ∷ mid) × Reads 1 mid a (To ∷ ts)
Headed line (Listing x) from ts = (there : ℕ) × (from ≡ For line ∷ Upper there x ∷ In ∷ ts)
Headed line Repeating from ts = from ≡ While line ∷ ts

abbrev pub Placed : List ScriptLexeme → Setting → List ScriptLexeme → Type 0
Placed whole (In' bs ss line head) ts = (from : List ScriptLexeme) × Standing whole bs ss from × Headed line head from ts

-- the tokens of the whole text up to these led to this state
abbrev pub Good : List ScriptLexeme → State → List ScriptLexeme → Type 0
Good whole (Need fs p) ts = Pending (Placed whole p) fs ts
Good whole (Have a fs p) ts = Operand (Placed whole p) a fs ts
Good whole (Calling f fs p) ts = Pending (Placed whole p) fs (Calls f ∷ ts)
Good whole (At ss bs) ts = Standing whole bs ss ts
Good whole (Named x line ss bs) ts = Standing whole bs ss (Upper line x ∷ ts)
Good whole (Looping line ss bs) ts = Standing whole bs ss (For line ∷ ts)
Good whole (LoopNamed x line ss bs) ts = (there : ℕ) × Standing whole bs ss (For line ∷ Upper there x ∷ ts)
Good whole (Done ss) ts = Follow whole ss (Stops ∷ ts)
Good whole Astray ts = Unit {0}

pub arity-some : (f : Function) → 0 < arity f
arity-some function.Provable = omega arith
arity-some function.Certificate = omega arith
arity-some function.Interpolate = omega arith
arity-some function.Fixpoint = omega arith
arity-some function.Nnf = omega arith
arity-some function.Simplify = omega arith
arity-some function.Goedel = omega arith
arity-some function.Boxdot = omega arith
arity-some function.Substitute = omega arith
arity-some function.Vars = omega arith
arity-some function.Depth = omega arith
arity-some function.Count = omega arith
arity-some function.Length = omega arith
arity-some function.Item = omega arith
arity-some function.Append = omega arith
arity-some function.Smallest = omega arith
arity-some function.Trace = omega arith
arity-some function.Letterless = omega arith
arity-some function.Shared = omega arith

-- one statement more
gathers : (from mid : List ScriptLexeme) (ss : Statements) (s : Statement) (ts : List ScriptLexeme) → Gathered from ss mid → States mid s ts → Gathered from (behind ss s) ts
gathers from mid ss s ts so one us rest others = subst (λ vs. Follow from vs rest) (sym (followed-behind ss s us)) (so (then s us) rest (statement one others))

stands : (whole from : List ScriptLexeme) (bs : List Enclosing) (ss : Statements) (s : Statement) (ts : List ScriptLexeme) → Standing whole bs ss from → States from s ts → Standing whole bs (behind ss s) ts
stands whole from [] ss s ts so one = gathers whole from ss s ts so one
stands whole from (Within before line shape ∷ bs) ss s ts so one = (so.0, so.1, so.2, so.3, gathers so.1 from ss s ts so.4 one)

-- the statements in a statement begin
nothing-yet : (ts : List ScriptLexeme) → Gathered ts over ts
nothing-yet ts us rest others = others

-- the statements of a block end
followed-over : (ss : Statements) → followed ss over ≡ ss
followed-over over = refl
followed-over (then s ss) = let rest = followed-over ss in cc

ends-block : (from : List ScriptLexeme) (ss : Statements) (ts : List ScriptLexeme) → Gathered from ss ts → Follow from ss ts
ends-block from ss ts so = subst (λ us. Follow from us ts) (followed-over ss) (so over ts (no_statement refl))

closed : (line : ℕ) (shape : Compound) (from mid : List ScriptLexeme) (ss : Statements) (ts : List ScriptLexeme) → Opened line shape from mid → Follow mid ss (End ∷ ts) → States from (at line (kind_of shape ss)) ts
closed line (Yes a) from mid ss ts o body = subst (λ us. States us (at line (kind_of (Yes a) ss)) ts) (sym o.1) (choice o.2 body)
closed line (No a first) from mid ss ts o body = subst (λ us. States us (at line (kind_of (No a first) ss)) ts) (sym o.2) (choice_of_two o.3 o.4 body)
closed line (Counted x a b) from mid ss ts o body = subst (λ us. States us (at line (kind_of (Counted x a b) ss)) ts) (sym o.3) (counting o.4 o.5 body)
closed line (EachOf x a) from mid ss ts o body = subst (λ us. States us (at line (kind_of (EachOf x a) ss)) ts) (sym o.2) (each_item o.3 body)
closed line (Repeated a) from mid ss ts o body = subst (λ us. States us (at line (kind_of (Repeated a) ss)) ts) (sym o.1) (repetition o.2 body)

good-where : (whole ts : List ScriptLexeme) (n : ℕ) (fs : List Frame) (s : State) → (Holds n fs → Good whole s ts) → Good whole (where_fits n fs s) ts
good-where whole ts n fs s good =
    let Goal : Bool → Type 0 = λ b. nat_le (top_hole fs) n ≡ b → Good whole (cond b s Astray) ts in
    elim (nat_le (top_hole fs) n) as Goal [ true ↦ λ is. good (grind (arith, nat_tests)) | false ↦ λ is. tt ] refl

module _ (whole : List ScriptLexeme) (p : Setting) where
  chains : (ts : List ScriptLexeme) (k : Series) (s : Op) (m : ℕ) (a : Expression) (fs : List Frame) → chain_level k < m → OperandOf (Placed whole p) m a fs (Chained k s ∷ ts) → Good whole (chain k s a fs p) ts
  chains ts Sum s m a (Linked Sum b bs t ∷ fs) lt op =
      let q = op.0.1 in
      (q.0, q.1, λ cs rest terms. subst (λ ds. Reads 9 q.0 (chained Sum b ds) rest) (sym (chained-add bs t a cs)) (q.2 (signed t a cs) rest (next s (looser op.0.2 10 lt) terms)), q.3)
  chains ts Product s m a (Linked Product b bs t ∷ fs) lt op =
      let q = op.0.1 in
      (q.0, q.1, λ cs rest terms. subst (λ ds. Reads 10 q.0 (chained Product b ds) rest) (sym (chained-add bs t a cs)) (q.2 (signed t a cs) rest (next s (looser op.0.2 11 lt) terms)), q.3)
  chains ts k s m a fs lt op = good-where whole ts (chain_level k) fs (Need (Linked k a no_more s ∷ fs) p) (λ holds. (op.0.0, op.0.1, (λ cs rest terms. chaining k s (omega arith) (looser op.0.2 (chain_level k + 1) (omega arith)) terms), holds))

  closes : (ts : List ScriptLexeme) (m : ℕ) (a : Expression) (fs : List Frame) → 0 < m → OperandOf (Placed whole p) m a fs (Close ∷ ts) → Good whole (close a fs p) ts
  closes ts m a (Bracket ∷ fs) lt op = (Open ∷ op.0.0, op.0.1, bracketed (looser op.0.2 1 lt))
  closes ts m a (Called f bs ∷ fs) lt op =
      let q = op.0.1 in
      let Goal : Bool → Type 0 = λ b. nat_eq (count bs + 1) (arity f) ≡ b → Good whole (cond b (Have (call f (put bs a)) fs p) Astray) ts in
      elim (nat_eq (count bs + 1) (arity f)) as Goal [
        | true ↦ λ is. (q.0, q.1, q.2 (more a none) ts 1 (grind (arith, nat_tests)) (last_argument refl (looser op.0.2 1 lt)))
        | false ↦ λ is. tt
      ] refl
  closes ts m a _ lt op = tt

  closes-list : (ts : List ScriptLexeme) (m : ℕ) (a : Expression) (fs : List Frame) → 0 < m → OperandOf (Placed whole p) m a fs (CloseList ∷ ts) → Good whole (close_list a fs p) ts
  closes-list ts m a (Listed bs ∷ fs) lt op = let q = op.0.1 in (q.0, q.1, q.2 (more a none) ts (last_item (looser op.0.2 1 lt)))
  closes-list ts m a _ lt op = tt

  begun : (t : ScriptLexeme) (fs : List Frame) (ts : List ScriptLexeme) → Pending (Placed whole p) fs (t ∷ ts) → Good whole (begin t fs p) ts
  begun (Atom a) fs ts g = (Atom a ∷ ts, g, atom)
  begun (Upper line x) fs ts g = (Upper line x ∷ ts, g, script_variable)
  begun (Before sign) fs ts g = g
  begun Deny fs ts g = good-where whole ts 3 fs (Need (Denied ∷ fs) p) (λ holds. (g, holds))
  begun Open fs ts g = g
  begun OpenList fs ts g = (OpenList ∷ ts, g, (λ cs rest items. listed items), λ is. refl)
  begun CloseList (Listed none ∷ fs) ts g = (OpenList ∷ CloseList ∷ ts, subst (Pending (Placed whole p) fs) (g.3 refl) g.1, empty_list)
  begun (Calls f) fs ts g = g
  begun _ fs ts g = tt

  opens : (t : ScriptLexeme) (f : Function) (fs : List Frame) (ts : List ScriptLexeme) → Pending (Placed whole p) fs (Calls f ∷ t ∷ ts) → Good whole (open_call t f fs p) ts
  opens Open f fs ts g = (Calls f ∷ Open ∷ ts, g, (λ cs rest m is arguments. called f (subst (λ k. Arguments k ts cs rest) (omega arith) arguments)), arity-some f)
  opens _ f fs ts g = tt

commas : (whole ts : List ScriptLexeme) (m : ℕ) (a : Expression) (fs : List Frame) (p : Setting) → 0 < m → OperandOf (Placed whole p) m a fs (Comma ∷ ts) → Good whole (comma a fs p) ts
commas whole ts m a (Listed bs ∷ fs) p lt op =
    let q = op.0.1 in
    (q.0, q.1, (λ cs rest items. subst (λ ds. Reads 11 q.0 (list ds) rest) (sym (joined-put bs a cs)) (q.2 (more a cs) rest (next_item (looser op.0.2 1 lt) items))), λ is. absurd (put-some bs a is))
commas whole ts m a (Called f bs ∷ fs) p lt op =
    let q = op.0.1 in
    let Goal : Bool → Type 0 = λ b. nat_lt (count bs + 1) (arity f) ≡ b → Good whole (cond b (Need (Called f (put bs a) ∷ fs) p) Astray) ts in
    elim (nat_lt (count bs + 1) (arity f)) as Goal [
      | true ↦ λ is.
          let one = count-put bs a in
          (q.0, q.1, (λ cs rest k all arguments. subst (λ ds. Reads 11 q.0 (call f ds) rest) (sym (joined-put bs a cs)) (q.2 (more a cs) rest (suc k) (omega arith) (next_argument refl (looser op.0.2 1 lt) arguments))), grind (arith, nat_tests))
      | false ↦ λ is. tt
    ] refl
commas whole ts m a [] (In' bs ss line (Printing es)) lt op =
    let q = op.0.1 in
    (q.0, q.1, λ cs rest items. subst (λ ds. States q.0 (at line (print ds)) rest) (sym (joined-put es a cs)) (q.2 (more a cs) rest (next_item (looser op.0.2 1 lt) items)))
commas whole ts m a _ p lt op = tt

-- an expression of a statement ends
leaves : (whole : List ScriptLexeme) (t : ScriptLexeme) (ts : List ScriptLexeme) (a : Expression) (p : Setting) → ((from : List ScriptLexeme) × Placed whole p from × Reads 1 from a (t ∷ ts)) → Good whole (leave t a p) ts
leaves whole Semicolon ts a (In' bs ss line (Assigning x)) g =
    stands whole g.1.0 bs ss _ ts g.1.1 (subst (λ from. States from _ ts) (sym g.1.2) (assignment g.2))
leaves whole Semicolon ts a (In' bs ss line (Printing es)) g = stands whole g.1.0 bs ss _ ts g.1.1 (g.1.2 (more a none) ts (last_item g.2))
leaves whole Then ts a (In' bs ss line Choosing) g = (g.1.0, ts, g.1.1, (g.0, g.1.2, g.2), nothing-yet ts)
leaves whole To ts a (In' bs ss line (Counting x)) g = (g.1.0, g.1.1, (g.1.2.0, g.0, g.1.2.1, g.2))
leaves whole Do ts a (In' bs ss line (Bounding x b)) g = (g.1.0, ts, g.1.1, (g.1.2.0, g.1.2.1, g.0, g.1.2.2, g.1.2.3, g.2), nothing-yet ts)
leaves whole Do ts a (In' bs ss line (Listing x)) g = (g.1.0, ts, g.1.1, (g.1.2.0, g.0, g.1.2.1, g.2), nothing-yet ts)
leaves whole Do ts a (In' bs ss line Repeating) g = (g.1.0, ts, g.1.1, (g.0, g.1.2, g.2), nothing-yet ts)
leaves whole _ ts a p g = tt

leaves-all : (whole : List ScriptLexeme) (t : ScriptLexeme) (ts : List ScriptLexeme) (m : ℕ) (a : Expression) (fs : List Frame) (p : Setting) → 0 < m → OperandOf (Placed whole p) m a fs (t ∷ ts) → Good whole (leave_all t a fs p) ts
leaves-all whole t ts m a [] p lt op = leaves whole t ts a p (op.0.0, op.0.1, looser op.0.2 1 lt)
leaves-all whole t ts m a (f ∷ fs) p lt op = tt

gone-on : (whole : List ScriptLexeme) (t : ScriptLexeme) (a : Expression) (fs : List Frame) (p : Setting) (ts : List ScriptLexeme) → Operand (Placed whole p) a fs (t ∷ ts) → Good whole (step t (Have a fs p)) ts
gone-on whole (Between o) a fs p ts g =
    let high = link-bounds o in
    let l = left (Placed whole p) (link_level o) a fs (Between o ∷ ts) (omega arith) g in
    let e = ended script_constructs (link_level o) a fs in
    good-where whole ts (link_level o) e.1 (Need (Left o e.0 ∷ e.1) p) (λ holds. (l.3.0.0, l.3.0.1, looser l.3.0.2 (link_level o + 1) (omega arith), holds))
gone-on whole (Compare r) a fs p ts g =
    let l = left (Placed whole p) 4 a fs (Compare r ∷ ts) (omega arith) g in
    let e = ended script_constructs 4 a fs in
    good-where whole ts 4 e.1 (Need (Compared r e.0 ∷ e.1) p) (λ holds. (l.3.0.0, l.3.0.1, looser l.3.0.2 5 (omega arith), holds))
gone-on whole (Chained k s) a fs p ts g =
    let high = chain-bounds k in
    let l = left (Placed whole p) (chain_level k) a fs (Chained k s ∷ ts) (omega arith) g in
    chains whole p ts k s l.0 _ _ l.1 l.3
gone-on whole Close a fs p ts g = let l = left (Placed whole p) 0 a fs (Close ∷ ts) (omega arith) g in closes whole p ts l.0 _ _ l.1 l.3
gone-on whole CloseList a fs p ts g = let l = left (Placed whole p) 0 a fs (CloseList ∷ ts) (omega arith) g in closes-list whole p ts l.0 _ _ l.1 l.3
gone-on whole Comma a fs p ts g = let l = left (Placed whole p) 0 a fs (Comma ∷ ts) (omega arith) g in commas whole ts l.0 _ _ p l.1 l.3
gone-on whole (Atom b) a fs p ts g = let l = left (Placed whole p) 0 a fs (Atom b ∷ ts) (omega arith) g in leaves-all whole (Atom b) ts l.0 _ _ p l.1 l.3
gone-on whole (Upper there x) a fs p ts g = let l = left (Placed whole p) 0 a fs (Upper there x ∷ ts) (omega arith) g in leaves-all whole (Upper there x) ts l.0 _ _ p l.1 l.3
gone-on whole (Before sign) a fs p ts g = let l = left (Placed whole p) 0 a fs (Before sign ∷ ts) (omega arith) g in leaves-all whole (Before sign) ts l.0 _ _ p l.1 l.3
gone-on whole Deny a fs p ts g = let l = left (Placed whole p) 0 a fs (Deny ∷ ts) (omega arith) g in leaves-all whole Deny ts l.0 _ _ p l.1 l.3
gone-on whole Open a fs p ts g = let l = left (Placed whole p) 0 a fs (Open ∷ ts) (omega arith) g in leaves-all whole Open ts l.0 _ _ p l.1 l.3
gone-on whole OpenList a fs p ts g = let l = left (Placed whole p) 0 a fs (OpenList ∷ ts) (omega arith) g in leaves-all whole OpenList ts l.0 _ _ p l.1 l.3
gone-on whole (Calls f) a fs p ts g = let l = left (Placed whole p) 0 a fs (Calls f ∷ ts) (omega arith) g in leaves-all whole (Calls f) ts l.0 _ _ p l.1 l.3
gone-on whole Becomes a fs p ts g = let l = left (Placed whole p) 0 a fs (Becomes ∷ ts) (omega arith) g in leaves-all whole Becomes ts l.0 _ _ p l.1 l.3
gone-on whole Semicolon a fs p ts g = let l = left (Placed whole p) 0 a fs (Semicolon ∷ ts) (omega arith) g in leaves-all whole Semicolon ts l.0 _ _ p l.1 l.3
gone-on whole (Print there) a fs p ts g = let l = left (Placed whole p) 0 a fs (Print there ∷ ts) (omega arith) g in leaves-all whole (Print there) ts l.0 _ _ p l.1 l.3
gone-on whole (If there) a fs p ts g = let l = left (Placed whole p) 0 a fs (If there ∷ ts) (omega arith) g in leaves-all whole (If there) ts l.0 _ _ p l.1 l.3
gone-on whole Then a fs p ts g = let l = left (Placed whole p) 0 a fs (Then ∷ ts) (omega arith) g in leaves-all whole Then ts l.0 _ _ p l.1 l.3
gone-on whole Else a fs p ts g = let l = left (Placed whole p) 0 a fs (Else ∷ ts) (omega arith) g in leaves-all whole Else ts l.0 _ _ p l.1 l.3
gone-on whole End a fs p ts g = let l = left (Placed whole p) 0 a fs (End ∷ ts) (omega arith) g in leaves-all whole End ts l.0 _ _ p l.1 l.3
gone-on whole (For there) a fs p ts g = let l = left (Placed whole p) 0 a fs (For there ∷ ts) (omega arith) g in leaves-all whole (For there) ts l.0 _ _ p l.1 l.3
gone-on whole To a fs p ts g = let l = left (Placed whole p) 0 a fs (To ∷ ts) (omega arith) g in leaves-all whole To ts l.0 _ _ p l.1 l.3
gone-on whole In a fs p ts g = let l = left (Placed whole p) 0 a fs (In ∷ ts) (omega arith) g in leaves-all whole In ts l.0 _ _ p l.1 l.3
gone-on whole Do a fs p ts g = let l = left (Placed whole p) 0 a fs (Do ∷ ts) (omega arith) g in leaves-all whole Do ts l.0 _ _ p l.1 l.3
gone-on whole (While there) a fs p ts g = let l = left (Placed whole p) 0 a fs (While there ∷ ts) (omega arith) g in leaves-all whole (While there) ts l.0 _ _ p l.1 l.3
gone-on whole Stops a fs p ts g = let l = left (Placed whole p) 0 a fs (Stops ∷ ts) (omega arith) g in leaves-all whole Stops ts l.0 _ _ p l.1 l.3
gone-on whole Foreign a fs p ts g = let l = left (Placed whole p) 0 a fs (Foreign ∷ ts) (omega arith) g in leaves-all whole Foreign ts l.0 _ _ p l.1 l.3

stated : (whole : List ScriptLexeme) (t : ScriptLexeme) (ss : Statements) (bs : List Enclosing) (ts : List ScriptLexeme) → Standing whole bs ss (t ∷ ts) → Good whole (state t ss bs) ts
stated whole (Upper line x) ss bs ts g = g
stated whole (Print line) ss bs ts g = (Print line ∷ ts, g, λ fs rest items. printing items)
stated whole (If line) ss bs ts g = (If line ∷ ts, g, refl)
stated whole (For line) ss bs ts g = g
stated whole (While line) ss bs ts g = (While line ∷ ts, g, refl)
stated whole End ss (Within before line shape ∷ bs) ts g =
    stands whole g.0 bs before _ ts g.2 (closed line shape g.0 g.1 ss ts g.3 (ends-block g.1 ss (End ∷ ts) g.4))
stated whole Else ss (Within before line (Yes a) ∷ bs) ts g =
    (g.0, ts, g.2, (g.3.0, g.1, g.3.1, g.3.2, ends-block g.1 ss (Else ∷ ts) g.4), nothing-yet ts)
stated whole Stops ss [] ts g = ends-block whole ss (Stops ∷ ts) g
stated whole _ ss bs ts g = tt

named : (whole : List ScriptLexeme) (t : ScriptLexeme) (x : List ℕ) (line : ℕ) (ss : Statements) (bs : List Enclosing) (ts : List ScriptLexeme) → Standing whole bs ss (Upper line x ∷ t ∷ ts) → Good whole (name t x line ss bs) ts
named whole Becomes x line ss bs ts g = (Upper line x ∷ Becomes ∷ ts, g, refl)
named whole _ x line ss bs ts g = tt

looped : (whole : List ScriptLexeme) (t : ScriptLexeme) (line : ℕ) (ss : Statements) (bs : List Enclosing) (ts : List ScriptLexeme) → Standing whole bs ss (For line ∷ t ∷ ts) → Good whole (loop t line ss bs) ts
looped whole (Upper there x) line ss bs ts g = (there, g)
looped whole _ line ss bs ts g = tt

loop-named : (whole : List ScriptLexeme) (t : ScriptLexeme) (x : List ℕ) (line there : ℕ) (ss : Statements) (bs : List Enclosing) (ts : List ScriptLexeme) → Standing whole bs ss (For line ∷ Upper there x ∷ t ∷ ts) → Good whole (loop_name t x line ss bs) ts
loop-named whole Becomes x line there ss bs ts g = (For line ∷ Upper there x ∷ Becomes ∷ ts, g, (there, refl))
loop-named whole In x line there ss bs ts g = (For line ∷ Upper there x ∷ In ∷ ts, g, (there, refl))
loop-named whole _ x line there ss bs ts g = tt

stepped : (whole : List ScriptLexeme) (s : State) (t : ScriptLexeme) (ts : List ScriptLexeme) → Good whole s (t ∷ ts) → Good whole (step t s) ts
stepped whole (Need fs p) t ts g = begun whole p t fs ts g
stepped whole (Have a fs p) t ts g = gone-on whole t a fs p ts g
stepped whole (Calling f fs p) t ts g = opens whole p t f fs ts g
stepped whole (At ss bs) t ts g = stated whole t ss bs ts g
stepped whole (Named x line ss bs) t ts g = named whole t x line ss bs ts g
stepped whole (Looping line ss bs) t ts g = looped whole t line ss bs ts g
stepped whole (LoopNamed x line ss bs) t ts g = loop-named whole t x line g.0 ss bs ts g.1
stepped whole (Done ss) t ts g = tt
stepped whole Astray t ts g = tt

pub ran : (whole ts : List ScriptLexeme) (s : State) → Good whole s ts → Good whole (run ts s) []
ran whole [] s g = g
ran whole (t ∷ ts) s g = ran whole ts (step t s) (stepped whole s t ts g)

pub started : (ts : List ScriptLexeme) → Good ts (At over []) ts
started ts = nothing-yet ts

pub sound : (ts : List ScriptLexeme) (ss : Statements) → run ts (At over []) ≡ Done ss → IsScript ts ss
sound ts ss is = subst (λ s. Good ts s []) is (ran ts ts (At over []) (started ts))
