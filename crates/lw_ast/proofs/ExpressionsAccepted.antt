-- The machine accepts each expression.
use Rattle.std.proofs.Common.{◌≡◌, ℕ, ◌+◌, ◌<◌, ◌≤◌, true, List, [], ◌∷◌, cond, nat_eq, nat_le, nat_lt, refl, ◌∙◌, ap, arith}
use Rattle.std.proofs.lemmas.Bool.Decides.{nat_tests}
use Rattle.lw_formula.specs.declared.joint.Joint.TheVariants.{And, Or, Imp, Iff}
use Rattle.lw_read.specs.Machine as machine
use Rattle.lw_read.specs.Constructs.{BindsNoTighter}
use Rattle.lw_read.proofs.StackedConstructs as stacked
use Rattle.lw_read.proofs.StackedConstructs.{Ends-more, reduce-stays}
use Rattle.lw_ast.specs.declared.operator.Op.{Op}
use Rattle.lw_ast.specs.declared.function.Function.{Function}
use Rattle.lw_ast.specs.declared.operator.Series.{Series}
use Rattle.lw_ast.specs.declared.operator.Series.TheVariants.{Sum, Product}
use Rattle.lw_ast.specs.declared.operator.Link.{Link}
use Rattle.lw_ast.specs.declared.operator.Link.TheVariants.{Either, Both, Binary}
use Rattle.lw_ast.specs.Trees.{Expression, chained, list, call, Expressions, none, more, joined, put, count, Operands, no_more, signed, chained_up, add, sign_count}
use Rattle.lw_ast.specs.ScriptLexemes.{ScriptLexeme, Between, Compare, Chained, CloseList}
use Rattle.lw_ast.specs.Functions.{arity}
use Rattle.lw_ast.specs.ScriptGrammar.{link_level, chain_level, Reads, atom, script_variable, signed_operand, denial, linking, comparison, chaining, bracketed, empty_list, listed, called, Terms, last, next, Items, last_item, next_item, Arguments, last_argument, next_argument}
use Rattle.lw_ast.specs.Private.ScriptMachine.{Frame, Prefixed, Denied, Left, Compared, Linked, Bracket, Listed, Called, Setting, State, Need, Have, Astray, frame_level, hole, top_hole, finish, script_constructs, where_fits, chain, sign_level, go_on, script_machine}

abbrev pub run : List ScriptLexeme → State → State
run = machine.run script_machine

abbrev pub Ends : ℕ → List ScriptLexeme → Type 0
Ends = stacked.Ends sign_level

pub link-bounds : (link : Link) → (1 ≤ link_level link) × (link_level link ≤ 10)
link-bounds Either = (omega arith, omega arith)
link-bounds Both = (omega arith, omega arith)
link-bounds (Binary And) = (omega arith, omega arith)
link-bounds (Binary Or) = (omega arith, omega arith)
link-bounds (Binary Imp) = (omega arith, omega arith)
link-bounds (Binary Iff) = (omega arith, omega arith)

pub chain-bounds : (k : Series) → (1 ≤ chain_level k) × (chain_level k ≤ 10)
chain-bounds Sum = (omega arith, omega arith)
chain-bounds Product = (omega arith, omega arith)

sign_level-high : (t : ScriptLexeme) → sign_level t < 11
sign_level-high (Between link) = let b = link-bounds link in omega arith
sign_level-high (Chained k s) = let b = chain-bounds k in omega arith
sign_level-high (Compare r) = omega arith
sign_level-high _ = omega arith

pub Ends-tightest : (n : ℕ) (ts : List ScriptLexeme) → Ends n ts → Ends 11 ts
Ends-tightest n [] ends = ends
Ends-tightest n (t ∷ ts) ends = sign_level-high t

-- the innermost construct takes an expression of this level
abbrev pub Holds : ℕ → List Frame → Type 0
Holds n fs = top_hole fs ≤ n

hole-level : (f : Frame) → frame_level f ≤ hole f
hole-level (Prefixed sign) = omega arith
hole-level Denied = omega arith
hole-level (Left link a) = omega arith
hole-level (Compared r a) = omega arith
hole-level (Linked k a bs s) = omega arith
hole-level Bracket = omega arith
hole-level (Listed bs) = omega arith
hole-level (Called f bs) = omega arith

pub Holds-fits : (n : ℕ) (fs : List Frame) → Holds n fs → BindsNoTighter script_constructs n fs
Holds-fits n [] h = omega arith
Holds-fits n (f ∷ fs) h = let low = hole-level f in omega arith

pub where-fits : (n : ℕ) (fs : List Frame) (s : State) → Holds n fs → where_fits n fs s ≡ s
where-fits n fs s h = let is : nat_le (top_hole fs) n ≡ true = grind (arith, nat_tests) in ap (λ b. cond b s Astray) is

pub swallow : (p : Setting) (f : Frame) (a : Expression) (fs : List Frame) (ts : List ScriptLexeme) → Ends (frame_level f) ts → run ts (Have a (f ∷ fs) p) ≡ run ts (Have (finish f a) fs p)
swallow p = stacked.swallow script_machine script_constructs (λ a fs. Have a fs p) sign_level (go_on p) (λ t a fs. refl)

pub chain-first : (p : Setting) (k : Series) (s : Op) (a : Expression) (fs : List Frame) → Holds (chain_level k) fs → chain k s a fs p ≡ Need (Linked k a no_more s ∷ fs) p
chain-first p Sum s a (Linked Sum b bs t ∷ fs) h = absurd (omega arith)
chain-first p Product s a (Linked Product b bs t ∷ fs) h = absurd (omega arith)
chain-first p k s a fs h = where-fits (chain_level k) fs (Need (Linked k a no_more s ∷ fs) p) h

pub chain-next : (p : Setting) (k : Series) (s t : Op) (a b : Expression) (cs : Operands) (fs : List Frame) → chain k t b (Linked k a cs s ∷ fs) p ≡ Need (Linked k a (add cs s b) t ∷ fs) p
chain-next p Sum s t a b cs fs = refl
chain-next p Product s t a b cs fs = refl

pub joined-put : (cs : Expressions) (b : Expression) (bs : Expressions) → joined (put cs b) bs ≡ joined cs (more b bs)
joined-put none b bs = refl
joined-put (more c cs) b bs = ap (more c) (joined-put cs b bs)

pub count-put : (cs : Expressions) (b : Expression) → count (put cs b) ≡ count cs + 1
count-put none b = refl
count-put (more c cs) b = let rest = count-put cs b in omega arith

pub chained-add : (cs : Operands) (s : Op) (b : Expression) (bs : Operands) → chained_up (add cs s b) bs ≡ chained_up cs (signed s b bs)
chained-add no_more s b bs = refl
chained-add (signed t c cs) s b bs = ap (signed t c) (chained-add cs s b bs)

pub count-add : (cs : Operands) (s : Op) (b : Expression) → sign_count (add cs s b) ≡ sign_count cs + 1
count-add no_more s b = refl
count-add (signed t c cs) s b = let rest = count-add cs s b in omega arith

pub arguments-some : {m : ℕ} {ts rest : List ScriptLexeme} {bs : Expressions} → Arguments m ts bs rest → 0 < m
arguments-some (last_argument one r) = omega arith
arguments-some (next_argument two r args) = omega arith

mutual
  pub accepts : {n : ℕ} {ts rest : List ScriptLexeme} {a : Expression} → Reads n ts a rest → (fs : List Frame) (p : Setting) → Holds n fs → Ends n rest → run ts (Need fs p) ≡ run rest (Have a fs p)
  accepts atom fs p holds ends = refl
  accepts script_variable fs p holds ends = refl
  accepts {n} {rest = rest} (signed_operand {a = a} sign r) fs p holds ends =
      let tightest = Ends-tightest n rest ends in
      accepts r (Prefixed sign ∷ fs) p (omega arith) tightest ∙ swallow p (Prefixed sign) a fs rest tightest
  accepts {n} {rest = rest} (denial {ts = ts} {a = a} le r) fs p holds ends =
      let here = Ends-more sign_level n 3 rest le ends in
      ap (run ts) (where-fits 3 fs (Need (Denied ∷ fs) p) (omega arith)) ∙ accepts r (Denied ∷ fs) p (omega arith) here ∙ swallow p Denied a fs rest here
  accepts {n} {rest = rest} (linking {mid = mid} {a = a} {b = b} o le r s) fs p holds ends =
      let here = Ends-more sign_level n (link_level o) rest le ends in
      accepts r fs p (omega arith) (omega arith)
      ∙ ap (run mid) (reduce-stays script_constructs (go_on p (Between o)) (link_level o) a fs (Holds-fits (link_level o) fs (omega arith)) ∙ where-fits (link_level o) fs (Need (Left o a ∷ fs) p) (omega arith))
      ∙ accepts s (Left o a ∷ fs) p (omega arith) here
      ∙ swallow p (Left o a) b fs rest here
  accepts {n} {rest = rest} (comparison {mid = mid} {a = a} {b = b} sign le r s) fs p holds ends =
      accepts r fs p (omega arith) (omega arith)
      ∙ ap (run mid) (reduce-stays script_constructs (go_on p (Compare sign)) 4 a fs (Holds-fits 4 fs (omega arith)) ∙ where-fits 4 fs (Need (Compared sign a ∷ fs) p) (omega arith))
      ∙ accepts s (Compared sign a ∷ fs) p (omega arith) (Ends-more sign_level n 5 rest (omega arith) ends)
      ∙ swallow p (Compared sign a) b fs rest (Ends-more sign_level n 4 rest le ends)
  accepts {n} {rest = rest} (chaining {mid = mid} {a = a} k s le r terms) fs p holds ends =
      accepts r fs p (omega arith) (omega arith)
      ∙ ap (run mid) (reduce-stays script_constructs (go_on p (Chained k s)) (chain_level k) a fs (Holds-fits (chain_level k) fs (omega arith)) ∙ chain-first p k s a fs (omega arith))
      ∙ accepts_terms terms fs p a no_more (omega arith) (Ends-more sign_level n (chain_level k) rest le ends)
  accepts (bracketed r) fs p holds ends = accepts r (Bracket ∷ fs) p (omega arith) (omega arith)
  accepts empty_list fs p holds ends = refl
  accepts (listed items) fs p holds ends = accepts_items items fs p none
  accepts (called f arguments) fs p holds ends = accepts_arguments arguments fs p f none (omega arith)

  accepts_terms : {k : Series} {s : Op} {ts rest : List ScriptLexeme} {bs : Operands} → Terms k s ts bs rest → (fs : List Frame) (p : Setting) (a : Expression) (cs : Operands) → Holds (chain_level k) fs → Ends (chain_level k) rest → run ts (Need (Linked k a cs s ∷ fs) p) ≡ run rest (Have (chained k a (chained_up cs bs)) fs p)
  accepts_terms {k} {s} {rest = rest} (last {b = b} r) fs p a cs holds ends =
      accepts r (Linked k a cs s ∷ fs) p (omega arith) (Ends-more sign_level (chain_level k) (chain_level k + 1) rest (omega arith) ends) ∙ swallow p (Linked k a cs s) b fs rest ends
  accepts_terms {k} {s} {rest = rest} (next {mid = mid} {b = b} {bs = bs} t r terms) fs p a cs holds ends =
      accepts r (Linked k a cs s ∷ fs) p (omega arith) (omega arith)
      ∙ ap (run mid) (reduce-stays script_constructs (go_on p (Chained k t)) (chain_level k) b (Linked k a cs s ∷ fs) (omega arith) ∙ chain-next p k s t a b cs fs)
      ∙ accepts_terms terms fs p a (add cs s b) holds ends
      ∙ ap (λ bs. run rest (Have (chained k a bs) fs p)) (chained-add cs s b bs)

  accepts_items : {ts rest : List ScriptLexeme} {bs : Expressions} → Items CloseList ts bs rest → (fs : List Frame) (p : Setting) (es : Expressions) → run ts (Need (Listed es ∷ fs) p) ≡ run rest (Have (list (joined es bs)) fs p)
  accepts_items (last_item r) fs p es = accepts r (Listed es ∷ fs) p (omega arith) (omega arith)
  accepts_items {rest = rest} (next_item {b = b} {bs = bs} r items) fs p es =
      accepts r (Listed es ∷ fs) p (omega arith) (omega arith)
      ∙ accepts_items items fs p (put es b)
      ∙ ap (λ bs. run rest (Have (list bs) fs p)) (joined-put es b bs)

  accepts_arguments : {m : ℕ} {ts rest : List ScriptLexeme} {bs : Expressions} → Arguments m ts bs rest → (fs : List Frame) (p : Setting) (f : Function) (es : Expressions) → count es + m ≡ arity f → run ts (Need (Called f es ∷ fs) p) ≡ run rest (Have (call f (joined es bs)) fs p)
  accepts_arguments {rest = rest} (last_argument {b = b} one r) fs p f es is =
      let all : nat_eq (count es + 1) (arity f) ≡ true = grind (arith, nat_tests) in
      accepts r (Called f es ∷ fs) p (omega arith) (omega arith)
      ∙ ap (λ t. run rest (cond t (Have (call f (put es b)) fs p) Astray)) all
  accepts_arguments {rest = rest} (next_argument {mid = mid} {b = b} {bs = bs} two r arguments) fs p f es is =
      let left = arguments-some arguments in
      let some : nat_lt (count es + 1) (arity f) ≡ true = grind (arith, nat_tests) in
      let one = count-put es b in
      accepts r (Called f es ∷ fs) p (omega arith) (omega arith)
      ∙ ap (λ t. run mid (cond t (Need (Called f (put es b) ∷ fs) p) Astray)) some
      ∙ accepts_arguments arguments fs p f (put es b) (omega arith)
      ∙ ap (λ bs. run rest (Have (call f bs) fs p)) (joined-put es b bs)
