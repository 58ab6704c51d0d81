-- The machine accepts each text of the grammar, and counts what the grammar counts.
use Rattle.std.proofs.Common.{◌≡◌, ℕ, suc, ◌+◌, ◌<◌, ◌≤◌, List, [], ◌∷◌, ◌++◌, length, refl, sym, ◌∙◌, ap, arith, add-zero}
use Rattle.lw_formula.specs.Formula.{Formula}
use Rattle.lw_formula.specs.declared.joint.Joint.{Joint}
use Rattle.lw_formula.specs.declared.joint.Joint.TheVariants.{And, Or, Imp, Iff}
use Rattle.lw_read.specs.Lexemes.{Lexeme, Between}
use Rattle.lw_read.specs.Grammar.{rank, Reads, variable, truth, falsity, prefixed, bracketed, joined, unfinished, IsFormula, formulas}
use Rattle.lw_read.specs.Machine as machine
use Rattle.lw_read.specs.Constructs as stack
use Rattle.lw_read.specs.Private.FormulaMachine.{Frame, Awaiting, Left, Bracket, State, Need, Have, Over, frame_rank, finish, formula_constructs, lexeme_rank, follow, formula_machine, run, height}
use Rattle.lw_read.proofs.StackedConstructs as stacked
use Rattle.lw_read.proofs.StackedConstructs.{BindsNoTighter-more, Ends-more, reduce-stays, above, above-zero, above-prefix, above-infix, above-brackets}

pub rank-low : (o : Joint) → 1 ≤ rank o
rank-low And = omega arith
rank-low Or = omega arith
rank-low Imp = omega arith
rank-low Iff = omega arith

pub rank-high : (o : Joint) → rank o ≤ 4
rank-high And = omega arith
rank-high Or = omega arith
rank-high Imp = omega arith
rank-high Iff = omega arith

-- an expression of level n may stand on this stack
abbrev pub BindsNoTighter : ℕ → List Frame → Type 0
BindsNoTighter = stack.BindsNoTighter formula_constructs

-- an expression of level n ends before these tokens
abbrev pub Ends : ℕ → List Lexeme → Type 0
Ends = stacked.Ends lexeme_rank

lexeme_rank-high : (t : Lexeme) → lexeme_rank t < 5
lexeme_rank-high (Between o) = let high = rank-high o in omega arith
lexeme_rank-high _ = omega arith

Ends-five : (n : ℕ) (ts : List Lexeme) → Ends n ts → Ends 5 ts
Ends-five n [] ends = ends
Ends-five n (t ∷ ts) ends = lexeme_rank-high t

-- what stands behind an expression that a construct awaits ends the construct
pub swallow : (f : Frame) (a : Formula) (fs : List Frame) (ts : List Lexeme) → Ends (frame_rank f) ts → run ts (Have a (f ∷ fs)) ≡ run ts (Have (finish f a) fs)
swallow = stacked.swallow formula_machine formula_constructs Have lexeme_rank follow (λ t a fs. refl)

-- the number of unfinished constructs behind each token
abbrev pub heights : List Lexeme → State → List ℕ
heights = machine.heights formula_machine

swallow_heights : (f : Frame) (a : Formula) (fs : List Frame) (ts : List Lexeme) → Ends (frame_rank f) ts → heights ts (Have a (f ∷ fs)) ≡ heights ts (Have (finish f a) fs)
swallow_heights = stacked.swallow_heights formula_machine formula_constructs Have lexeme_rank follow (λ t a fs. refl)

-- the machine reads an expression as the grammar does
pub accepts : {n : ℕ} {ts rest : List Lexeme} {a : Formula} → Reads n ts a rest → (fs : List Frame) → BindsNoTighter n fs → Ends n rest → run ts (Need fs) ≡ run rest (Have a fs)
accepts variable fs fits ends = refl
accepts truth fs fits ends = refl
accepts falsity fs fits ends = refl
accepts {n} {rest = rest} (prefixed {a = a} sign is r) fs fits ends =
    let five = Ends-five n rest ends in
    accepts r (Awaiting sign ∷ fs) (omega arith) five
    ∙ swallow (Awaiting sign) a fs rest five
    ∙ ap (λ c. run rest (Have c fs)) (sym is)
accepts (bracketed r) fs fits ends = accepts r (Bracket ∷ fs) (omega arith) (omega arith)
accepts {n} {rest = rest} (joined {mid = mid} {a = a} {b = b} sign le is r s) fs fits ends =
    let here = Ends-more lexeme_rank n (rank sign) rest le ends in
    accepts r fs (BindsNoTighter-more formula_constructs n (rank sign + 1) fs (omega arith) fits) (omega arith)
    ∙ ap (run mid) (reduce-stays formula_constructs (follow (Between sign)) (rank sign) a fs (BindsNoTighter-more formula_constructs n (rank sign) fs le fits))
    ∙ accepts s (Left sign a ∷ fs) (omega arith) here
    ∙ swallow (Left sign a) b fs rest here
    ∙ ap (λ c. run rest (Have c fs)) (sym is)

pub accepted : {ts : List Lexeme} {a : Formula} → IsFormula ts a → run ts (Need []) ≡ Over a
accepted r = accepts r [] (omega arith) (omega arith)

pub same_tree : (ts : List Lexeme) (a b : Formula) → IsFormula ts a → IsFormula ts b → a ≡ b
same_tree ts a b r s = let e = accepted r in let f = accepted s in cc

-- the machine's stack is as high as the grammar counts
pub counts-height : {n : ℕ} {ts rest : List Lexeme} {a : Formula} (r : Reads n ts a rest) (fs : List Frame) → BindsNoTighter n fs → Ends n rest → heights ts (Need fs) ≡ above (length fs) (unfinished r) ++ heights rest (Have a fs)
counts-height variable fs fits ends = rw add-zero refl
counts-height truth fs fits ends = rw add-zero refl
counts-height falsity fs fits ends = rw add-zero refl
counts-height {n} {rest = rest} (prefixed {a = a} sign is r) fs fits ends =
    let five = Ends-five n rest ends in
    let inner = counts-height r (Awaiting sign ∷ fs) (omega arith) five in
    let outer = swallow_heights (Awaiting sign) a fs rest five in
    let same = ap (λ c. heights rest (Have c fs)) (sym is) in
    let shift = above-prefix (length fs) (suc (length fs)) (unfinished r) (heights rest (Have (finish (Awaiting sign) a) fs)) (omega arith) in
    cc
counts-height {n} {rest = rest} (bracketed {a = a} r) fs fits ends =
    let inner = counts-height r (Bracket ∷ fs) (omega arith) (omega arith) in
    let shift = above-brackets (length fs) (suc (length fs)) (unfinished r) (heights rest (Have a fs)) (omega arith) in
    cc
counts-height {n} {rest = rest} (joined {mid = mid} {a = a} {b = b} sign le is r s) fs fits ends =
    let here = Ends-more lexeme_rank n (rank sign) rest le ends in
    let left = counts-height r fs (BindsNoTighter-more formula_constructs n (rank sign + 1) fs (omega arith) fits) (omega arith) in
    let stays = ap (λ s. height s ∷ heights mid s) (reduce-stays formula_constructs (follow (Between sign)) (rank sign) a fs (BindsNoTighter-more formula_constructs n (rank sign) fs le fits)) in
    let right = counts-height s (Left sign a ∷ fs) (omega arith) here in
    let outer = swallow_heights (Left sign a) b fs rest here in
    let same = ap (λ c. heights rest (Have c fs)) (sym is) in
    let shift = above-infix (length fs) (suc (length fs)) (unfinished r) (unfinished s) (heights rest (Have (finish (Left sign a) b) fs)) (omega arith) in
    cc

pub counts-are : (ts : List Lexeme) (text : formulas.IsText ts) → formulas.counts ts text ≡ heights ts (Need [])
counts-are ts text = sym (counts-height text.1 [] (omega arith) (omega arith) ∙ ap (λ xs. xs ++ (0 ∷ [])) (above-zero (unfinished text.1)))
