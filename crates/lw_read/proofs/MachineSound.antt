-- What the machine accepts is a text of the grammar, and whatever it has not refused begins one.
use Rattle.std.proofs.Common.{◌≡◌, ℕ, ◌+◌, ◌<◌, ◌≤◌, List, [], ◌∷◌, refl, sym, ◌∙◌, subst, arith}
use Rattle.lw_formula.specs.Formula.{Formula, verum}
use Rattle.lw_read.specs.Lexemes.{Lexeme, Variable, Truth, Falsity, Before, Between, Open, Close, End}
use Rattle.lw_formula.specs.Joint.{join}
use Rattle.lw_read.specs.Grammar.{rank, apply, Reads, variable, truth, falsity, prefixed, bracketed, joined, IsFormula}
use Rattle.lw_read.specs.Constructs as stack
use Rattle.lw_read.specs.Private.FormulaMachine.{Frame, Awaiting, Left, Bracket, State, Need, Have, Over, Astray, frame_rank, finish, formula_constructs, close, stop, begin, go_on, step, run}
use Rattle.lw_read.proofs.StackedConstructs.{ended-keeps}
use Rattle.lw_read.proofs.MachineAccepts.{rank-low, rank-high, BindsNoTighter, Ends, swallow}

-- an expression of a level is one of each looser level
looser : {m : ℕ} {ts rest : List Lexeme} {a : Formula} → Reads m ts a rest → (n : ℕ) → n ≤ m → Reads n ts a rest
looser variable n le = variable
looser truth n le = truth
looser falsity n le = falsity
looser (prefixed sign is r) n le = prefixed sign is r
looser (bracketed r) n le = bracketed r
looser (joined sign fits is r s) n le = joined sign (omega arith) is r s

frame_rank-high : (f : Frame) → frame_rank f ≤ 5
frame_rank-high (Awaiting sign) = omega arith
frame_rank-high (Left sign a) = let high = rank-high sign in omega arith
frame_rank-high Bracket = omega arith

BindsNoTighter-five : (fs : List Frame) → BindsNoTighter 5 fs
BindsNoTighter-five [] = omega arith
BindsNoTighter-five (f ∷ fs) = frame_rank-high f

-- the tokens of the whole text up to these led to this stack
abbrev Pending : List Lexeme → List Frame → List Lexeme → Type 0
Pending whole [] ts = whole ≡ ts
Pending whole (Awaiting sign ∷ fs) ts = Pending whole fs (Before sign ∷ ts)
Pending whole (Bracket ∷ fs) ts = Pending whole fs (Open ∷ ts)
Pending whole (Left sign a ∷ fs) ts = (from : List Lexeme) × Pending whole fs from × Reads (rank sign + 1) from a (Between sign ∷ ts) × BindsNoTighter (rank sign) fs

-- and from there on to an expression of level n
abbrev Operand : List Lexeme → ℕ → Formula → List Frame → List Lexeme → Type 0
Operand whole n a fs ts = (from : List Lexeme) × Pending whole fs from × Reads n from a ts

-- what the state says of the tokens so far
abbrev Good : List Lexeme → State → List Lexeme → Type 0
Good whole (Need fs) ts = Pending whole fs ts
Good whole (Have a fs) ts = Operand whole 5 a fs ts
Good whole (Over a) ts = Reads 1 whole a (End ∷ ts)
Good whole Astray ts = Unit {0}

-- a construct ends with its last operand
finishes : (whole : List Lexeme) (f : Frame) (m : ℕ) (a : Formula) (fs : List Frame) (ts : List Lexeme) → 0 < frame_rank f → frame_rank f ≤ m → Operand whole m a (f ∷ fs) ts → Operand whole (frame_rank f) (finish f a) fs ts × BindsNoTighter (frame_rank f) fs
finishes whole (Awaiting sign) m a fs ts low high op = ((Before sign ∷ op.0, op.1, prefixed sign refl (looser op.2 5 high)), BindsNoTighter-five fs)
finishes whole (Left sign b) m a fs ts low high op = ((op.1.0, op.1.1, joined sign (omega arith) refl op.1.2 (looser op.2 (rank sign) high)), op.1.3)
finishes whole Bracket m a fs ts low high op = absurd (omega arith)

-- the operand that is left once the constructs that bind tighter are ended
left : (whole : List Lexeme) (n : ℕ) (a : Formula) (fs : List Frame) (ts : List Lexeme) → n < 5 → Operand whole 5 a fs ts → let e = stack.ended formula_constructs n a fs in (k : ℕ) × (n < k) × BindsNoTighter n e.1 × Operand whole k e.0 e.1 ts
left whole n a fs ts low op = ended-keeps formula_constructs (λ m b gs. Operand whole m b gs ts) (λ m b f gs. finishes whole f m b gs ts) n fs 5 a low (BindsNoTighter-five fs) op

closes : (whole ts : List Lexeme) (m : ℕ) (a : Formula) (fs : List Frame) → 0 < m → BindsNoTighter 0 fs → Operand whole m a fs (Close ∷ ts) → Good whole (close a fs) ts
closes whole ts m a (Bracket ∷ fs) lt fits op = (Open ∷ op.0, op.1, bracketed (looser op.2 1 lt))
closes whole ts m a _ lt fits op = tt

stops : (whole ts : List Lexeme) (m : ℕ) (a : Formula) (fs : List Frame) → 0 < m → BindsNoTighter 0 fs → Operand whole m a fs (End ∷ ts) → Good whole (stop a fs) ts
stops whole ts m a [] lt fits op = subst (λ from. Reads 1 from a (End ∷ ts)) (sym op.1) (looser op.2 1 lt)
stops whole ts m a _ lt fits op = tt

begun : (whole : List Lexeme) (t : Lexeme) (fs : List Frame) (ts : List Lexeme) → Pending whole fs (t ∷ ts) → Good whole (begin t fs) ts
begun whole (Variable x) fs ts g = (Variable x ∷ ts, g, variable)
begun whole Truth fs ts g = (Truth ∷ ts, g, truth)
begun whole Falsity fs ts g = (Falsity ∷ ts, g, falsity)
begun whole (Before sign) fs ts g = g
begun whole Open fs ts g = g
begun whole _ fs ts g = tt

gone_on : (whole : List Lexeme) (t : Lexeme) (a : Formula) (fs : List Frame) (ts : List Lexeme) → Operand whole 5 a fs (t ∷ ts) → Good whole (go_on t a fs) ts
gone_on whole (Between o) a fs ts g =
    let high = rank-high o in
    let l = left whole (rank o) a fs (Between o ∷ ts) (omega arith) g in
    (l.3.0, l.3.1, looser l.3.2 (rank o + 1) (omega arith), l.2)
gone_on whole Close a fs ts g = let l = left whole 0 a fs (Close ∷ ts) (omega arith) g in closes whole ts l.0 _ _ l.1 l.2 l.3
gone_on whole End a fs ts g = let l = left whole 0 a fs (End ∷ ts) (omega arith) g in stops whole ts l.0 _ _ l.1 l.2 l.3
gone_on whole _ a fs ts g = tt

stepped : (whole : List Lexeme) (s : State) (t : Lexeme) (ts : List Lexeme) → Good whole s (t ∷ ts) → Good whole (step t s) ts
stepped whole (Need fs) t ts g = begun whole t fs ts g
stepped whole (Have a fs) t ts g = gone_on whole t a fs ts g
stepped whole (Over a) t ts g = tt
stepped whole Astray t ts g = tt

ran : (whole ts : List Lexeme) (s : State) → Good whole s ts → Good whole (run ts s) []
ran whole [] s g = g
ran whole (t ∷ ts) s g = ran whole ts (step t s) (stepped whole s t ts g)

-- what the machine accepts is a text of the grammar
pub sound : (ts : List Lexeme) (a : Formula) → run ts (Need []) ≡ Over a → IsFormula ts a
sound ts a is = subst (λ s. Good ts s []) is (ran ts ts (Need []) refl)

-- the tokens that end all constructs of a stack, and the text
abbrev closers : List Frame → List Lexeme
closers [] = End ∷ []
closers (Bracket ∷ fs) = Close ∷ closers fs
closers (Awaiting sign ∷ fs) = closers fs
closers (Left sign a ∷ fs) = closers fs

closers-end : (n : ℕ) (fs : List Frame) → 0 < n → Ends n (closers fs)
closers-end n [] low = low
closers-end n (Bracket ∷ fs) low = low
closers-end n (Awaiting sign ∷ fs) low = closers-end n fs low
closers-end n (Left sign a ∷ fs) low = closers-end n fs low

closed : (fs : List Frame) (a : Formula) → (b : Formula) × (run (closers fs) (Have a fs) ≡ Over b)
closed [] a = (a, refl)
closed (Bracket ∷ fs) a = closed fs a
closed (Awaiting sign ∷ fs) a =
    let rest = closed fs (apply sign a) in
    (rest.0, swallow (Awaiting sign) a fs (closers fs) (closers-end 5 fs (omega arith)) ∙ rest.1)
closed (Left sign b ∷ fs) a =
    let rest = closed fs (join sign b a) in
    (rest.0, swallow (Left sign b) a fs (closers fs) (closers-end (rank sign) fs (rank-low sign)) ∙ rest.1)

-- a state that isn't astray can be completed
pub completes : (s : State) → (s ≡ Astray → ⊥) → (rest : List Lexeme) × (b : Formula) × (run rest s ≡ Over b)
completes (Need fs) on = let more = closed fs verum in (Truth ∷ closers fs, more.0, more.1)
completes (Have a fs) on = let more = closed fs a in (closers fs, more.0, more.1)
completes (Over a) on = ([], a, refl)
completes Astray on = absurd (on refl)
