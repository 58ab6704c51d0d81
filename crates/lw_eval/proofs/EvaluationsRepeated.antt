-- Expressions one after another, and sums and products operand by operand.
use Rattle.std.proofs.Common.{◌≡◌, ◌∙◌, sym, ap, refl, ◌+◌, ◌<◌, ℕ, zero, suc, List, [], ◌∷◌, ◌++◌, Option, Some, None, arith}
use Rattle.lw_formula.specs.Formula.{Formula}
use Rattle.lw_pool.specs.declared.id.FormId.{FormId}
use Rattle.lw_ast.specs.declared.operator.Op.{Op}
use Rattle.lw_ast.specs.Trees as tree
use Rattle.lw_ast.specs.Trees.{Expression, Expressions, Operands, count, sign_count}
use Rattle.lw_ast.specs.ScriptViews.{expression_at, operand_at}
use Rattle.lw_value.specs.Values.{Val, Vals, vals, seen, seen_all, AreLive, AreItemsLive, empty, item}
use Rattle.lw_eval.specs.declared.fault.EvalFault.{EvalFault}
use Rattle.lw_eval.specs.declared.fault.EvalFault.TheVariants.{Troubled, Memory}
use Rattle.lw_eval.specs.declared.trouble.Trouble.{Trouble}
use Rattle.lw_eval.specs.Evaluations.{Evaluation, Got, Fails, Pair}
use Rattle.lw_eval.specs.Evaluations.Bind.{fails, goes}
use Rattle.lw_eval.specs.Operators.{Calculates}
use Rattle.lw_eval.specs.Expressions.{Variables, Eval, Evals, Chain}
use Rattle.lw_eval.specs.Private.Given.{Faults}
use Rattle.lw_eval.specs.Private.Remaining.{rest, operands_rest, followed_by, Series}
use Rattle.lw_eval.specs.Private.Sizes.{size, expressions_size, operands_size}

-- the expression that is there, else the other
abbrev the_expression : Expression → Option Expression → Expression
the_expression d (Some e) = e
the_expression d None = d

-- the operand that is there with its sign, else the other
abbrev the_sign : Op → Option (Op × Expression) → Op
the_sign d (Some b) = b.0
the_sign d None = d

abbrev the_operand : Expression → Option (Op × Expression) → Expression
the_operand d (Some b) = b.1
the_operand d None = d

-- the i-th expression is the first of what is left
expression_met : (i : ℕ) (es : Expressions) (e : Expression) → expression_at es i ≡ Some e → rest i es ≡ tree.more e (rest (suc i) es)
expression_met zero tree.none e h = absurd (cc)
expression_met zero (tree.more x es) e h = ap (λ o. tree.more (the_expression x o) es) h
expression_met (suc i) tree.none e h = absurd (cc)
expression_met (suc i) (tree.more x es) e h = expression_met i es e h

operand_met : (i : ℕ) (bs : Operands) (s : Op) (b : Expression) → operand_at bs i ≡ Some (s, b) → operands_rest i bs ≡ tree.signed s b (operands_rest (suc i) bs)
operand_met zero tree.no_more s b h = absurd (cc)
operand_met zero (tree.signed t x bs) s b h = ap (λ o. tree.signed (the_sign t o) (the_operand x o) bs) h
operand_met (suc i) tree.no_more s b h = absurd (cc)
operand_met (suc i) (tree.signed t x bs) s b h = operand_met i bs s b h

pub next_expression : (i : ℕ) (es : Expressions) (e : Expression) → expression_at es i ≡ Some e → rest i es ≡ tree.more e (rest (i + 1) es)
next_expression i es e h = let q : suc i ≡ i + 1 = omega arith in expression_met i es e h ∙ ap (λ k. tree.more e (rest k es)) q

pub next_operand : (i : ℕ) (bs : Operands) (s : Op) (b : Expression) → operand_at bs i ≡ Some (s, b) → operands_rest i bs ≡ tree.signed s b (operands_rest (i + 1) bs)
next_operand i bs s b h = let q : suc i ≡ i + 1 = omega arith in operand_met i bs s b h ∙ ap (λ k. tree.signed s b (operands_rest k bs)) q

-- nothing is left behind the last
pub none_left : (es : Expressions) → rest (count es) es ≡ tree.none
none_left tree.none = refl
none_left (tree.more e es) = none_left es

pub no_operand_left : (bs : Operands) → operands_rest (sign_count bs) bs ≡ tree.no_more
no_operand_left tree.no_more = refl
no_operand_left (tree.signed s b bs) = no_operand_left bs

-- each is smaller than all together
pub size_within : (i : ℕ) (es : Expressions) (e : Expression) → expression_at es i ≡ Some e → size e < expressions_size es
size_within zero tree.none e h = absurd (cc)
size_within zero (tree.more x es) e h = let p : size x ≡ size e = ap (λ o. size (the_expression x o)) h in omega (arith, p)
size_within (suc i) tree.none e h = absurd (cc)
size_within (suc i) (tree.more x es) e h = omega (arith, size_within i es e h)

pub operand_size_within : (i : ℕ) (bs : Operands) (s : Op) (b : Expression) → operand_at bs i ≡ Some (s, b) → size b < operands_size bs
operand_size_within zero tree.no_more s b h = absurd (cc)
operand_size_within zero (tree.signed t x bs) s b h = let p : size x ≡ size b = ap (λ o. size (the_operand x o)) h in omega (arith, p)
operand_size_within (suc i) tree.no_more s b h = absurd (cc)
operand_size_within (suc i) (tree.signed t x bs) s b h = omega (arith, operand_size_within i bs s b h)

-- values behind one another
pub followed_by_none : (vs : Vals Formula) → followed_by vs empty ≡ vs
followed_by_none empty = refl
followed_by_none (item v vs) = ap (item v) (followed_by_none vs)

pub followed_by_one : (ts : List Formula) (vs : List (Val FormId)) (v : Val FormId) (ws : Vals Formula) →
    followed_by (seen_all ts (vals (vs ++ v ∷ []))) ws ≡ followed_by (seen_all ts (vals vs)) (item (seen ts v) ws)
followed_by_one ts [] v ws = refl
followed_by_one ts (u ∷ vs) v ws = ap (item (seen ts u)) (followed_by_one ts vs v ws)

-- a fault of the next expression is one of all that are left
pub left_faults : (env : Variables) (i : ℕ) (es : Expressions) (e : Expression) (fault : EvalFault) → expression_at es i ≡ Some e →
    Faults (Eval env e) fault → Faults (Evals env (rest i es)) fault
left_faults env i es e (Troubled t) p h = rw (next_expression i es e p) (fails h)
left_faults env i es e Memory p h = tt

-- and a fault of these is one of all
pub all_fault : (env : Variables) (some all : Expressions) (fault : EvalFault) →
    ((t : Trouble) → Evals env some (Fails t) → Evals env all (Fails t)) → Faults (Evals env some) fault → Faults (Evals env all) fault
all_fault env some all (Troubled t) leads h = leads t h
all_fault env some all Memory leads h = tt

-- the next value before those that are left
pub left_value : (env : Variables) (i : ℕ) (es : Expressions) (e : Expression) (v : Val Formula) (vs : Vals Formula) → expression_at es i ≡ Some e →
    Eval env e (Got v) → Evals env (rest (i + 1) es) (Got vs) → Evals env (rest i es) (Got (item v vs))
left_value env i es e v vs p h k = rw (next_expression i es e p) (goes v h (goes vs k refl))

pub left_trouble : (env : Variables) (i : ℕ) (es : Expressions) (e : Expression) (v : Val Formula) (t : Trouble) → expression_at es i ≡ Some e →
    Eval env e (Got v) → Evals env (rest (i + 1) es) (Fails t) → Evals env (rest i es) (Fails t)
left_trouble env i es e v t p h k = rw (next_expression i es e p) (goes v h (fails k))

-- a fault of the next operand, or of what is calculated with it, is one of all that are left
pub operand_faults : (env : Variables) (v : Val Formula) (i : ℕ) (bs : Operands) (s : Op) (b : Expression) (fault : EvalFault) → operand_at bs i ≡ Some (s, b) →
    Faults (Eval env b) fault → Faults (Chain env v (operands_rest i bs)) fault
operand_faults env v i bs s b (Troubled t) p h = rw (next_operand i bs s b p) (fails (fails h))
operand_faults env v i bs s b Memory p h = tt

pub calculation_faults : (env : Variables) (v w : Val Formula) (i : ℕ) (bs : Operands) (s : Op) (b : Expression) (fault : EvalFault) → operand_at bs i ≡ Some (s, b) →
    Eval env b (Got w) → Faults (Calculates s v w) fault → Faults (Chain env v (operands_rest i bs)) fault
calculation_faults env v w i bs s b (Troubled t) p h k = rw (next_operand i bs s b p) (fails (goes w h k))
calculation_faults env v w i bs s b Memory p h k = tt

pub series_fault : (env : Variables) (v : Val Formula) (some : Operands) (a : Expression) (all : Operands) (fault : EvalFault) →
    ((r : Evaluation (Val Formula)) → Chain env v some r → Series env a all r) → Faults (Chain env v some) fault → Faults (Series env a all) fault
series_fault env v some a all (Troubled t) leads h = leads (Fails t) h
series_fault env v some a all Memory leads h = tt

-- the total with the next operand, and then what is left
pub next_total : (env : Variables) (v w u : Val Formula) (i : ℕ) (bs : Operands) (s : Op) (b : Expression) (r : Evaluation (Val Formula)) → operand_at bs i ≡ Some (s, b) →
    Eval env b (Got w) → Calculates s v w (Got u) → Chain env u (operands_rest (i + 1) bs) r → Chain env v (operands_rest i bs) r
next_total env v w u i bs s b r p h k l = rw (next_operand i bs s b p) (goes u (goes w h k) l)

-- a pair, and a fault of its right side
pub paired : (env : Variables) (a b : Expression) (x y z : Val Formula) → z ≡ x → Eval env a (Got x) → Eval env b (Got y) → Pair (Eval env a) (Eval env b) (Got (z, y))
paired env a b x y z p h k = goes x h (goes y k (ap (λ u. Got (u, y)) p))

pub pair_right_faults : (env : Variables) (a b : Expression) (x : Val Formula) (fault : EvalFault) → Eval env a (Got x) → Faults (Eval env b) fault →
    Faults (Pair (Eval env a) (Eval env b)) fault
pair_right_faults env a b x (Troubled t) h k = goes x h (fails k)
pair_right_faults env a b x Memory h k = tt

-- one more value behind the others, and all that come
pub values_live : (ts : List Formula) (vs : List (Val FormId)) (v : Val FormId) → AreItemsLive ts (vals vs) → AreLive ts v → AreItemsLive ts (vals (vs ++ v ∷ []))
values_live ts [] v h k = (k, tt)
values_live ts (u ∷ vs) v h k = (h.0, values_live ts vs v h.1 k)

pub pushed_live : (ts : List Formula) (old new : List (Val FormId)) (v : Val FormId) → new ≡ old ++ v ∷ [] → AreItemsLive ts (vals old) → AreLive ts v → AreItemsLive ts (vals new)
pushed_live ts old new v p h k = rw p (values_live ts old v h k)

pub pushed_values : (env : Variables) (all : Expressions) (before now : List Formula) (old new : List (Val FormId)) (v : Val FormId) (ws : Vals Formula) → new ≡ old ++ v ∷ [] →
    seen_all now (vals old) ≡ seen_all before (vals old) → Evals env all (Got (followed_by (seen_all before (vals old)) (item (seen now v) ws))) →
    Evals env all (Got (followed_by (seen_all now (vals new)) ws))
pushed_values env all before now old new v ws p q h = rw (p, followed_by_one now old v ws, q) h

-- all have come
pub all_values : (env : Variables) (i : ℕ) (all : Expressions) (vs : Vals Formula) → i ≡ count all →
    ((ws : Vals Formula) → Evals env (rest i all) (Got ws) → Evals env all (Got (followed_by vs ws))) → Evals env all (Got vs)
all_values env i all vs p leads =
    let last : Evals env all (Got (followed_by vs empty)) = leads empty (rw (p, none_left all) refl) in
    rw (sym (followed_by_none vs)) last

pub whole_total : (env : Variables) (v : Val Formula) (i : ℕ) (a : Expression) (all : Operands) → i ≡ sign_count all →
    ((r : Evaluation (Val Formula)) → Chain env v (operands_rest i all) r → Series env a all r) → Series env a all (Got v)
whole_total env v i a all p leads = leads (Got v) (rw (p, no_operand_left all) refl)

-- the total so far, seen as before
pub total_faults_before : (env : Variables) (s : Op) (u v w : Val Formula) (fault : EvalFault) → u ≡ v → Faults (Calculates s u w) fault → Faults (Calculates s v w) fault
total_faults_before env s u v w fault p h = rw (sym p) h

pub total_before : (s : Op) (u v w x : Val Formula) → u ≡ v → Calculates s u w (Got x) → Calculates s v w (Got x)
total_before s u v w x p h = rw (sym p) h
