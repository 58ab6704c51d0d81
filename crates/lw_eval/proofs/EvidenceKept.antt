-- Certificates in the values of expressions, and in variables after a run, show their formulas or refute them, where those in
-- the variables before do.
use Rattle.std.proofs.Common.{◌≡◌, ℕ, zero, suc, ◌+◌, ◌-◌, ◌*◌, ◌^◌, nat_le, nat_lt, Bool, true, false, List, Option, Some, None, if◌then◌else◌, refl, sym, ap, subst, map, [], ◌∷◌}
use Rattle.lw_formula.specs.declared.logic.Logic.{Logic}
use Rattle.lw_formula.specs.Formula.{Formula, letter}
use Rattle.lw_ast.specs.declared.operator.Op.{Op}
use Rattle.lw_ast.specs.declared.operator.Op.TheVariants.{Plus, Minus, Times}
use Rattle.lw_ast.specs.declared.operator.Link.TheVariants as link
use Rattle.lw_ast.specs.declared.operator.Relation.{Relation}
use Rattle.lw_ast.specs.declared.operator.Relation.TheVariants.{Equal, Unequal, Less, AtMost}
use Rattle.lw_ast.specs.declared.function.Function.{Function}
use Rattle.lw_ast.specs.declared.function.Function.TheVariants.{Provable, Certificate, Interpolate, Fixpoint, Nnf, Simplify, Goedel, Boxdot, Substitute, Vars, Depth, Count, Length, Item, Append, Smallest, Trace, Letterless, Shared}
use Rattle.lw_ast.specs.Trees as tree
use Rattle.lw_ast.specs.Trees.{Expression, Expressions, Operands}
use Rattle.lw_value.specs.Values.{Evidence, Val, Vals, vals, formula, truth, number, text, items, logic, certificate, naught, empty, item, weight, item_at, with_last}
use Rattle.lw_value.specs.Evidence.{HasEvidence, HaveEvidence}
use Rattle.lw_value.specs.Assignments.{value_at, put}
use Rattle.lw_value.proofs.VariablesSeen.{value_at_evidence, put_evidence}
use Rattle.lw_eval.specs.declared.trouble.Trouble.{Trouble}
use Rattle.lw_eval.specs.declared.trouble.Trouble.TheVariants.{Range, Unbound}
use Rattle.lw_eval.specs.Evaluations.{Evaluation, Got, Fails, found_or, Is, Given, Bind, Tells, holds, fails_to}
use Rattle.lw_eval.specs.Operands.{formula_in, variable_in, number_in, list_in, logic_in, certificate_in, any_in, both, one, two, three}
use Rattle.lw_eval.specs.Operators.{in_range, calculated, plain, Compares, Tests, Truth, Both, Either, list_of}
use Rattle.lw_trace.specs.LetterlessTruth.{trace_of}
use Rattle.lw_eval.proofs.ShrunkEvidence.{smallest_evident}
use Rattle.lw_eval.specs.Calls.{Decided, decided, Traced, traced, trace_values, Certifies, by_proof, by_model, Interpolates, between, none, Supported, supported, Fixes, fixed, Translates, translated, Shares, Lists, lists, Calls}
use Rattle.lw_eval.specs.Expressions.{Variables, Eval, Chain, Evals}
use Rattle.lw_eval.specs.Runs.{Act, End, Nothing, Then, Step, With, Assigns, Prints, Turns, Repeats, numbers_from, Choice, Does, DoesStep, Run}
use Rattle.lw_eval.specs.Private.Carried.{Condition, ListOf, HaveItemsEvidence}

-- what is the only value
abbrev the_value : {A : Type 0} → A → Evaluation A → A
the_value d (Got v) = v
the_value d (Fails t) = d

-- it is this value, which has evidence
is_evident : (v w : Val Formula) → Got v ≡ Got w → HasEvidence w → HasEvidence v
is_evident v w is has = subst HasEvidence (sym (ap (the_value w) is)) has

-- there is no value
no_value : (v : Val Formula) (t : Trouble) → Got v ≡ Fails t → HasEvidence v
no_value v t is = absurd (cc)

given_evident : {A : Type 0} (e : Evaluation A) (second : A → Evaluation (Val Formula) → Type 0) (v : Val Formula) → ((x : A) → second x (Got v) → HasEvidence v)
    → Given e second (Got v) → HasEvidence v
given_evident (Got x) second v each is = each x is
given_evident (Fails t) second v each is = no_value v t is

bound_evident : (env : Variables) (x : List ℕ) (o : Option (Val Formula)) (v : Val Formula) → HaveEvidence env → value_at env x ≡ o → Got v ≡ found_or (Unbound x) o → HasEvidence v
bound_evident env x (Some w) v have found is = is_evident v w is (value_at_evidence env x w have found)
bound_evident env x None v have found is = absurd (cc)

in_range_evident : (n : ℕ) (v : Val Formula) → Got v ≡ in_range n → HasEvidence v
in_range_evident n v is = by (nat_lt n (2 ^ 64)) is
  where
    by : (b : Bool) → Got v ≡ (if b then Got (number n) else Fails Range) → HasEvidence v
    by true is = is_evident v (number n) is tt
    by false is = no_value v _ is

calculated_evident : (s : Op) (m n : ℕ) (v : Val Formula) → Got v ≡ calculated s m n → HasEvidence v
calculated_evident Plus m n v is = in_range_evident (m + n) v is
calculated_evident Minus m n v is = by (nat_le n m) is
  where
    by : (b : Bool) → Got v ≡ (if b then in_range (m - n) else Fails Range) → HasEvidence v
    by true is = in_range_evident (m - n) v is
    by false is = no_value v _ is
calculated_evident Times m n v is = in_range_evident (m * n) v is

compared_evident : (r : Relation) (v w u : Val Formula) → Compares r v w (Got u) → HasEvidence u
compared_evident Equal v w _ (plain _ _ (holds _)) = tt
compared_evident Equal v w _ (plain _ _ (fails_to _)) = tt
compared_evident Unequal v w _ (plain _ _ (holds _)) = tt
compared_evident Unequal v w _ (plain _ _ (fails_to _)) = tt
compared_evident Less v w u is = given_evident (both (number_in v) (number_in w)) _ u (λ n eq. is_evident u _ eq tt) is
compared_evident AtMost v w u is = given_evident (both (number_in v) (number_in w)) _ u (λ n eq. is_evident u _ eq tt) is

truth_evident : (test : Evaluation Bool → Type 0) (v : Val Formula) → Truth test (Got v) → HasEvidence v
truth_evident test v (Bind.goes b _ is) = is_evident v (truth b) is tt

both_evident : (b : Bool) (right : Evaluation (Val Formula) → Type 0) (v : Val Formula) → Both b right (Got v) → HasEvidence v
both_evident true right v is = truth_evident (Tests right) v is
both_evident false right v is = is_evident v _ is tt

either_evident : (b : Bool) (right : Evaluation (Val Formula) → Type 0) (v : Val Formula) → Either b right (Got v) → HasEvidence v
either_evident true right v is = is_evident v _ is tt
either_evident false right v is = truth_evident (Tests right) v is

list_evident : (vs : Vals Formula) (v : Val Formula) → HaveItemsEvidence vs → Got v ≡ list_of vs → HasEvidence v
list_evident vs v have is = by (nat_le (weight (items vs)) 65536) is
  where
    by : (b : Bool) → Got v ≡ (if b then Got (items vs) else Fails Range) → HasEvidence v
    by true is = is_evident v (items vs) is have
    by false is = no_value v _ is

item_evident : (vs : Vals Formula) (n : ℕ) (v : Val Formula) → HaveItemsEvidence vs → Got v ≡ found_or Range (item_at vs n) → HasEvidence v
item_evident empty n v have is = no_value v _ is
item_evident (item w ws) zero v have is = no_value v _ is
item_evident (item w ws) (suc zero) v have is = is_evident v w is have.0
item_evident (item w ws) (suc (suc n)) v have is = item_evident ws (suc n) v have.1 is

last_evident : (vs : Vals Formula) (v : Val Formula) → HaveItemsEvidence vs → HasEvidence v → HaveItemsEvidence (with_last vs v)
last_evident empty v have has = (has, tt)
last_evident (item w ws) v have has = (have.0, last_evident ws v have.1 has)

letters_evident : (names : List (List ℕ)) → HaveItemsEvidence (vals (map (λ p. formula (letter p)) names))
letters_evident [] = tt
letters_evident (p ∷ ps) = (tt, letters_evident ps)

append_evident : (v w u : Val Formula) → HasEvidence v → HasEvidence w → Given (both (list_in v) (any_in w)) (λ x. Is (list_of (with_last x.0 x.1))) (Got u) → HasEvidence u
append_evident (items vs) w u has has2 is = list_evident (with_last vs w) u (last_evident vs w has has2) is
append_evident (formula a) w u has has2 is = no_value u _ is
append_evident (truth b) w u has has2 is = no_value u _ is
append_evident (number n) w u has has2 is = no_value u _ is
append_evident (text t) w u has has2 is = no_value u _ is
append_evident (logic l) w u has has2 is = no_value u _ is
append_evident (certificate l a e) w u has has2 is = no_value u _ is
append_evident naught w u has has2 is = no_value u _ is

item_of_evident : (v w u : Val Formula) → HasEvidence v → Given (both (list_in v) (number_in w)) (λ x. Is (found_or Range (item_at x.0 x.1))) (Got u) → HasEvidence u
item_of_evident (items vs) (number n) u has is = item_evident vs n u has is
item_of_evident _ _ u has is = no_value u _ is

two_evident : {A B : Type 0} (first : Val Formula → Evaluation A) (other : Val Formula → Evaluation B) (second : A × B → Evaluation (Val Formula) → Type 0) (vs : Vals Formula) (v : Val Formula)
    → ((x y : Val Formula) → HasEvidence x → HasEvidence y → Given (both (first x) (other y)) second (Got v) → HasEvidence v)
    → HaveItemsEvidence vs → Given (two first other vs) second (Got v) → HasEvidence v
two_evident first other second empty v each have is = no_value v _ is
two_evident first other second (item x empty) v each have is = no_value v _ is
two_evident first other second (item x (item y empty)) v each have is = each x y have.0 have.1.0 is
two_evident first other second (item x (item y (item z ws))) v each have is = no_value v _ is

one_evident : {A : Type 0} (kind : Val Formula → Evaluation A) (second : A → Evaluation (Val Formula) → Type 0) (vs : Vals Formula) (v : Val Formula)
    → ((x : Val Formula) → HasEvidence x → Given (kind x) second (Got v) → HasEvidence v) → HaveItemsEvidence vs → Given (one kind vs) second (Got v) → HasEvidence v
one_evident kind second empty v each have is = no_value v _ is
one_evident kind second (item x empty) v each have is = each x have.0 is
one_evident kind second (item x (item y ws)) v each have is = no_value v _ is

traced_evident : (a : Formula) (answer : Evaluation (Val Formula) → Type 0) (v : Val Formula) → ((u : Val Formula) → answer (Got u) → HasEvidence u) → Traced a (Decided a answer) (Got v) → HasEvidence v
traced_evident a answer v each (traced _ (decided _ is)) = each v is

numbers_evident : (ns : List ℕ) → HaveItemsEvidence (vals (map number ns))
numbers_evident [] = tt
numbers_evident (n ∷ ns) = (tt, numbers_evident ns)

trace_evident : (a : Formula) → HaveItemsEvidence (vals (trace_values a))
trace_evident a = (tt, numbers_evident (trace_of a).heights)

provable_evident : (a : Formula) (P : Type 0) (v : Val Formula) → Decided a (Tells P) (Got v) → HasEvidence v
provable_evident a P _ (decided _ (holds _)) = tt
provable_evident a P _ (decided _ (fails_to _)) = tt

certificate_evident : (l : Logic) (a : Formula) (v : Val Formula) → Decided a (Certifies l a) (Got v) → HasEvidence v
certificate_evident l a _ (decided _ (by_proof P lean)) = lean.proves
certificate_evident l a _ (decided _ (by_model m w refutes _)) = refutes

interpolate_evident : (l : Logic) (a b c : Formula) (v : Val Formula) → Supported l (Decided c (Interpolates l a b)) (Got v) → HasEvidence v
interpolate_evident l a b c _ (supported _ (decided _ (between i P _ _ _))) = tt
interpolate_evident l a b c _ (supported _ (decided _ (none _))) = tt

fixed_evident : (p : List ℕ) (a : Formula) (v : Val Formula) → Fixes p a (Got v) → HasEvidence v
fixed_evident p a _ (fixed _) = tt

translated_evident : (a : Formula) (v : Val Formula) → Translates a (Got v) → HasEvidence v
translated_evident a _ (translated _) = tt

shares_evident : (l : Logic) (a : Formula) (e : Evidence Formula) (v : Val Formula) → Shares l a e (Got v) → HasEvidence v
shares_evident l a _ _ (Shares.proof _ _) = (tt, (tt, tt))
shares_evident l a _ _ Shares.model = tt

lists_evident : (a : Formula) (v : Val Formula) → Lists a (Got v) → HasEvidence v
lists_evident a v (lists names _ is) = list_evident _ v (letters_evident names) is

-- each row of the table of functions
call_evident : (f : Function) (vs : Vals Formula) (v : Val Formula) → HaveItemsEvidence vs → Calls f vs (Got v) → HasEvidence v
call_evident Provable vs v have is = given_evident (two logic_in formula_in vs) _ v (λ x h. provable_evident _ _ v h) is
call_evident Certificate vs v have is = given_evident (two logic_in formula_in vs) _ v (λ x h. certificate_evident x.0 x.1 v h) is
call_evident Interpolate vs v have is = given_evident (three logic_in formula_in formula_in vs) _ v (λ x h. interpolate_evident x.0 x.1.0 x.1.1 _ v h) is
call_evident Fixpoint vs v have is = given_evident (two variable_in formula_in vs) _ v (λ x h. fixed_evident x.0 x.1 v h) is
call_evident Nnf vs v have is = given_evident (one formula_in vs) _ v (λ a h. is_evident v _ h tt) is
call_evident Simplify vs v have is = given_evident (one formula_in vs) _ v (λ a h. is_evident v _ h tt) is
call_evident Goedel vs v have is = given_evident (one formula_in vs) _ v (λ a h. translated_evident a v h) is
call_evident Boxdot vs v have is = given_evident (one formula_in vs) _ v (λ a h. is_evident v _ h tt) is
call_evident Substitute vs v have is = given_evident (three formula_in variable_in formula_in vs) _ v (λ x h. is_evident v _ h tt) is
call_evident Vars vs v have is = given_evident (one formula_in vs) _ v (λ a h. lists_evident a v h) is
call_evident Depth vs v have is = given_evident (one formula_in vs) _ v (λ a h. is_evident v _ h tt) is
call_evident Count vs v have is = given_evident (one formula_in vs) _ v (λ a h. is_evident v _ h tt) is
call_evident Length vs v have is = given_evident (one list_in vs) _ v (λ xs h. is_evident v _ h tt) is
call_evident Item vs v have is = two_evident list_in number_in _ vs v (λ x y hx hy h. item_of_evident x y v hx h) have is
call_evident Append vs v have is = two_evident list_in any_in _ vs v (λ x y hx hy h. append_evident x y v hx hy h) have is
call_evident Smallest vs v have is = one_evident certificate_in _ vs v (λ x hx h. smallest_evident x v hx h) have is
call_evident Trace vs v have is = given_evident (one formula_in vs) _ v (λ a h. traced_evident a _ v (λ u k. list_evident (vals (trace_values a)) u (trace_evident a) k) h) is
call_evident Letterless vs v have is = given_evident (one formula_in vs) _ v (λ a h. traced_evident a _ v (λ u k. is_evident u _ k tt) h) is
call_evident Shared vs v have is = given_evident (one certificate_in vs) _ v (λ c h. shares_evident c.0 c.1 c.2 v h) is

-- the value of an expression has evidence where the variables have it
mutual
  pub eval_evident : (env : Variables) (e : Expression) (v : Val Formula) → HaveEvidence env → Eval env e (Got v) → HasEvidence v
  eval_evident env (tree.number n) v have is = is_evident v _ is tt
  eval_evident env (tree.text bytes) v have is = is_evident v _ is tt
  eval_evident env (tree.truth b) v have is = is_evident v _ is tt
  eval_evident env tree.nothing v have is = is_evident v _ is tt
  eval_evident env (tree.upper x) v have is = bound_evident env x (value_at env x) v have refl is
  eval_evident env (tree.logic l) v have is = is_evident v _ is tt
  eval_evident env (tree.variable p) v have is = is_evident v _ is tt
  eval_evident env tree.bot v have is = is_evident v _ is tt
  eval_evident env tree.top v have is = is_evident v _ is tt
  eval_evident env (tree.prefixed sign a) v have (Bind.goes w _ is) = given_evident (formula_in w) _ v (λ x h. is_evident v _ h tt) is
  eval_evident env (tree.linked link.Either a b) v have (Bind.goes t _ is) = either_evident t (Eval env b) v is
  eval_evident env (tree.linked link.Both a b) v have (Bind.goes t _ is) = both_evident t (Eval env b) v is
  eval_evident env (tree.linked (link.Binary j) a b) v have (Bind.goes w _ is) = given_evident (both (formula_in w.0) (formula_in w.1)) _ v (λ x h. is_evident v _ h tt) is
  eval_evident env (tree.chained k a bs) v have (Bind.goes w first is) = chain_evident env w bs v have (eval_evident env a w have first) is
  eval_evident env (tree.compared r a b) v have (Bind.goes w _ is) = compared_evident r w.0 w.1 v is
  eval_evident env (tree.denied a) v have (Bind.goes b _ is) = is_evident v _ is tt
  eval_evident env (tree.list es) v have (Bind.goes vs first is) = list_evident vs v (evals_evident env es vs have first) is
  eval_evident env (tree.call f es) v have (Bind.goes vs first is) = call_evident f vs v (evals_evident env es vs have first) is

  chain_evident : (env : Variables) (w : Val Formula) (bs : Operands) (v : Val Formula) → HaveEvidence env → HasEvidence w → Chain env w bs (Got v) → HasEvidence v
  chain_evident env w tree.no_more v have has is = is_evident v w is has
  chain_evident env w (tree.signed s b bs) v have has (Bind.goes u (Bind.goes x _ is) next) =
      chain_evident env u bs v have (given_evident (both (number_in w) (number_in x)) _ u (λ n h. calculated_evident s n.0 n.1 u h) is) next

  -- so have the values of several
  pub evals_evident : (env : Variables) (es : Expressions) (vs : Vals Formula) → HaveEvidence env → Evals env es (Got vs) → HaveItemsEvidence vs
  evals_evident env tree.none vs have is = subst HaveItemsEvidence (sym (ap (the_value vs) is)) tt
  evals_evident env (tree.more e es) vs have (Bind.goes v first (Bind.goes ws rest is)) =
      subst HaveItemsEvidence (sym (ap (the_value vs) is)) (eval_evident env e v have first, evals_evident env es ws have rest)

-- a run keeps the evidence of the variables
abbrev Keeps : Act → Type 0
Keeps act = (env : Variables) (k : ℕ) (after : Variables) (k2 : ℕ) (out : List ℕ) (end : End) → act env k after k2 out end → HaveEvidence env → HaveEvidence after

nothing_keeps : Keeps Nothing
nothing_keeps env k after k2 out end Nothing.nothing have = have

then_keeps : (first second : Act) → Keeps first → Keeps second → Keeps (Then first second)
then_keeps first second a b env k after k2 out end (Then.stops run _) have = a _ _ _ _ _ _ run have
then_keeps first second a b env k after k2 out end (Then.goes run next _) have = b _ _ _ _ _ _ next (a _ _ _ _ _ _ run have)

step_keeps : (line : ℕ) (act : Act) → Keeps act → Keeps (Step line act)
step_keeps line act a env k after k2 out end Step.cut have = have
step_keeps line act a env k after k2 out end (Step.limit _) have = have
step_keeps line act a env k after k2 out end (Step.step _ run) have = a _ _ _ _ _ _ run have

with_keeps : {A : Type 0} (line : ℕ) (value : Variables → Evaluation A → Type 0) (act : A → Act)
    → ((env : Variables) (v : A) → HaveEvidence env → value env (Got v) → Keeps (act v)) → Keeps (With line value act)
with_keeps line value act a env k after k2 out end (With.trouble _) have = have
with_keeps line value act a env k after k2 out end (With.value v got run) have = a env v have got _ _ _ _ _ _ run have

assigns_keeps : (x : List ℕ) (v : Val Formula) → HasEvidence v → Keeps (Assigns x v)
assigns_keeps x v has env k after k2 out end Assigns.assigned have = put_evidence env x v have has

prints_keeps : (line : ℕ) (vs : Vals Formula) → Keeps (Prints line vs)
prints_keeps line vs env k after k2 out end (Prints.whole _ _) have = have
prints_keeps line vs env k after k2 out end (Prints.part _ _ _ _) have = have
prints_keeps line vs env k after k2 out end (Prints.too_long _) have = have

-- a turn keeps it where its value has evidence
pub turn_keeps : (line : ℕ) (x : List ℕ) (v : Val Formula) (body : Act) → Keeps body → HasEvidence v → Keeps (Step line (λ env. body (put env x v)))
turn_keeps line x v body a has = step_keeps line (λ env. body (put env x v)) (λ env k after k2 out end run have. a _ _ _ _ _ _ run (put_evidence env x v have has))

turns_keep : (line : ℕ) (x : List ℕ) (body : Act) → Keeps body → (vs : Vals Formula) → HaveItemsEvidence vs → Keeps (Turns line x body vs)
turns_keep line x body a empty haves env k after k2 out end Nothing.nothing have = have
turns_keep line x body a (item v vs) haves env k after k2 out end run have =
    then_keeps _ _ (turn_keeps line x v body a haves.0) (turns_keep line x body a vs haves.1) env k after k2 out end run have

repeats_keep : (line : ℕ) (test : Variables → Evaluation Bool → Type 0) (body : Act) → Keeps body → Keeps (Repeats line test body)
repeats_keep line test body a env k after k2 out end Repeats.cut have = have
repeats_keep line test body a env k after k2 out end (Repeats.trouble _) have = have
repeats_keep line test body a env k after k2 out end (Repeats.ends _) have = have
repeats_keep line test body a env k after k2 out end (Repeats.limit _ _) have = have
repeats_keep line test body a env k after k2 out end (Repeats.stops _ _ run _) have = a _ _ _ _ _ _ run have
repeats_keep line test body a env k after k2 out end (Repeats.turn _ _ run next _) have = repeats_keep line test body a _ _ _ _ _ _ next (a _ _ _ _ _ _ run have)

pub numbers_have_evidence : (m n : ℕ) → HaveItemsEvidence (numbers_from m n)
numbers_have_evidence m zero = tt
numbers_have_evidence m (suc n) = (tt, numbers_have_evidence (m + 1) n)

-- the items of a list have evidence where the variables have it
pub list_items_evident : (a : Expression) (env : Variables) (vs : Vals Formula) → HaveEvidence env → ListOf a env (Got vs) → HaveItemsEvidence vs
list_items_evident a env vs have (Bind.goes v first is) = by v (eval_evident env a v have first) is
  where
    by : (v : Val Formula) → HasEvidence v → Got vs ≡ list_in v → HaveItemsEvidence vs
    by (items ws) has is = subst HaveItemsEvidence (sym (ap (the_value vs) is)) has
    by (formula a) has is = absurd (cc)
    by (truth b) has is = absurd (cc)
    by (number n) has is = absurd (cc)
    by (text t) has is = absurd (cc)
    by (logic l) has is = absurd (cc)
    by (certificate l a e) has is = absurd (cc)
    by naught has is = absurd (cc)

choice_keeps : (first second : Act) → Keeps first → Keeps second → (b : Bool) → Keeps (Choice first second b)
choice_keeps first second a b true = a
choice_keeps first second a b false = b

mutual
  does_keeps : (line : ℕ) (kind : tree.Kind) → Keeps (Does line kind)
  does_keeps line (tree.assign x a) = with_keeps line _ (Assigns x) (λ env v have got. assigns_keeps x v (eval_evident env a v have got))
  does_keeps line (tree.print es) = with_keeps line _ (Prints line) (λ env vs have got. prints_keeps line vs)
  does_keeps line (tree.choose a first second) = with_keeps line _ (Choice (Run first) (Run second)) (λ env b have got. choice_keeps (Run first) (Run second) (run_keeps first) (run_keeps second) b)
  does_keeps line (tree.count_up x a b body) =
      with_keeps line _ _ (λ env n have got. turns_keep line x (Run body) (run_keeps body) _ (numbers_have_evidence n.0 (n.1 + 1 - n.0)))
  does_keeps line (tree.each x a body) = with_keeps line _ _ (λ env vs have got. turns_keep line x (Run body) (run_keeps body) vs (list_items_evident a env vs have got))
  does_keeps line (tree.repeat a body) = repeats_keep line (Condition a) (Run body) (run_keeps body)

  pub statement_keeps : (s : tree.Statement) → Keeps (DoesStep s)
  statement_keeps (tree.at line kind) = step_keeps line (Does line kind) (does_keeps line kind)

  pub run_keeps : (ss : tree.Statements) → Keeps (Run ss)
  run_keeps tree.over = nothing_keeps
  run_keeps (tree.then s ss) = then_keeps (DoesStep s) (Run ss) (statement_keeps s) (run_keeps ss)
