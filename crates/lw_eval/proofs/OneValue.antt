-- An expression that calls no function that may choose comes to at most one value or trouble.
use Rattle.std.proofs.Common.{◌≡◌, ◌≢◌, ℕ, zero, suc, ◌-◌, ◌^◌, min, Bool, true, false, List, [], ◌∷◌, refl, sym, ap, ◌∙◌, subst, arith}
use Rattle.std.specs.Prelude.{nat_le, nat_lt}
use Rattle.std.proofs.Math.Nat.{le_antisymm}
use Rattle.lw_formula.specs.Formula.{Formula, letter, falsum, verum, depth, subformula_count}
use Rattle.lw_formula.specs.Joint.{join}
use Rattle.lw_formula.specs.Variables.{replace}
use Rattle.lw_formula.specs.Validity.{Valid}
use Rattle.lw_formula.specs.declared.logic.Logic.{Logic}
use Rattle.lw_proof.specs.Tree.{lines}
use Rattle.lw_normal.specs.NegationNormalForm.{nnf}
use Rattle.lw_normal.specs.Simplification.{simplify}
use Rattle.lw_trans.specs.declared.connective.Connective.{Connective}
use Rattle.lw_trans.specs.declared.connective.Connective.TheVariants as connective
use Rattle.lw_trans.specs.Connectives.{naming_place}
use Rattle.lw_trans.specs.Translations.{boxdot}
use Rattle.lw_ast.specs.declared.function.Function.{Function}
use Rattle.lw_ast.specs.declared.function.Function.TheVariants.{Provable, Certificate, Interpolate, Fixpoint, Nnf, Simplify, Goedel, Boxdot, Substitute, Vars, Depth, Count, Length, Item, Append, Smallest, Trace, Letterless, Shared}
use Rattle.lw_ast.specs.declared.operator.Link.TheVariants as link
use Rattle.lw_ast.specs.declared.operator.Relation.{Relation}
use Rattle.lw_ast.specs.declared.operator.Relation.TheVariants.{Equal, Unequal, Less, AtMost}
use Rattle.lw_ast.specs.Trees as tree
use Rattle.lw_ast.specs.Trees.{Expression, Expressions, Operands}
use Rattle.lw_value.specs.Values.{Evidence, proved, refuted, Val, Vals, items, formula, truth, number, text, logic, naught, empty, item, vals, item_at, with_last}
use Rattle.lw_value.specs.Assignments.{value_at}
use Rattle.lw_value.specs.ValueTexts.{count_of}
use Rattle.lw_eval.specs.declared.trouble.Trouble.{Trouble}
use Rattle.lw_eval.specs.declared.trouble.Trouble.TheVariants.{NotIntuitionistic, NotLetterless, Range, Unbound}
use Rattle.lw_eval.specs.Evaluations.{Evaluation, Got, Fails, found_or, Is, Given, Bind, Pair, Tells}
use Rattle.lw_eval.specs.Operands.{formula_in, variable_in, truth_in, number_in, list_in, logic_in, certificate_in, any_in, both, one, two, three}
use Rattle.lw_eval.specs.Operators.{prefixed_by, Prefixes, Joins, calculated, Calculates, Compared, Compares, Tests, Truth, Both, Either, list_of}
use Rattle.lw_trace.specs.LetterlessForm.{letterless_of}
use Rattle.lw_eval.specs.Calls.{Decided, Traced, trace_values, Fixes, Translates, Shares, Lists, Calls}
use Rattle.lw_eval.specs.Expressions.{Variables, Eval, Chain, Evals}
use Rattle.lw_eval.specs.Private.Given.{letters_of}
use Rattle.lw_eval.specs.Plain.{GivesOne, IsPlain, ArePlain, AreOperandsPlain}
use Rattle.lw_share.proofs.CountedSets.{one_count}
use Rattle.lw_eval.proofs.NamesInOrder.{one_list_of_variables, one_first_variable}

-- no two values, no two troubles, and no value beside a trouble
abbrev pub IsOne : {A : Type 0} → (Evaluation A → Type 0) → Type 0
IsOne {A} p = (r s : Evaluation A) → p r → p s → r ≡ s

abbrev pub got_or_else : {A : Type 0} → A → Evaluation A → A
got_or_else v (Got w) = w
got_or_else v (Fails t) = v

pub got_is_no_trouble : {A : Type 0} (v : A) (t : Trouble) → Got v ≡ Fails t → ⊥
got_is_no_trouble v t e = cc

-- the trouble of one evaluation as that of another
abbrev trouble_in : {A B : Type 0} → Evaluation B → Evaluation A → Evaluation B
trouble_in e (Got v) = e
trouble_in e (Fails t) = Fails t

pub one_is : {A : Type 0} (e : Evaluation A) → IsOne (Is e)
one_is e r s h k = h ∙ sym k

pub one_bind : {A B : Type 0} (first : Evaluation A → Type 0) (second : A → Evaluation B → Type 0) → IsOne first → ((v : A) → IsOne (second v)) → IsOne (Bind first second)
one_bind first second sole each r s (Bind.fails h) (Bind.fails k) = ap (trouble_in r) (sole _ _ h k)
one_bind first second sole each r s (Bind.fails h) (Bind.goes w k l) = absurd (got_is_no_trouble w _ (sole _ _ k h))
one_bind first second sole each r s (Bind.goes v h l) (Bind.fails k) = absurd (got_is_no_trouble v _ (sole _ _ h k))
one_bind first second sole each r s (Bind.goes v h l) (Bind.goes w k m) =
    each v r s l (subst (λ x. second x s) (ap (got_or_else v) (sole (Got w) (Got v) k h)) m)

one_given : {A B : Type 0} (e : Evaluation A) (second : A → Evaluation B → Type 0) → ((v : A) → IsOne (second v)) → IsOne (Given e second)
one_given (Got v) second each r s h k = each v r s h k
one_given (Fails t) second each r s h k = h ∙ sym k

pub one_pair : {A B : Type 0} (left : Evaluation A → Type 0) (right : Evaluation B → Type 0) → IsOne left → IsOne right → IsOne (Pair left right)
one_pair left right sole other = one_bind left (λ x. Bind right (λ y. Is (Got (x, y)))) sole (λ x. one_bind right (λ y. Is (Got (x, y))) other (λ y. one_is (Got (x, y))))

-- truth values
one_tells : (P : Type 0) → IsOne (Tells P)
one_tells P r s (Tells.holds p) (Tells.holds q) = refl
one_tells P r s (Tells.holds p) (Tells.fails_to q) = absurd (q p)
one_tells P r s (Tells.fails_to p) (Tells.holds q) = absurd (p q)
one_tells P r s (Tells.fails_to p) (Tells.fails_to q) = refl

pub one_tests : (value : Evaluation (Val Formula) → Type 0) → IsOne value → IsOne (Tests value)
one_tests value sole = one_bind value (λ v. Is (truth_in v)) sole (λ v. one_is (truth_in v))

one_truth : (test : Evaluation Bool → Type 0) → IsOne test → IsOne (Truth test)
one_truth test sole = one_bind test (λ b. Is (Got (truth b))) sole (λ b. one_is (Got (truth b)))

one_both : (right : Evaluation (Val Formula) → Type 0) → IsOne right → (b : Bool) → IsOne (Both b right)
one_both right sole true = one_truth (Tests right) (one_tests right sole)
one_both right sole false = one_is (Got (truth false))

one_either : (right : Evaluation (Val Formula) → Type 0) → IsOne right → (b : Bool) → IsOne (Either b right)
one_either right sole true = one_is (Got (truth true))
one_either right sole false = one_truth (Tests right) (one_tests right sole)

-- comparisons
one_compared : (v w : Val Formula) (answer : Evaluation (Val Formula) → Type 0) → IsOne answer → IsOne (Compared v w answer)
one_compared v w answer sole r s (Compared.plain a b h) (Compared.plain c d k) = sole r s h k
one_compared v w answer sole r s (Compared.plain a b h) (Compared.certified not) = absurd (not (a, b))
one_compared v w answer sole r s (Compared.certified not) (Compared.plain a b h) = absurd (not (a, b))
one_compared v w answer sole r s (Compared.certified not) (Compared.certified nor) = refl

one_compares : (r : Relation) (v w : Val Formula) → IsOne (Compares r v w)
one_compares Equal v w = one_compared v w (Tells (v ≡ w)) (one_tells (v ≡ w))
one_compares Unequal v w = one_compared v w (Tells (v ≢ w)) (one_tells (v ≢ w))
one_compares Less v w = one_given (both (number_in v) (number_in w)) (λ n. Is (Got (truth (nat_lt n.0 n.1)))) (λ n. one_is (Got (truth (nat_lt n.0 n.1))))
one_compares AtMost v w = one_given (both (number_in v) (number_in w)) (λ n. Is (Got (truth (nat_le n.0 n.1)))) (λ n. one_is (Got (truth (nat_le n.0 n.1))))

-- functions
one_decided : (a : Formula) (answer : Evaluation (Val Formula) → Type 0) → IsOne answer → IsOne (Decided a answer)
one_decided a answer sole r s (Decided.decided l h) (Decided.decided m k) = sole r s h k
one_decided a answer sole r s (Decided.decided l h) (Decided.too_large m) = let bad : ⊥ = omega (arith, l, m) in absurd bad
one_decided a answer sole r s (Decided.too_large l) (Decided.decided m k) = let bad : ⊥ = omega (arith, l, m) in absurd bad
one_decided a answer sole r s (Decided.too_large l) (Decided.too_large m) = refl

one_fixes : (p : List ℕ) (a : Formula) → IsOne (Fixes p a)
one_fixes p a r s (Fixes.fixed h) (Fixes.fixed k) = refl
one_fixes p a r s (Fixes.fixed h) (Fixes.bare k) = absurd (h.0 k)
one_fixes p a r s (Fixes.fixed h) (Fixes.many k m) = let few = h.1 in let bad : ⊥ = omega (arith, few, m) in absurd bad
one_fixes p a r s (Fixes.bare h) (Fixes.fixed k) = absurd (k.0 h)
one_fixes p a r s (Fixes.bare h) (Fixes.bare k) = refl
one_fixes p a r s (Fixes.bare h) (Fixes.many k m) = absurd (k h)
one_fixes p a r s (Fixes.many h m) (Fixes.fixed k) = let few = k.1 in let bad : ⊥ = omega (arith, few, m) in absurd bad
one_fixes p a r s (Fixes.many h m) (Fixes.bare k) = absurd (h k)
one_fixes p a r s (Fixes.many h m) (Fixes.many k n) = refl

-- the connective that is named in this place
abbrev named_at : ℕ → Connective
named_at zero = connective.Nec
named_at (suc zero) = connective.Poss
named_at (suc (suc zero)) = connective.Iff
named_at (suc (suc (suc n))) = connective.Top

named_at_its_place : (what : Connective) → named_at (naming_place what) ≡ what
named_at_its_place connective.Nec = refl
named_at_its_place connective.Poss = refl
named_at_its_place connective.Iff = refl
named_at_its_place connective.Top = refl

one_translates : (a : Formula) → IsOne (Translates a)
one_translates a r s (Translates.translated h) (Translates.translated k) = refl
one_translates a r s (Translates.translated h) (Translates.modal what k) = absurd (h what k.stands)
one_translates a r s (Translates.modal what h) (Translates.translated k) = absurd (k what h.stands)
one_translates a r s (Translates.modal what h) (Translates.modal other k) =
    let same = le_antisymm (h.first other k.stands) (k.first what h.stands) in
    ap (λ c. Fails (NotIntuitionistic c)) (sym (named_at_its_place what) ∙ ap named_at same ∙ named_at_its_place other)

one_shares : (l : Logic) (a : Formula) (e : Evidence Formula) → IsOne (Shares l a e)
one_shares l a (proved P) _ _ (Shares.proof m counts) (Shares.proof n recounts) =
    ap (λ k. Got (items (vals (number (min (lines P) (2 ^ 64 - 1)) ∷ number k ∷ [])))) (one_count l a P m n counts recounts)
one_shares l a (refuted m w) _ _ Shares.model Shares.model = refl

one_lists : (a : Formula) → IsOne (Lists a)
one_lists a r s (Lists.lists names h l) (Lists.lists others k m) =
    l ∙ ap (λ ps. list_of (vals (letters_of ps))) (one_list_of_variables a names others h k) ∙ sym m

one_traced : (a : Formula) (answer : Evaluation (Val Formula) → Type 0) → IsOne answer → IsOne (Traced a answer)
one_traced a answer sole r s (Traced.traced h k) (Traced.traced l m) = sole r s k m
one_traced a answer sole r s (Traced.traced h k) (Traced.lettered p first) = absurd (h p first.occurs)
one_traced a answer sole r s (Traced.lettered p first) (Traced.traced l m) = absurd (l p first.occurs)
one_traced a answer sole r s (Traced.lettered p first) (Traced.lettered q second) = ap (λ x. Fails (NotLetterless x)) (one_first_variable a p q first second)

one_call : (f : Function) (vs : Vals Formula) → GivesOne f → IsOne (Calls f vs)
one_call Provable vs gives = one_given (two logic_in formula_in vs) _ (λ x. one_decided x.1 _ (one_tells (Valid x.0 x.1)))
one_call Certificate vs gives = absurd gives
one_call Interpolate vs gives = absurd gives
one_call Fixpoint vs gives = one_given (two variable_in formula_in vs) _ (λ x. one_fixes x.0 x.1)
one_call Nnf vs gives = one_given (one formula_in vs) _ (λ a. one_is (Got (formula (nnf a))))
one_call Simplify vs gives = one_given (one formula_in vs) _ (λ a. one_is (Got (formula (simplify a))))
one_call Goedel vs gives = one_given (one formula_in vs) _ (λ a. one_translates a)
one_call Boxdot vs gives = one_given (one formula_in vs) _ (λ a. one_is (Got (formula (boxdot a))))
one_call Substitute vs gives = one_given (three formula_in variable_in formula_in vs) _ (λ x. one_is (Got (formula (replace x.1.0 x.1.1 x.0))))
one_call Vars vs gives = one_given (one formula_in vs) _ (λ a. one_lists a)
one_call Depth vs gives = one_given (one formula_in vs) _ (λ a. one_is (Got (number (depth a))))
one_call Count vs gives = one_given (one formula_in vs) _ (λ a. one_is (Got (number (subformula_count a))))
one_call Length vs gives = one_given (one list_in vs) _ (λ xs. one_is (Got (number (count_of xs))))
one_call Item vs gives = one_given (two list_in number_in vs) _ (λ x. one_is (found_or Range (item_at x.0 x.1)))
one_call Append vs gives = one_given (two list_in any_in vs) _ (λ x. one_is (list_of (with_last x.0 x.1)))
one_call Smallest vs gives = absurd gives
one_call Trace vs gives = one_given (one formula_in vs) _ (λ a. one_traced a _ (one_decided a _ (one_is (list_of (vals (trace_values a))))))
one_call Letterless vs gives = one_given (one formula_in vs) _ (λ a. one_traced a _ (one_decided a _ (one_is (Got (formula (letterless_of a))))))
one_call Shared vs gives = one_given (one certificate_in vs) _ (λ c. one_shares c.0 c.1 c.2)

mutual
  pub one_value : (env : Variables) (a : Expression) → IsPlain a → IsOne (Eval env a)
  one_value env (tree.number n) plain = one_is (Got (number n))
  one_value env (tree.text bytes) plain = one_is (Got (text bytes))
  one_value env (tree.truth b) plain = one_is (Got (truth b))
  one_value env tree.nothing plain = one_is (Got naught)
  one_value env (tree.upper x) plain = one_is (found_or (Unbound x) (value_at env x))
  one_value env (tree.logic l) plain = one_is (Got (logic l))
  one_value env (tree.variable p) plain = one_is (Got (formula (letter p)))
  one_value env tree.bot plain = one_is (Got (formula falsum))
  one_value env tree.top plain = one_is (Got (formula verum))
  one_value env (tree.prefixed sign a) plain =
      one_bind (Eval env a) (Prefixes sign) (one_value env a plain) (λ v. one_given (formula_in v) _ (λ b. one_is (Got (formula (prefixed_by sign b)))))
  one_value env (tree.linked link.Either a b) plain =
      one_bind (Tests (Eval env a)) (λ t. Either t (Eval env b)) (one_tests (Eval env a) (one_value env a plain.0)) (one_either (Eval env b) (one_value env b plain.1))
  one_value env (tree.linked link.Both a b) plain =
      one_bind (Tests (Eval env a)) (λ t. Both t (Eval env b)) (one_tests (Eval env a) (one_value env a plain.0)) (one_both (Eval env b) (one_value env b plain.1))
  one_value env (tree.linked (link.Binary j) a b) plain =
      one_bind (Pair (Eval env a) (Eval env b)) (λ v. Joins j v.0 v.1) (one_pair (Eval env a) (Eval env b) (one_value env a plain.0) (one_value env b plain.1))
      (λ v. one_given (both (formula_in v.0) (formula_in v.1)) _ (λ c. one_is (Got (formula (join j c.0 c.1)))))
  one_value env (tree.chained k a bs) plain = one_bind (Eval env a) (λ v. Chain env v bs) (one_value env a plain.0) (λ v. one_chain env v bs plain.1)
  one_value env (tree.compared r a b) plain =
      one_bind (Pair (Eval env a) (Eval env b)) (λ v. Compares r v.0 v.1) (one_pair (Eval env a) (Eval env b) (one_value env a plain.0) (one_value env b plain.1))
      (λ v. one_compares r v.0 v.1)
  one_value env (tree.denied a) plain = one_bind (Tests (Eval env a)) _ (one_tests (Eval env a) (one_value env a plain)) (λ b. one_is _)
  one_value env (tree.list es) plain = one_bind (Evals env es) (λ vs. Is (list_of vs)) (one_values env es plain) (λ vs. one_is (list_of vs))
  one_value env (tree.call f es) plain = one_bind (Evals env es) (Calls f) (one_values env es plain.1) (λ vs. one_call f vs plain.0)

  one_chain : (env : Variables) (v : Val Formula) (bs : Operands) → AreOperandsPlain bs → IsOne (Chain env v bs)
  one_chain env v tree.no_more plain = one_is (Got v)
  one_chain env v (tree.signed s b bs) plain =
      one_bind (Bind (Eval env b) (Calculates s v)) (λ w. Chain env w bs)
      (one_bind (Eval env b) (Calculates s v) (one_value env b plain.0) (λ w. one_given (both (number_in v) (number_in w)) _ (λ n. one_is (calculated s n.0 n.1))))
      (λ w. one_chain env w bs plain.1)

  pub one_values : (env : Variables) (es : Expressions) → ArePlain es → IsOne (Evals env es)
  one_values env tree.none plain = one_is (Got empty)
  one_values env (tree.more e es) plain =
      one_bind (Eval env e) (λ v. Bind (Evals env es) (λ vs. Is (Got (item v vs)))) (one_value env e plain.0)
      (λ v. one_bind (Evals env es) (λ vs. Is (Got (item v vs))) (one_values env es plain.1) (λ vs. one_is (Got (item v vs))))
