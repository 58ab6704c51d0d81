use Rattle.std.proofs.Common.{◌∙◌, List, ap, sym, subst, arith, refl}
use Rattle.lw_eval.specs.Evaluations.Bind.{goes}
use Rattle.lw_ast.specs.declared.operator.Prefix.TheVariants as sign
use Rattle.lw_ast.specs.declared.operator.Series.TheVariants as series
use Rattle.lw_ast.specs.declared.operator.Link.TheVariants as link
use Rattle.lw_ast.specs.declared.expr.Expr.TheOpen.{Expr-F}
use Rattle.lw_ast.specs.declared.expr.Expr.TheVariants as shape
use Rattle.lw_ast.specs.Trees as tree
use Rattle.lw_ast.specs.ScriptViews.{expression, expressions, operands}
use Rattle.lw_value.specs.Assignments.{variables_seen}
use Rattle.lw_eval.specs.Private.Sizes.{size}
use Rattle.lw_eval.proofs.EvaluationsInTurn.{bind_faults, bind_gives, evaluated, failed, valued, handed_on, both_faults, either_faults, both_tests, either_tests, both_decided, either_decided, faults_before, test_faults_before, value_before, test_before, called}
use Rattle.lw_eval.proofs.EvaluationsRepeated.{size_within, operand_size_within, left_faults, all_fault, left_value, left_trouble, operand_faults, calculation_faults, series_fault, next_total, paired, pair_right_faults, pushed_live, pushed_values, all_values, whole_total, total_faults_before, total_before}
use Rattle.lw_pool.proofs.RegionGrowth.{Grows-trans}
use Rattle.lw_value.proofs.GrowingPools.{seen_grows, live_grows, items_seen_grow, items_live_grow, variables_seen_grow, variables_live_grow, variables_evidence_grows}
use Rattle.lw_pool.specs.declared.id.FormId.{FormId}
use Rattle.lw_value.specs.Values.{Val, vals, seen_all}
use Rattle.lw_value.specs.Views.{value_of}
use Rattle.lw_eval.specs.Evaluations.{Pair}
use Rattle.lw_eval.specs.Operators.{Tests}
use Rattle.lw_eval.specs.Expressions.{Eval, Evals}
use Rattle.lw_eval.specs.Private.Given.{shown_in}
use Rattle.lw_eval.specs.Private.Remaining.{Series}
use Rattle.lw_eval.specs.Private.Carried.{HaveItemsEvidence}
use Rattle.lw_eval.proofs.EvidenceKept.{evals_evident}
use Rattle.lw_eval.proofs.ExpressionsSeen.{built}
use Rattle.lw_eval.proofs.eval.+eval.Goals as goal

pub eval-returns-in_err-eval-in-Not-clause-value : goal.eval-returns-in_err-eval-in-Not-clause-value
eval-returns-in_err-eval-in-Not-clause-value t c = failed c.eval.new.pool (variables_seen c.args.pool.now c.args.env.now) _ _ c.in_err-eval-in-Not.field-0.0 _ c.from_residual-in_err-eval-in-Not.ensures.1
    (ap expression c.in-Not.is ∙ ap expression (sym (shape.rolls-Not c.in-Not.a)) ∙ built (Expr-F.Not c.in-Not.a) ∙ sym (λ i. tree.prefixed sign.Not (expression (c.deref.ensures i))))
    (bind_faults _ _ _ c.in_err-eval-in-Not.ensures.value)

pub eval-returns-in_ok-eval-in-Not-clause-value : goal.eval-returns-in_ok-eval-in-Not-clause-value
eval-returns-in_ok-eval-in-Not-clause-value t c = evaluated _ _ _ _ _ (ap expression c.in-Not.is ∙ ap expression (sym (shape.rolls-Not c.in-Not.a)) ∙ built (Expr-F.Not c.in-Not.a) ∙ sym (λ i. tree.prefixed sign.Not (expression (c.deref.ensures i))))
    (bind_gives _ _ _ _ _ c.in_ok-eval-in-Not.ensures.value c.prefixed.ensures.value)

pub eval-returns-in_err-eval-in-Nec-clause-value : goal.eval-returns-in_err-eval-in-Nec-clause-value
eval-returns-in_err-eval-in-Nec-clause-value t c = failed c.eval-in-Nec.new.pool (variables_seen c.args.pool.now c.args.env.now) _ _ c.in_err-eval-in-Nec.field-0.0 _ c.from_residual-in_err-eval-in-Nec.ensures.1
    (ap expression c.in-Nec.is ∙ ap expression (sym (shape.rolls-Nec c.in-Nec.a)) ∙ built (Expr-F.Nec c.in-Nec.a) ∙ sym (λ i. tree.prefixed sign.Nec (expression (c.deref-in-Nec.ensures i))))
    (bind_faults _ _ _ c.in_err-eval-in-Nec.ensures.value)

pub eval-returns-in_ok-eval-in-Nec-clause-value : goal.eval-returns-in_ok-eval-in-Nec-clause-value
eval-returns-in_ok-eval-in-Nec-clause-value t c = evaluated _ _ _ _ _ (ap expression c.in-Nec.is ∙ ap expression (sym (shape.rolls-Nec c.in-Nec.a)) ∙ built (Expr-F.Nec c.in-Nec.a) ∙ sym (λ i. tree.prefixed sign.Nec (expression (c.deref-in-Nec.ensures i))))
    (bind_gives _ _ _ _ _ c.in_ok-eval-in-Nec.ensures.value c.prefixed-in-Nec.ensures.value)

pub eval-returns-in_err-eval-in-Poss-clause-value : goal.eval-returns-in_err-eval-in-Poss-clause-value
eval-returns-in_err-eval-in-Poss-clause-value t c = failed c.eval-in-Poss.new.pool (variables_seen c.args.pool.now c.args.env.now) _ _ c.in_err-eval-in-Poss.field-0.0 _ c.from_residual-in_err-eval-in-Poss.ensures.1
    (ap expression c.in-Poss.is ∙ ap expression (sym (shape.rolls-Poss c.in-Poss.a)) ∙ built (Expr-F.Poss c.in-Poss.a) ∙ sym (λ i. tree.prefixed sign.Poss (expression (c.deref-in-Poss.ensures i))))
    (bind_faults _ _ _ c.in_err-eval-in-Poss.ensures.value)

pub eval-returns-in_ok-eval-in-Poss-clause-value : goal.eval-returns-in_ok-eval-in-Poss-clause-value
eval-returns-in_ok-eval-in-Poss-clause-value t c = evaluated _ _ _ _ _ (ap expression c.in-Poss.is ∙ ap expression (sym (shape.rolls-Poss c.in-Poss.a)) ∙ built (Expr-F.Poss c.in-Poss.a) ∙ sym (λ i. tree.prefixed sign.Poss (expression (c.deref-in-Poss.ensures i))))
    (bind_gives _ _ _ _ _ c.in_ok-eval-in-Poss.ensures.value c.prefixed-in-Poss.ensures.value)

pub eval-returns-in_err-eval_pair-in-Binary-clause-value : goal.eval-returns-in_err-eval_pair-in-Binary-clause-value
eval-returns-in_err-eval_pair-in-Binary-clause-value t c = failed c.eval_pair.new.pool (variables_seen c.args.pool.now c.args.env.now) _ _ c.in_err-eval_pair-in-Binary.field-0.0 _ c.from_residual-in_err-eval_pair-in-Binary.ensures.1
    (ap expression c.in-Binary.is ∙ ap expression (sym (shape.rolls-Binary c.in-Binary.joint c.in-Binary.a c.in-Binary.b)) ∙ built (Expr-F.Binary c.in-Binary.joint c.in-Binary.a c.in-Binary.b) ∙ sym (λ i. tree.linked (link.Binary c.in-Binary.joint) (expression (c.deref-in-Binary.ensures i)) (expression (c.deref-in-Binary-2.ensures i))))
    (bind_faults _ _ _ c.in_err-eval_pair-in-Binary.ensures.value)

pub eval-returns-in_ok-eval_pair-in-Binary-clause-value : goal.eval-returns-in_ok-eval_pair-in-Binary-clause-value
eval-returns-in_ok-eval_pair-in-Binary-clause-value t c = evaluated _ _ _ _ _ (ap expression c.in-Binary.is ∙ ap expression (sym (shape.rolls-Binary c.in-Binary.joint c.in-Binary.a c.in-Binary.b)) ∙ built (Expr-F.Binary c.in-Binary.joint c.in-Binary.a c.in-Binary.b) ∙ sym (λ i. tree.linked (link.Binary c.in-Binary.joint) (expression (c.deref-in-Binary.ensures i)) (expression (c.deref-in-Binary-2.ensures i))))
    (bind_gives _ _ _ _ _ c.in_ok-eval_pair-in-Binary.ensures.value c.joined.ensures.value)

pub eval-returns-in-Sum-clause-value : goal.eval-returns-in-Sum-clause-value
eval-returns-in-Sum-clause-value t c = evaluated _ _ _ _ _ (ap expression c.in-Sum.is ∙ ap expression (sym (shape.rolls-Sum c.in-Sum.a c.in-Sum.terms)) ∙ built (Expr-F.Sum c.in-Sum.a c.in-Sum.terms) ∙ sym (λ i. tree.chained series.Sum (expression (c.deref-in-Sum.ensures i)) (operands c.in-Sum.terms)))
    c.eval_series.ensures.value

pub eval-returns-in-Product-clause-value : goal.eval-returns-in-Product-clause-value
eval-returns-in-Product-clause-value t c = evaluated _ _ _ _ _ (ap expression c.in-Product.is ∙ ap expression (sym (shape.rolls-Product c.in-Product.a c.in-Product.terms)) ∙ built (Expr-F.Product c.in-Product.a c.in-Product.terms) ∙ sym (λ i. tree.chained series.Product (expression (c.deref-in-Product.ensures i)) (operands c.in-Product.terms)))
    c.eval_series-in-Product.ensures.value

pub eval-returns-in_err-operands-in-Compare-clause-value : goal.eval-returns-in_err-operands-in-Compare-clause-value
eval-returns-in_err-operands-in-Compare-clause-value t c = failed c.eval_pair-in-Compare.new.pool (variables_seen c.args.pool.now c.args.env.now) _ _ c.in_err-operands-in-Compare.field-0.0 _ c.from_residual-in_err-operands-in-Compare.ensures.1
    (ap expression c.in-Compare.is ∙ ap expression (sym (shape.rolls-Compare c.in-Compare.relation c.in-Compare.a c.in-Compare.b)) ∙ built (Expr-F.Compare c.in-Compare.relation c.in-Compare.a c.in-Compare.b) ∙ sym (λ i. tree.compared c.in-Compare.relation (expression (c.deref-in-Compare.ensures i)) (expression (c.deref-in-Compare-2.ensures i))))
    (bind_faults _ _ _ c.in_err-operands-in-Compare.ensures.value)

pub eval-returns-in_ok-operands-in-Compare-clause-value : goal.eval-returns-in_ok-operands-in-Compare-clause-value
eval-returns-in_ok-operands-in-Compare-clause-value t c = evaluated _ _ _ _ _ (ap expression c.in-Compare.is ∙ ap expression (sym (shape.rolls-Compare c.in-Compare.relation c.in-Compare.a c.in-Compare.b)) ∙ built (Expr-F.Compare c.in-Compare.relation c.in-Compare.a c.in-Compare.b) ∙ sym (λ i. tree.compared c.in-Compare.relation (expression (c.deref-in-Compare.ensures i)) (expression (c.deref-in-Compare-2.ensures i))))
    (bind_gives _ _ _ _ _ c.in_ok-operands-in-Compare.ensures.value c.compared.ensures.value)

pub eval-returns-in_err-eval_test-in-Deny-clause-value : goal.eval-returns-in_err-eval_test-in-Deny-clause-value
eval-returns-in_err-eval_test-in-Deny-clause-value t c = failed c.eval_test.new.pool (variables_seen c.args.pool.now c.args.env.now) _ _ c.in_err-eval_test-in-Deny.field-0.0 _ c.from_residual-in_err-eval_test-in-Deny.ensures.1
    (ap expression c.in-Deny.is ∙ ap expression (sym (shape.rolls-Deny c.in-Deny.a)) ∙ built (Expr-F.Deny c.in-Deny.a) ∙ sym (λ i. tree.denied (expression (c.deref-in-Deny.ensures i))))
    (bind_faults _ _ _ c.in_err-eval_test-in-Deny.ensures.value)

pub eval-returns-in_ok-eval_test-in-Deny-clause-value : goal.eval-returns-in_ok-eval_test-in-Deny-clause-value
eval-returns-in_ok-eval_test-in-Deny-clause-value t c =
    valued _ _ _ _ (ap expression c.in-Deny.is ∙ ap expression (sym (shape.rolls-Deny c.in-Deny.a)) ∙ built (Expr-F.Deny c.in-Deny.a) ∙ sym (λ i. tree.denied (expression (c.deref-in-Deny.ensures i))))
    (goes c.in_ok-eval_test-in-Deny.field-0 c.in_ok-eval_test-in-Deny.ensures.value refl)

pub eval-returns-in_err-eval_all-in-List-clause-value : goal.eval-returns-in_err-eval_all-in-List-clause-value
eval-returns-in_err-eval_all-in-List-clause-value t c = failed c.eval_all.new.pool (variables_seen c.args.pool.now c.args.env.now) _ _ c.in_err-eval_all-in-List.field-0.0 _ c.from_residual-in_err-eval_all-in-List.ensures.1
    (ap expression c.in-List.is ∙ ap expression (sym (shape.rolls-List c.in-List.items)) ∙ built (Expr-F.List c.in-List.items))
    (bind_faults _ _ _ c.in_err-eval_all-in-List.ensures.value)

pub eval-returns-in_err-arguments-in-Call-clause-value : goal.eval-returns-in_err-arguments-in-Call-clause-value
eval-returns-in_err-arguments-in-Call-clause-value t c = failed c.eval_all-in-Call.new.pool (variables_seen c.args.pool.now c.args.env.now) _ _ c.in_err-arguments-in-Call.field-0.0 _ c.from_residual-in_err-arguments-in-Call.ensures.1
    (ap expression c.in-Call.is ∙ ap expression (sym (shape.rolls-Call c.in-Call.function c.in-Call.arguments)) ∙ built (Expr-F.Call c.in-Call.function c.in-Call.arguments))
    (bind_faults _ _ _ c.in_err-arguments-in-Call.ensures.value)

pub eval-returns-in-Upper-clause-value : goal.eval-returns-in-Upper-clause-value
eval-returns-in-Upper-clause-value t c = evaluated _ _ _ _ _ (ap expression c.in-Upper.is ∙ ap expression (sym (shape.rolls-Upper c.in-Upper.name)) ∙ built (Expr-F.Upper c.in-Upper.name)) (c.variable.ensures.value _)

pub eval-returns-in_err-eval_test-in-Both-clause-value : goal.eval-returns-in_err-eval_test-in-Both-clause-value
eval-returns-in_err-eval_test-in-Both-clause-value t c =
    failed c.eval_test-in-Both.new.pool (variables_seen c.args.pool.now c.args.env.now) _ _ c.in_err-eval_test-in-Both.field-0.0 _ c.from_residual-in_err-eval_test-in-Both.ensures.1
    (ap expression c.in-Both.is ∙ ap expression (sym (shape.rolls-Both c.in-Both.a c.in-Both.b)) ∙ built (Expr-F.Both c.in-Both.a c.in-Both.b) ∙ sym (λ i. tree.linked link.Both (expression (c.deref-in-Both.ensures i)) (expression c.in-Both.b.value)))
    (bind_faults _ _ _ c.in_err-eval_test-in-Both.ensures.value)

pub eval-returns-then-not-branch-clause-value : goal.eval-returns-then-not-branch-clause-value
eval-returns-then-not-branch-clause-value t c =
    valued (variables_seen c.args.pool.now c.args.env.now) _ _ _
    (ap expression c.in-Both.is ∙ ap expression (sym (shape.rolls-Both c.in-Both.a c.in-Both.b)) ∙ built (Expr-F.Both c.in-Both.a c.in-Both.b) ∙ sym (λ i. tree.linked link.Both (expression (c.deref-in-Both.ensures i)) (expression c.in-Both.b.value)))
    (both_decided _ _ c.in_ok-eval_test-in-Both.field-0 c.if-not-branch.true c.in_ok-eval_test-in-Both.ensures.value)

pub eval-eval_test-requires-in-Both-2 : goal.eval-eval_test-requires-in-Both-2
eval-eval_test-requires-in-Both-2 t c =
    (omega (arith, c.decreases, ap size (ap expression c.in-Both.is ∙ ap expression (sym (shape.rolls-Both c.in-Both.a c.in-Both.b)) ∙ built (Expr-F.Both c.in-Both.a c.in-Both.b) ∙ sym (λ i. tree.linked link.Both (expression (c.deref-in-Both.ensures i)) (expression (c.deref-in-Both-2.ensures i))))), (variables_live_grow c.args.pool.now c.eval_test-in-Both.new.pool c.args.env.now c.eval_test-in-Both.ensures.grows c.requires.live, variables_evidence_grows c.args.pool.now c.eval_test-in-Both.new.pool c.args.env.now c.eval_test-in-Both.ensures.grows c.requires.live c.requires.evidence))

pub eval-returns-in_err-eval_test-in-Both-2-clause-value : goal.eval-returns-in_err-eval_test-in-Both-2-clause-value
eval-returns-in_err-eval_test-in-Both-2-clause-value t c =
    failed c.eval_test-in-Both-2.new.pool (variables_seen c.args.pool.now c.args.env.now) _ _ c.in_err-eval_test-in-Both-2.field-0.0 _ c.from_residual-in_err-eval_test-in-Both-2.ensures.1
    (ap expression c.in-Both.is ∙ ap expression (sym (shape.rolls-Both c.in-Both.a c.in-Both.b)) ∙ built (Expr-F.Both c.in-Both.a c.in-Both.b) ∙ sym (λ i. tree.linked link.Both (expression (c.deref-in-Both.ensures i)) (expression (c.deref-in-Both-2.ensures i))))
    (both_faults _ _ c.in_ok-eval_test-in-Both.field-0 _ c.if-not-branch.false c.in_ok-eval_test-in-Both.ensures.value (test_faults_before _ _ _ _ (variables_seen_grow c.args.pool.now c.eval_test-in-Both.new.pool c.args.env.now c.eval_test-in-Both.ensures.grows c.requires.live) c.in_err-eval_test-in-Both-2.ensures.value))

pub eval-returns-in_ok-eval_test-in-Both-2-clause-value : goal.eval-returns-in_ok-eval_test-in-Both-2-clause-value
eval-returns-in_ok-eval_test-in-Both-2-clause-value t c =
    valued (variables_seen c.args.pool.now c.args.env.now) _ _ _
    (ap expression c.in-Both.is ∙ ap expression (sym (shape.rolls-Both c.in-Both.a c.in-Both.b)) ∙ built (Expr-F.Both c.in-Both.a c.in-Both.b) ∙ sym (λ i. tree.linked link.Both (expression (c.deref-in-Both.ensures i)) (expression (c.deref-in-Both-2.ensures i))))
    (both_tests _ _ c.in_ok-eval_test-in-Both.field-0 _ c.if-not-branch.false c.in_ok-eval_test-in-Both.ensures.value (test_before _ _ _ _ (variables_seen_grow c.args.pool.now c.eval_test-in-Both.new.pool c.args.env.now c.eval_test-in-Both.ensures.grows c.requires.live) c.in_ok-eval_test-in-Both-2.ensures.value))

pub eval-returns-in_err-eval_test-in-Either-clause-value : goal.eval-returns-in_err-eval_test-in-Either-clause-value
eval-returns-in_err-eval_test-in-Either-clause-value t c =
    failed c.eval_test-in-Either.new.pool (variables_seen c.args.pool.now c.args.env.now) _ _ c.in_err-eval_test-in-Either.field-0.0 _ c.from_residual-in_err-eval_test-in-Either.ensures.1
    (ap expression c.in-Either.is ∙ ap expression (sym (shape.rolls-Either c.in-Either.a c.in-Either.b)) ∙ built (Expr-F.Either c.in-Either.a c.in-Either.b) ∙ sym (λ i. tree.linked link.Either (expression (c.deref-in-Either.ensures i)) (expression c.in-Either.b.value)))
    (bind_faults _ _ _ c.in_err-eval_test-in-Either.ensures.value)

pub eval-returns-then-branch-clause-value : goal.eval-returns-then-branch-clause-value
eval-returns-then-branch-clause-value t c =
    valued (variables_seen c.args.pool.now c.args.env.now) _ _ _
    (ap expression c.in-Either.is ∙ ap expression (sym (shape.rolls-Either c.in-Either.a c.in-Either.b)) ∙ built (Expr-F.Either c.in-Either.a c.in-Either.b) ∙ sym (λ i. tree.linked link.Either (expression (c.deref-in-Either.ensures i)) (expression c.in-Either.b.value)))
    (either_decided _ _ c.in_ok-eval_test-in-Either.field-0 (c.if-branch.true) c.in_ok-eval_test-in-Either.ensures.value)

pub eval-eval_test-requires-in-Either-2 : goal.eval-eval_test-requires-in-Either-2
eval-eval_test-requires-in-Either-2 t c =
    (omega (arith, c.decreases, ap size (ap expression c.in-Either.is ∙ ap expression (sym (shape.rolls-Either c.in-Either.a c.in-Either.b)) ∙ built (Expr-F.Either c.in-Either.a c.in-Either.b) ∙ sym (λ i. tree.linked link.Either (expression (c.deref-in-Either.ensures i)) (expression (c.deref-in-Either-2.ensures i))))), (variables_live_grow c.args.pool.now c.eval_test-in-Either.new.pool c.args.env.now c.eval_test-in-Either.ensures.grows c.requires.live, variables_evidence_grows c.args.pool.now c.eval_test-in-Either.new.pool c.args.env.now c.eval_test-in-Either.ensures.grows c.requires.live c.requires.evidence))

pub eval-returns-in_err-eval_test-in-Either-2-clause-value : goal.eval-returns-in_err-eval_test-in-Either-2-clause-value
eval-returns-in_err-eval_test-in-Either-2-clause-value t c =
    failed c.eval_test-in-Either-2.new.pool (variables_seen c.args.pool.now c.args.env.now) _ _ c.in_err-eval_test-in-Either-2.field-0.0 _ c.from_residual-in_err-eval_test-in-Either-2.ensures.1
    (ap expression c.in-Either.is ∙ ap expression (sym (shape.rolls-Either c.in-Either.a c.in-Either.b)) ∙ built (Expr-F.Either c.in-Either.a c.in-Either.b) ∙ sym (λ i. tree.linked link.Either (expression (c.deref-in-Either.ensures i)) (expression (c.deref-in-Either-2.ensures i))))
    (either_faults _ _ c.in_ok-eval_test-in-Either.field-0 _ (c.if-branch.false) c.in_ok-eval_test-in-Either.ensures.value (test_faults_before _ _ _ _ (variables_seen_grow c.args.pool.now c.eval_test-in-Either.new.pool c.args.env.now c.eval_test-in-Either.ensures.grows c.requires.live) c.in_err-eval_test-in-Either-2.ensures.value))

pub eval-returns-in_ok-eval_test-in-Either-2-clause-value : goal.eval-returns-in_ok-eval_test-in-Either-2-clause-value
eval-returns-in_ok-eval_test-in-Either-2-clause-value t c =
    valued (variables_seen c.args.pool.now c.args.env.now) _ _ _
    (ap expression c.in-Either.is ∙ ap expression (sym (shape.rolls-Either c.in-Either.a c.in-Either.b)) ∙ built (Expr-F.Either c.in-Either.a c.in-Either.b) ∙ sym (λ i. tree.linked link.Either (expression (c.deref-in-Either.ensures i)) (expression (c.deref-in-Either-2.ensures i))))
    (either_tests _ _ c.in_ok-eval_test-in-Either.field-0 _ (c.if-branch.false) c.in_ok-eval_test-in-Either.ensures.value (test_before _ _ _ _ (variables_seen_grow c.args.pool.now c.eval_test-in-Either.new.pool c.args.env.now c.eval_test-in-Either.ensures.grows c.requires.live) c.in_ok-eval_test-in-Either-2.ensures.value))

pub eval-returns-in_ok-eval_all-in-List-clause-value : goal.eval-returns-in_ok-eval_all-in-List-clause-value
eval-returns-in_ok-eval_all-in-List-clause-value t c =
    evaluated _ (variables_seen c.args.pool.now c.args.env.now) _ _ _
    (ap expression c.in-List.is ∙ ap expression (sym (shape.rolls-List c.in-List.items)) ∙ built (Expr-F.List c.in-List.items))
    (bind_gives _ _ _ _ _ c.in_ok-eval_all-in-List.ensures.value (c.list_of.ensures.value _))

pub eval-call-requires-clause-evidence : goal.eval-call-requires-clause-evidence
eval-call-requires-clause-evidence t c = subst (λ (vs : List (Val FormId)). HaveItemsEvidence (seen_all c.eval_all-in-Call.new.pool (vals vs))) (sym c.as_slice.ensures)
    (evals_evident (variables_seen c.args.pool.now c.args.env.now) (expressions c.in-Call.arguments) _ c.requires.evidence c.in_ok-arguments-in-Call.ensures.value)

pub eval-returns-in_ok-arguments-in-Call-clause-value : goal.eval-returns-in_ok-arguments-in-Call-clause-value
eval-returns-in_ok-arguments-in-Call-clause-value t c =
    evaluated _ (variables_seen c.args.pool.now c.args.env.now) _ _ _
    (ap expression c.in-Call.is ∙ ap expression (sym (shape.rolls-Call c.in-Call.function c.in-Call.arguments)) ∙ built (Expr-F.Call c.in-Call.function c.in-Call.arguments))
    (bind_gives _ _ _ _ _ c.in_ok-arguments-in-Call.ensures.value
    (called c.eval_all-in-Call.new.pool c.call.new.pool c.in-Call.function c.as_slice.result.now _ _ c.as_slice.ensures c.call.ensures.value))

pub eval_test-returns-in_err-eval-clause-value : goal.eval_test-returns-in_err-eval-clause-value
eval_test-returns-in_err-eval-clause-value t c =
    handed_on (λ b. b) (Tests (Eval (variables_seen c.args.pool.now c.args.env.now) (expression c.args.expr.now))) c.in_err-eval.field-0.0 _ c.from_residual.ensures.1
    (bind_faults _ _ _ c.in_err-eval.ensures.value)

pub eval_test-returns-clause-value : goal.eval_test-returns-clause-value
eval_test-returns-clause-value t c =
    bind_gives (λ b. b) _ _ _ _ c.in_ok-eval.ensures.value (c.truth_in.ensures _)

pub eval_pair-returns-in_err-left-clause-value : goal.eval_pair-returns-in_err-left-clause-value
eval_pair-returns-in_err-left-clause-value t c =
    handed_on (λ v. (shown_in c.eval.new.pool v.0, shown_in c.eval.new.pool v.1)) (Pair (Eval (variables_seen c.args.pool.now c.args.env.now) (expression c.args.left.now)) (Eval (variables_seen c.args.pool.now c.args.env.now) (expression c.args.right.now))) c.in_err-left.field-0.0 _ c.from_residual.ensures.1
    (bind_faults _ _ _ c.in_err-left.ensures.value)

pub eval_pair-returns-in_err-right-clause-value : goal.eval_pair-returns-in_err-right-clause-value
eval_pair-returns-in_err-right-clause-value t c =
    handed_on (λ v. (shown_in c.eval-2.new.pool v.0, shown_in c.eval-2.new.pool v.1)) (Pair (Eval (variables_seen c.args.pool.now c.args.env.now) (expression c.args.left.now)) (Eval (variables_seen c.args.pool.now c.args.env.now) (expression c.args.right.now))) c.in_err-right.field-0.0 _ c.from_residual-in_err-right.ensures.1
    (pair_right_faults (variables_seen c.args.pool.now c.args.env.now) _ _ _ c.in_err-right.field-0.0 c.in_ok-left.ensures.value (faults_before (variables_seen c.args.pool.now c.args.env.now) _ _ _ (variables_seen_grow c.args.pool.now c.eval.new.pool c.args.env.now c.eval.ensures.grows c.requires.live) c.in_err-right.ensures.value))

pub eval_pair-returns-clause-value : goal.eval_pair-returns-clause-value
eval_pair-returns-clause-value t c =
    paired (variables_seen c.args.pool.now c.args.env.now) _ _ (shown_in c.eval.new.pool c.in_ok-left.left) _ _
    (seen_grows c.eval.new.pool c.eval-2.new.pool (value_of c.in_ok-left.left) c.eval-2.ensures.grows c.in_ok-left.ensures.live) c.in_ok-left.ensures.value
    (value_before (variables_seen c.args.pool.now c.args.env.now) _ _ _ (variables_seen_grow c.args.pool.now c.eval.new.pool c.args.env.now c.eval.ensures.grows c.requires.live) c.in_ok-right.ensures.value)

pub eval_pair-returns-clause-live : goal.eval_pair-returns-clause-live
eval_pair-returns-clause-live t c =
    (live_grows c.eval.new.pool c.eval-2.new.pool (value_of c.in_ok-left.left) c.eval-2.ensures.grows c.in_ok-left.ensures.live, c.in_ok-right.ensures.live)

pub eval_all-eval-requires : goal.eval_all-eval-requires
eval_all-eval-requires t c =
    (omega (arith, c.decreases, size_within c.loop-i.i (expressions c.args.exprs.now) (expression c.get.result.now) c.get.ensures), (c.loop-i.invariant.live, variables_evidence_grows c.args.pool.now c.loop-i.pool c.args.env.now c.loop-i.invariant.grows c.requires.live c.requires.evidence))

pub eval_all-returns-in_err-eval-clause-value : goal.eval_all-returns-in_err-eval-clause-value
eval_all-returns-in_err-eval-clause-value t c =
    handed_on (λ vs. seen_all c.eval.new.pool (vals vs)) (Evals (variables_seen c.args.pool.now c.args.env.now) (expressions c.args.exprs.now)) c.in_err-eval.field-0.0 _ c.from_residual.ensures.1
    (all_fault (variables_seen c.args.pool.now c.args.env.now) _ _ _ c.loop-i.invariant.trouble (left_faults (variables_seen c.args.pool.now c.args.env.now) c.loop-i.i (expressions c.args.exprs.now) _ _ c.get.ensures (faults_before (variables_seen c.args.pool.now c.args.env.now) _ _ _ (variables_seen_grow c.args.pool.now c.loop-i.pool c.args.env.now c.loop-i.invariant.grows c.requires.live) c.in_err-eval.ensures.value)))

pub eval_all-loop-i-preserved : goal.eval_all-loop-i-preserved
eval_all-loop-i-preserved t c =
    record {
      live = variables_live_grow c.loop-i.pool c.eval.new.pool c.args.env.now c.eval.ensures.grows c.loop-i.invariant.live;
      items = pushed_live c.eval.new.pool c.loop-i.values c.push.new.self (value_of c.in_ok-eval.field-0) c.in_ok-push.ensures.pushed
          (items_live_grow c.loop-i.pool c.eval.new.pool (vals c.loop-i.values) c.eval.ensures.grows c.loop-i.invariant.items) c.in_ok-eval.ensures.live;
      grows = Grows-trans _ _ _ c.loop-i.invariant.grows c.eval.ensures.grows;
      values = λ vs h. pushed_values (variables_seen c.args.pool.now c.args.env.now) (expressions c.args.exprs.now) c.loop-i.pool c.eval.new.pool c.loop-i.values c.push.new.self (value_of c.in_ok-eval.field-0) vs
          c.in_ok-push.ensures.pushed (items_seen_grow c.loop-i.pool c.eval.new.pool (vals c.loop-i.values) c.eval.ensures.grows c.loop-i.invariant.items)
          (c.loop-i.invariant.values _ (left_value (variables_seen c.args.pool.now c.args.env.now) c.loop-i.i (expressions c.args.exprs.now) (expression c.get.result.now) _ vs c.get.ensures (value_before (variables_seen c.args.pool.now c.args.env.now) (variables_seen c.loop-i.pool c.args.env.now) (expression c.get.result.now) (shown_in c.eval.new.pool c.in_ok-eval.field-0) (variables_seen_grow c.args.pool.now c.loop-i.pool c.args.env.now c.loop-i.invariant.grows c.requires.live) c.in_ok-eval.ensures.value) h));
      trouble = λ u h. c.loop-i.invariant.trouble u (left_trouble (variables_seen c.args.pool.now c.args.env.now) c.loop-i.i (expressions c.args.exprs.now) (expression c.get.result.now) _ u c.get.ensures (value_before (variables_seen c.args.pool.now c.args.env.now) (variables_seen c.loop-i.pool c.args.env.now) (expression c.get.result.now) (shown_in c.eval.new.pool c.in_ok-eval.field-0) (variables_seen_grow c.args.pool.now c.loop-i.pool c.args.env.now c.loop-i.invariant.grows c.requires.live) c.in_ok-eval.ensures.value) h);
    }

pub eval_all-returns-clause-value : goal.eval_all-returns-clause-value
eval_all-returns-clause-value t c =
    all_values (variables_seen c.args.pool.now c.args.env.now) c.loop-i.i (expressions c.args.exprs.now) _ (omega (arith, c.loop-i-test.false, c.loop-i.auto.i-end, c.count-i-end.ensures)) c.loop-i.invariant.values

pub eval_series-returns-in_err-total-clause-value : goal.eval_series-returns-in_err-total-clause-value
eval_series-returns-in_err-total-clause-value t c =
    handed_on (shown_in c.eval.new.pool) (Series (variables_seen c.args.pool.now c.args.env.now) (expression c.args.first.now) (operands c.args.terms.now)) c.in_err-total.field-0.0 _ c.from_residual.ensures.1
    (bind_faults _ _ _ c.in_err-total.ensures.value)

pub eval_series-loop-i-init : goal.eval_series-loop-i-init
eval_series-loop-i-init t c =
    record {
      live = variables_live_grow c.args.pool.now c.eval.new.pool c.args.env.now c.eval.ensures.grows c.requires.live;
      total = c.in_ok-total.ensures.live;
      grows = c.eval.ensures.grows;
      leads = λ r h. goes _ c.in_ok-total.ensures.value h;
    }

pub eval_series-eval-requires-in-loop-i : goal.eval_series-eval-requires-in-loop-i
eval_series-eval-requires-in-loop-i t c =
    (omega (arith, c.decreases, operand_size_within c.loop-i.i (operands c.args.terms.now) c.get-sign.result.0 (expression c.get-sign.result.1.now) c.get-sign.ensures), (c.loop-i.invariant.live, variables_evidence_grows c.args.pool.now c.loop-i.pool c.args.env.now c.loop-i.invariant.grows c.requires.live c.requires.evidence))

pub eval_series-returns-in_err-operand-clause-value : goal.eval_series-returns-in_err-operand-clause-value
eval_series-returns-in_err-operand-clause-value t c =
    handed_on (shown_in c.eval-in-loop-i.new.pool) (Series (variables_seen c.args.pool.now c.args.env.now) (expression c.args.first.now) (operands c.args.terms.now)) c.in_err-operand.field-0.0 _ c.from_residual-in_err-operand.ensures.1
    (series_fault (variables_seen c.args.pool.now c.args.env.now) (shown_in c.loop-i.pool c.loop-i.total) _ _ _ _ c.loop-i.invariant.leads
    (operand_faults (variables_seen c.args.pool.now c.args.env.now) (shown_in c.loop-i.pool c.loop-i.total) c.loop-i.i (operands c.args.terms.now) c.get-sign.result.0 (expression c.get-sign.result.1.now) _ c.get-sign.ensures (faults_before (variables_seen c.args.pool.now c.args.env.now) _ _ _ (variables_seen_grow c.args.pool.now c.loop-i.pool c.args.env.now c.loop-i.invariant.grows c.requires.live) c.in_err-operand.ensures.value)))

pub eval_series-returns-in_err-total-2-clause-value : goal.eval_series-returns-in_err-total-2-clause-value
eval_series-returns-in_err-total-2-clause-value t c =
    handed_on (shown_in c.eval-in-loop-i.new.pool) (Series (variables_seen c.args.pool.now c.args.env.now) (expression c.args.first.now) (operands c.args.terms.now)) c.in_err-total-2.field-0.0 _ c.from_residual-in_err-total-2.ensures.1
    (series_fault (variables_seen c.args.pool.now c.args.env.now) (shown_in c.loop-i.pool c.loop-i.total) _ _ _ _ c.loop-i.invariant.leads
    (calculation_faults (variables_seen c.args.pool.now c.args.env.now) (shown_in c.loop-i.pool c.loop-i.total) (shown_in c.eval-in-loop-i.new.pool c.in_ok-operand.operand) c.loop-i.i (operands c.args.terms.now) c.get-sign.result.0 (expression c.get-sign.result.1.now) _ c.get-sign.ensures (value_before (variables_seen c.args.pool.now c.args.env.now) _ _ _ (variables_seen_grow c.args.pool.now c.loop-i.pool c.args.env.now c.loop-i.invariant.grows c.requires.live) c.in_ok-operand.ensures.value)
    (total_faults_before (variables_seen c.args.pool.now c.args.env.now) c.get-sign.result.0 _ _ _ _ (seen_grows c.loop-i.pool c.eval-in-loop-i.new.pool (value_of c.loop-i.total) c.eval-in-loop-i.ensures.grows c.loop-i.invariant.total) (c.in_err-total-2.ensures.value c.eval-in-loop-i.new.pool))))

pub eval_series-loop-i-preserved : goal.eval_series-loop-i-preserved
eval_series-loop-i-preserved t c =
    record {
      live = variables_live_grow c.loop-i.pool c.eval-in-loop-i.new.pool c.args.env.now c.eval-in-loop-i.ensures.grows c.loop-i.invariant.live;
      total = c.in_ok-total-2.ensures.live c.eval-in-loop-i.new.pool;
      grows = Grows-trans _ _ _ c.loop-i.invariant.grows c.eval-in-loop-i.ensures.grows;
      leads = λ r h. c.loop-i.invariant.leads r (next_total (variables_seen c.args.pool.now c.args.env.now) (shown_in c.loop-i.pool c.loop-i.total) (shown_in c.eval-in-loop-i.new.pool c.in_ok-operand.operand) (shown_in c.eval-in-loop-i.new.pool c.in_ok-total-2.total) c.loop-i.i (operands c.args.terms.now) c.get-sign.result.0 (expression c.get-sign.result.1.now) r c.get-sign.ensures
          (value_before (variables_seen c.args.pool.now c.args.env.now) (variables_seen c.loop-i.pool c.args.env.now) (expression c.get-sign.result.1.now) (shown_in c.eval-in-loop-i.new.pool c.in_ok-operand.operand) (variables_seen_grow c.args.pool.now c.loop-i.pool c.args.env.now c.loop-i.invariant.grows c.requires.live) c.in_ok-operand.ensures.value) (total_before c.get-sign.result.0 _ _ _ _ (seen_grows c.loop-i.pool c.eval-in-loop-i.new.pool (value_of c.loop-i.total) c.eval-in-loop-i.ensures.grows c.loop-i.invariant.total) (c.in_ok-total-2.ensures.value c.eval-in-loop-i.new.pool)) h);
    }

pub eval_series-returns-clause-value : goal.eval_series-returns-clause-value
eval_series-returns-clause-value t c =
    whole_total (variables_seen c.args.pool.now c.args.env.now) _ c.loop-i.i (expression c.args.first.now) (operands c.args.terms.now) (omega (arith, c.loop-i-test.false, c.loop-i.auto.i-end, c.count-i-end.ensures)) c.loop-i.invariant.leads
