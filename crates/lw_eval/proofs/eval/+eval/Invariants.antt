use Rattle.std.proofs.Common.{◌*◌, ◌+◌}
use Rattle.lw_formula.specs.Formula.{Formula}
use Rattle.lw_pool.specs.Region.{Grows}
use Rattle.lw_ast.specs.ScriptViews.{expression, expressions, operands}
use Rattle.lw_value.specs.Values.{Val, Vals, vals, seen_all, AreItemsLive}
use Rattle.lw_value.specs.Assignments.{variables_seen, AreVariablesLive}
use Rattle.lw_eval.specs.declared.trouble.Trouble.{Trouble}
use Rattle.lw_eval.specs.Evaluations.{Evaluation, Got, Fails}
use Rattle.lw_eval.specs.Expressions.{Evals, Chain}
use Rattle.lw_eval.specs.Private.Given.{IsLiveIn, shown_in}
use Rattle.lw_eval.specs.Private.Sizes.{size, expressions_size, operands_size}
use Rattle.lw_eval.specs.Private.Remaining.{rest, operands_rest, followed_by, Series}
use Rattle.lw_eval.proofs.eval.+eval.Given as goal

abbrev pub decreases-eval : goal.decreases-eval
decreases-eval c = 2 * size (expression c.expr.now)

abbrev pub decreases-eval_pair : goal.decreases-eval_pair
decreases-eval_pair c = 2 * (size (expression c.left.now) + size (expression c.right.now)) + 1

abbrev pub decreases-eval_test : goal.decreases-eval_test
decreases-eval_test c = 2 * size (expression c.expr.now) + 1

abbrev pub decreases-eval_all : goal.decreases-eval_all
decreases-eval_all c = 2 * expressions_size (expressions c.exprs.now) + 1

abbrev pub decreases-eval_series : goal.decreases-eval_series
decreases-eval_series c = 2 * (size (expression c.first.now) + operands_size (operands c.terms.now)) + 1

-- whatever the rest comes to, the whole comes to it behind the values so far
abbrev pub invariant-eval_all-loop-i : goal.invariant-eval_all-loop-i
invariant-eval_all-loop-i l =
    let env = variables_seen l.fn.pool l.env in
    let es = expressions l.exprs in
    record {
      live : AreVariablesLive l.pool l.env;
      items : AreItemsLive l.pool (vals l.values);
      grows : Grows l.fn.pool l.pool;
      values : (vs : Vals Formula) → Evals env (rest l.i es) (Got vs) → Evals env es (Got (followed_by (seen_all l.pool (vals l.values)) vs));
      trouble : (t : Trouble) → Evals env (rest l.i es) (Fails t) → Evals env es (Fails t);
    }

-- whatever the total so far comes to with the rest, the whole comes to
abbrev pub invariant-eval_series-loop-i : goal.invariant-eval_series-loop-i
invariant-eval_series-loop-i l =
    let env = variables_seen l.fn.pool l.env in
    let bs = operands l.terms in
    record {
      live : AreVariablesLive l.pool l.env;
      total : IsLiveIn l.pool l.total;
      grows : Grows l.fn.pool l.pool;
      leads : (r : Evaluation (Val Formula)) → Chain env (shown_in l.pool l.total) (operands_rest l.i bs) r → Series env (expression l.first) bs r;
    }
