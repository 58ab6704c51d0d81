use Rattle.std.proofs.Common.{◌≡◌, ap, subst, ◌∙◌}
use Rattle.lw_pool.specs.Region.{tree_at}
use Rattle.lw_counter.specs.Answers.{IsAnswerTo}
use Rattle.lw_decide.proofs.AnswerValidity.{answer_tells}
use Rattle.lw_decide.proofs.deciding.decide.Goals as goal

pub returns-clause-validity : goal.returns-clause-validity
returns-clause-validity c =
    let same : tree_at c.closure.new.pool c.in_ok-table.table.goal ≡ tree_at c.args.pool.now c.args.goal =
    ap (tree_at c.closure.new.pool) c.in_ok-table.ensures.asked.1 ∙ c.in_ok-table.ensures.grows.same c.args.goal c.requires.live in
    answer_tells c.args.logic c.closure.new.pool (tree_at c.args.pool.now c.args.goal) c.in_ok-searched.field-0
    (subst (λ a. IsAnswerTo c.args.logic c.closure.new.pool a c.in_ok-searched.field-0) same c.in_ok-searched.ensures)
