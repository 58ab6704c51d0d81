use Rattle.std.proofs.Common.{◌∙◌, sym}
use Rattle.lw_formula.specs.Formula.{impl}
use Rattle.lw_pool.proofs.RegionGrowth.{Grows-trans}
use Rattle.lw_pool.specs.Region.{tree_at}
use Rattle.lw_eval.specs.Calls.{Supported}
use Rattle.lw_eval.proofs.CallsAnswered.{supported_faults, supported_gives, decided_gives, undecided_answer, few_of, undecided_of, interpolates_of}
use Rattle.lw_eval.proofs.interpolating.interpolated.Goals as goal

pub returns-then-not-has_interpolants-clause-value : goal.returns-then-not-has_interpolants-clause-value
returns-then-not-has_interpolants-clause-value c = Supported.unsupported (sym c.has_interpolants.ensures ∙ c.if-not-has_interpolants.true)

pub returns-in-Ok-clause-value : goal.returns-in-Ok-clause-value
returns-in-Ok-clause-value c =
    supported_gives c.args.logic c.read_off.new.pool _ c.read_off.result (sym c.has_interpolants.ensures ∙ c.if-not-has_interpolants.false)
    (decided_gives (impl (tree_at c.args.pool.now c.args.left) (tree_at c.args.pool.now c.args.right)) c.read_off.new.pool _ c.read_off.result (few_of (impl (tree_at c.args.pool.now c.args.left) (tree_at c.args.pool.now c.args.right)) _ (c.in_ok-goal.ensures.at.1 ∙ c.joined.ensures.tree c.args.pool.now) c.in-Ok.ensures.few)
    (interpolates_of c.args.logic c.read_off.new.pool (tree_at c.args.pool.now c.args.left) (tree_at c.args.pool.now c.args.right) _ _ c.read_off.result ((Grows-trans _ _ _ c.in_ok-goal.ensures.grows c.in-Ok.ensures.grows).same c.args.left c.requires.left) ((Grows-trans _ _ _ c.in_ok-goal.ensures.grows c.in-Ok.ensures.grows).same c.args.right c.requires.right) c.read_off.ensures.value))

pub returns-in-Err-clause-value : goal.returns-in-Err-clause-value
returns-in-Err-clause-value c =
    supported_faults c.args.logic _ c.undecided.result (sym c.has_interpolants.ensures ∙ c.if-not-has_interpolants.false)
    (undecided_answer (impl (tree_at c.args.pool.now c.args.left) (tree_at c.args.pool.now c.args.right)) _ c.undecided.result (undecided_of (impl (tree_at c.args.pool.now c.args.left) (tree_at c.args.pool.now c.args.right)) _ c.undecided.result (c.in_ok-goal.ensures.at.1 ∙ c.joined.ensures.tree c.args.pool.now) (c.undecided.ensures c.make.new.self c.decide.new.pool c.in_ok-goal.goal c.in-Err.ensures.fault)))
