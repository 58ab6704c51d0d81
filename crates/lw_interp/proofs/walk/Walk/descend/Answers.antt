use Rattle.std.proofs.Common.{subst}
use Rattle.std.proofs.lemmas.Result.{IfOk-weaker}
use Rattle.lw_pool.specs.Region.{IsAt}
use Rattle.lw_interp.specs.Private.ReadingWalk.{GoesOn, GoesDown}
use Rattle.lw_interp.proofs.WalkSteps.{arrives}
use Rattle.lw_interp.proofs.walk.Walk.descend.Goals as goal

pub returns-clause-down : goal.returns-clause-down
returns-clause-down c =
    let stays = subst (GoesOn c.args.logic c.args.pool.now c.loop-sub.self c.enter.new.self c.loop-sub.at.now) c.in_default.is c.in_ok-sub.ensures in
    IfOk-weaker c.leaf.result
    (IsAt c.leaf.new.pool _)
    (GoesDown c.args.logic c.leaf.new.pool c.args.self.now c.enter.new.self c.args.proof.now)
    (λ a at.
    arrives c.args.logic c.args.pool.now c.leaf.new.pool c.args.self.now c.loop-sub.self c.enter.new.self c.args.proof.now c.loop-sub.at.now c.rule.result c.principal.result a
    c.loop-sub.invariant.ready c.loop-sub.invariant.readable c.loop-sub.invariant.few c.loop-sub.invariant.same
    stays.0 stays.1 c.rule.ensures c.principal.ensures c.leaf.ensures.grows at)
    c.leaf.ensures.at
