use Rattle.std.proofs.Common.{refl}
use Rattle.std.proofs.lemmas.Result.{IfOk-weaker}
use Rattle.lw_pool.specs.Region.{tree_at, IsAt}
use Rattle.lw_interp.specs.declared.walk.Walk.{Walk}
use Rattle.lw_interp.specs.Maehara.{of_two, of_step}
use Rattle.lw_interp.specs.Private.ReadingWalk.{GoesDown, GoesUp}
use Rattle.lw_interp.proofs.WalkTurns.{second_goes_up, step_goes_up, turned_ready, turned_goes_up}
use Rattle.lw_interp.proofs.walk.Walk.resume.Goals as goal

pub descend-requires-clause-ready : goal.descend-requires-clause-ready
descend-requires-clause-ready c =
    let mid : Walk = record { sides = c.cut-in-First.new.self; frames = c.args.self.now.frames } in
    turned_ready c.args.pool.now c.args.self.now mid c.turn.new.self c.args.frame c.in-First.before c.in-First.place c.in-First.other c.in-First.proof c.args.id
    c.in-First.is c.requires.ready c.requires.frame c.requires.id c.cut-in-First.ensures refl c.in_ok-turn-in-First.ensures

pub returns-in_ok-turn-in-First-clause-up : goal.returns-in_ok-turn-in-First-clause-up
returns-in_ok-turn-in-First-clause-up c =
    let mid : Walk = record { sides = c.cut-in-First.new.self; frames = c.args.self.now.frames } in
    IfOk-weaker c.descend.result
    (GoesDown c.args.logic c.descend.new.pool c.turn.new.self c.descend.new.self c.in-First.proof.now)
    (GoesUp c.args.logic c.descend.new.pool c.args.self.now c.descend.new.self c.args.frame c.args.id)
    (λ b down.
    turned_goes_up c.args.pool.now c.args.self.now mid c.turn.new.self c.args.frame c.in-First.before c.in-First.place c.in-First.other c.in-First.proof c.args.id
    c.in-First.is c.requires.ready c.requires.frame c.requires.id c.cut-in-First.ensures refl c.in_ok-turn-in-First.ensures
    c.args.logic c.descend.new.pool c.descend.new.self b c.descend.ensures.grows down)
    c.descend.ensures.down

pub returns-in-Second-clause-up : goal.returns-in-Second-clause-up
returns-in-Second-clause-up c =
    let up : Walk = record { sides = c.cut-in-Second.new.self; frames = c.args.self.now.frames } in
    IfOk-weaker c.of_two.result
    (IsAt c.of_two.new.pool (of_two c.is_left.result (tree_at c.args.pool.now c.in-Second.first) (tree_at c.args.pool.now c.args.id)))
    (GoesUp c.args.logic c.of_two.new.pool c.args.self.now up c.args.frame c.args.id)
    (λ b at.
    second_goes_up c.args.logic c.args.pool.now c.of_two.new.pool c.args.self.now up c.args.id b c.requires.ready c.requires.id c.of_two.ensures.grows refl
    c.args.frame c.in-Second.before c.in-Second.place c.in-Second.first c.is_left.result c.in-Second.is c.requires.frame c.cut-in-Second.ensures c.is_left.ensures at)
    c.of_two.ensures.at

pub returns-in-Step-clause-up : goal.returns-in-Step-clause-up
returns-in-Step-clause-up c =
    let up : Walk = record { sides = c.in-Step.before; frames = c.args.self.now.frames } in
    IfOk-weaker c.of_step.result
    (IsAt c.of_step.new.pool (of_step c.is_left-in-Step.result (tree_at c.args.pool.now c.args.id)))
    (GoesUp c.args.logic c.of_step.new.pool c.args.self.now up c.args.frame c.args.id)
    (λ b at.
    step_goes_up c.args.logic c.args.pool.now c.of_step.new.pool c.args.self.now up c.args.id b c.requires.ready c.requires.id c.of_step.ensures.grows refl
    c.args.frame c.in-Step.before c.in-Step.place c.is_left-in-Step.result c.in-Step.is c.requires.frame refl c.is_left-in-Step.ensures at)
    c.of_step.ensures.at
