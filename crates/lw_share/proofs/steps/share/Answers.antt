use Rattle.std.proofs.Common.{◌<◌, length, arith}
use Rattle.lw_pool.specs.Region.{tree_at}
use Rattle.lw_share.proofs.TableVerdicts.{earlier_at}
use Rattle.lw_share.proofs.WholeProofs.{goal_derived, whole_root, whole_shared, whole_sets, whole_few}
use Rattle.lw_share.proofs.steps.share.Goals as goal

pub put-requires-clause-derived : goal.put-requires-clause-derived
put-requires-clause-derived c =
    let goal = tree_at c.args.pool.now c.args.goal in (
      goal,
      goal_derived c.args.logic c.args.pool.now c.args.goal c.in_ok-items.items c.in_ok-items.ensures c.args.proof.now c.requires.proves,
    )

pub prove-unreachable-requires : goal.prove-unreachable-requires
prove-unreachable-requires c =
    let below : c.in_ok-root.root < length c.finish-table.result =
    whole_root c.args.logic c.args.pool.now c.args.goal c.in_ok-items.items c.in_ok-items.ensures
    c.args.proof.now c.requires.proves
    c.put.new.pool c.new-sharing.result c.put.new.sharing c.finish-table.result c.new-sharing.ensures c.finish-table.ensures
    c.in_ok-root.root c.in_ok-root.ensures.put
    in
    omega (arith, below, c.if-prove.true, c.count.ensures.count)

pub returns-clause-shared : goal.returns-clause-shared
returns-clause-shared c =
    whole_shared c.args.logic c.args.pool.now c.args.goal c.in_ok-items.items c.in_ok-items.ensures
    c.args.proof.now c.requires.proves
    c.put.new.pool c.new-sharing.result c.put.new.sharing c.finish-table.result c.new-sharing.ensures c.finish-table.ensures
    c.in_ok-root.root c.in_ok-root.ensures.put
    (earlier_at c.put.new.pool c.finish-table.result c.count.ensures.earlier)

pub returns-clause-sets : goal.returns-clause-sets
returns-clause-sets c =
    whole_sets c.args.logic c.args.pool.now c.args.goal c.in_ok-items.items c.in_ok-items.ensures
    c.args.proof.now c.requires.proves
    c.put.new.pool c.new-sharing.result c.put.new.sharing c.finish-table.result c.new-sharing.ensures c.finish-table.ensures
    c.in_ok-root.root c.in_ok-root.ensures.put

pub returns-clause-few : goal.returns-clause-few
returns-clause-few c =
    whole_few c.args.logic c.args.pool.now c.args.goal c.in_ok-items.items c.in_ok-items.ensures
    c.args.proof.now c.requires.proves
    c.put.new.pool c.new-sharing.result c.put.new.sharing c.finish-table.result c.new-sharing.ensures c.finish-table.ensures
    c.in_ok-root.root c.in_ok-root.ensures.put
