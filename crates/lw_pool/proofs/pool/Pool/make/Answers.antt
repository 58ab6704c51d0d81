use Rattle.lw_pool.proofs.NodeInsertion.{OnErr-always, region_absent, region_inserted}
use Rattle.lw_pool.proofs.RegionGrowth.{Grows-made, IsAt-made}
use Rattle.lw_pool.proofs.pool.Pool.make.Goals as goal

pub returns-in_err-index-clause-absent : goal.returns-in_err-index-clause-absent
returns-in_err-index-clause-absent c =
    OnErr-always c.from_residual.result
    (region_absent c.self.inside.nodes.keys c.args.self.now c.args.node c.self.invariant c.self.view_is c.requires c.in_err-index.ensures.absent)

pub invariant_of-self-2 : goal.invariant_of-self-2
invariant_of-self-2 c =
    (region_inserted c.self.inside.nodes.keys c.args.self.now c.args.node c.in_ok-index.index c.self.invariant c.self.view_is c.requires c.check_name.ensures
    c.insert_full.new.self.keys c.in_ok-index.ensures.keys c.in_ok-index.ensures.stored).region

pub returns-clause-made : goal.returns-clause-made
returns-clause-made c =
    (region_inserted c.self.inside.nodes.keys c.args.self.now c.args.node c.in_ok-index.index c.self.invariant c.self.view_is c.requires c.check_name.ensures
    c.insert_full.new.self.keys c.in_ok-index.ensures.keys c.in_ok-index.ensures.stored).made

pub returns-clause-at : goal.returns-clause-at
returns-clause-at c =
    IsAt-made _ _ _ _
    (region_inserted c.self.inside.nodes.keys c.args.self.now c.args.node c.in_ok-index.index c.self.invariant c.self.view_is c.requires c.check_name.ensures
    c.insert_full.new.self.keys c.in_ok-index.ensures.keys c.in_ok-index.ensures.stored).made

pub returns-clause-grows : goal.returns-clause-grows
returns-clause-grows c =
    Grows-made _ _ _ _
    (region_inserted c.self.inside.nodes.keys c.args.self.now c.args.node c.in_ok-index.index c.self.invariant c.self.view_is c.requires c.check_name.ensures
    c.insert_full.new.self.keys c.in_ok-index.ensures.keys c.in_ok-index.ensures.stored).made
