use Rattle.lw_pool.proofs.NodeInsertion.{region_cut}
use Rattle.lw_pool.proofs.pool.Pool.release.Goals as goal

pub invariant_of-self : goal.invariant_of-self
invariant_of-self c =
    (region_cut c.self.inside.nodes.keys c.args.self.now c.mark.inside.count c.self.invariant c.self.view_is c.truncate.new.self.keys c.truncate.ensures.keys).0

pub returns : goal.returns
returns c =
    rw (← c.mark.view_is)
    (region_cut c.self.inside.nodes.keys c.args.self.now c.mark.inside.count c.self.invariant c.self.view_is c.truncate.new.self.keys c.truncate.ensures.keys).1
