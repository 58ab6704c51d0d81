use Rattle.std.proofs.Common.{List, length, get_or, ap, ◌∙◌, arith}
use Rattle.lw_pool.specs.declared.node.Node.{Node}
use Rattle.lw_pool.proofs.NodeFormulas.{length-trees}
use Rattle.lw_pool.proofs.NodeInsertion.{region_node}
use Rattle.lw_pool.proofs.pool.Pool.node.Goals as goal

pub entry-requires : goal.entry-requires
entry-requires c = omega (arith, c.requires, ap length c.as_slice.ensures.keys, length-trees c.self.inside.nodes.keys, ap length c.self.view_is)

pub returns-clause-tree : goal.returns-clause-tree
returns-clause-tree c =
    (region_node c.self.inside.nodes.keys c.args.self.now c.args.id.0 c.entry.result.now c.self.invariant c.self.view_is c.requires
    (c.entry.ensures ∙ ap (λ (ns : List Node). get_or ns c.args.id.0 c.entry.result.now) c.as_slice.ensures.keys)).0

pub returns-clause-below : goal.returns-clause-below
returns-clause-below c =
    (region_node c.self.inside.nodes.keys c.args.self.now c.args.id.0 c.entry.result.now c.self.invariant c.self.view_is c.requires
    (c.entry.ensures ∙ ap (λ (ns : List Node). get_or ns c.args.id.0 c.entry.result.now) c.as_slice.ensures.keys)).1
