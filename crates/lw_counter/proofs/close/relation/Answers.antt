use Rattle.std.proofs.Common.{length}
use Rattle.lw_counter.specs.FragmentPaths.{IsEdge}
use Rattle.lw_counter.proofs.EdgeSquares.{completed_square}
use Rattle.lw_counter.proofs.EdgePaths.{edge_within}
use Rattle.lw_counter.proofs.close.relation.Goals as goal

pub returns : goal.returns
returns c =
    completed_square c.args.logic (length c.args.fragment.now.worlds) (IsEdge c.args.logic c.args.fragment.now) c.in_ok-relation.relation c.complete.new.self
    (edge_within c.args.logic c.args.fragment.now c.in_ok-relation.ensures.formed) c.in_ok-relation.ensures.edges c.complete.ensures
