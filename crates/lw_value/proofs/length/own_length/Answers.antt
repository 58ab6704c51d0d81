use Rattle.std.proofs.Common.{rules, arith}
use Rattle.lw_pool.specs.Region.{tree_at}
use Rattle.lw_value.proofs.LengthsAdded.{count-shown}
use Rattle.lw_value.proofs.length.own_length.Goals as goal

pub returns-in-Items : goal.returns-in-Items
returns-in-Items c = Prim.grind (rules, arith, count-shown (tree_at c.args.pool.now) c.in-Items.items)
