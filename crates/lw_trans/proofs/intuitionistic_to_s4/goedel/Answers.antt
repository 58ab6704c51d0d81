use Rattle.std.proofs.Common.{sym, ◌∙◌}
use Rattle.lw_pool.specs.Region.{tree_at}
use Rattle.lw_trans.proofs.FirstConnectives.{first_of-Some, first_of-None}
use Rattle.lw_trans.proofs.intuitionistic_to_s4.goedel.Goals as goal

pub returns-in-Some-clause-refused : goal.returns-in-Some-clause-refused
returns-in-Some-clause-refused c = first_of-Some (tree_at c.args.pool.now c.args.id) c.in-Some.what (sym c.in_ok-what.ensures ∙ c.in-Some.is)

pub returns-clause-intuitionistic : goal.returns-clause-intuitionistic
returns-clause-intuitionistic c = first_of-None (tree_at c.args.pool.now c.args.id) (sym c.in_ok-what.ensures ∙ c.in_default.is)
