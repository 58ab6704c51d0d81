use Rattle.std.proofs.Common.{subst, sym}
use Rattle.std.proofs.lemmas.Result.{on_ok_weaker}
use Rattle.lw_pool.specs.declared.node.Node.{Node}
use Rattle.lw_pool.specs.Private.IdWalk.{AddsOwnName}
use Rattle.lw_pool.proofs.variable.add_variable.Goals as goal

pub returns-in-Var : goal.returns-in-Var
returns-in-Var c =
    on_ok_weaker c.add_name.result
    (λ h. subst (λ (n : Node). AddsOwnName n c.args.names.now.items c.add_name.new.names.items) (sym c.in-Var.is) (record { names = h.names; ordered = h.ordered }))
    c.add_name.ensures
