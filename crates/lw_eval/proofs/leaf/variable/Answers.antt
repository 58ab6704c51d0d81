use Rattle.lw_value.specs.Views.{value_of}
use Rattle.lw_eval.proofs.VariablesBound.{found, unbound}
use Rattle.lw_eval.proofs.leaf.variable.Goals as goal

pub returns-in_ok-try_clone-in-Some-clause-value : goal.returns-in_ok-try_clone-in-Some-clause-value
returns-in_ok-try_clone-in-Some-clause-value c =
    λ ts. found ts c.args.env.now c.args.name.now (value_of c.in-Some.value.now) _ c.in-Some.ensures.value c.in_ok-try_clone-in-Some.ensures

pub returns-in_ok-try_clone-in-None-clause-value : goal.returns-in_ok-try_clone-in-None-clause-value
returns-in_ok-try_clone-in-None-clause-value c =
    λ ts. unbound ts c.args.env.now c.args.name.now _ c.in-None.ensures.value c.in_ok-try_clone-in-None.ensures
