use Rattle.std.proofs.Common.{rules, arith}
use Rattle.lw_value.proofs.AssignedValues.{put-assigned, own_names}
use Rattle.lw_value.proofs.env.Env.set.Goals as goal

pub returns-clause-set : goal.returns-clause-set
returns-clause-set c = Prim.grind (rules, arith, put-assigned c.self.inside.values.entries c.args.name.now c.args.value)

pub invariant_of-self-2 : goal.invariant_of-self-2
invariant_of-self-2 c = own_names c.insert.new.self.entries c.insert.ensures.unique
