use Rattle.std.proofs.Common.{rules, arith}
use Rattle.lw_value.proofs.AssignedValues.{lookup-assigned, under-copied}
use Rattle.lw_value.proofs.env.Env.get.Goals as goal

pub returns-clause-value : goal.returns-clause-value
returns-clause-value c = Prim.grind (rules, arith, under-copied c.get.result, lookup-assigned c.self.inside.values.entries c.args.name.now)
