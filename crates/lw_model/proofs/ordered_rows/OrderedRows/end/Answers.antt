use Rattle.std.proofs.Common.{◌<◌, length, arith}
use Rattle.lw_model.proofs.RowsEndToEnd.{numbers-below}
use Rattle.lw_model.proofs.ordered_rows.OrderedRows.end.Goals as goal

pub returns : goal.returns
returns g c = λ at x h. let within : at < length c.self.inside.rows.items = numbers-below c.self.inside.rows.items c.args.self.now c.self.view_is at x h in omega arith
