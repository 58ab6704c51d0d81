use Rattle.std.proofs.Common.{sym, subst}
use Rattle.lw_pool.proofs.RegionGrowth.{Grows-trans}
use Rattle.lw_value.specs.Views.{values_of}
use Rattle.lw_cases.specs.Values.{CanAllBeWritten}
use Rattle.lw_cases.proofs.WrittenValues.{put_value_written, all_written_grow}
use Rattle.lw_cases.proofs.values.all_made.Goals as goal

pub values-preserved : goal.values-preserved
values-preserved c =
    let grown = all_written_grow c.values.pool c.made.new.pool (values_of c.values.values.items) c.in_ok-value.ensures.grows c.values.invariant.0 in
    let more = put_value_written c.made.new.pool c.values.values.items c.in_ok-value.value grown c.in_ok-value.ensures.value in (
      subst (λ xs. CanAllBeWritten c.made.new.pool (values_of xs)) (sym c.in_ok-put.ensures) more,
      Grows-trans c.args.pool.now c.values.pool c.made.new.pool c.values.invariant.1 c.in_ok-value.ensures.grows,
    )
