use Rattle.std.proofs.Common.{arith, ap, ◌≡◌, take}
use Rattle.std.proofs.lemmas.List.{take_all}
use Rattle.lw_value.specs.Values.{seen_all}
use Rattle.lw_value.specs.ValueTexts.{total_of}
use Rattle.lw_value.specs.Views.{values_of}
use Rattle.lw_value.proofs.ValuesTaken.{total-next, count-values, live-next}
use Rattle.lw_value.proofs.length.measured_line.Goals as goal

pub measured-requires : goal.measured-requires
measured-requires c = live-next c.args.pool.now c.args.values.now c.loop-value.value-index c.value-item.result c.loop-value-test.true c.value-item.is c.requires

pub loop-value-preserved : goal.loop-value-preserved
loop-value-preserved c = omega (
  arith,
  c.loop-value.invariant,
  c.saturating_add-total.ensures,
  c.in_ok-measured.ensures,
  total-next c.args.pool.now c.args.values.now c.loop-value.value-index c.value-item.result c.loop-value-test.true c.value-item.is,
)

pub returns : goal.returns
returns c =
    let whole : take c.loop-value.value-index c.args.values.now ≡ c.args.values.now = take_all c.loop-value.value-index c.args.values.now c.loop-value-test.false in
    omega (
      arith,
      c.loop-value.invariant,
      c.min.ensures,
      ap (λ xs. total_of (seen_all c.args.pool.now (values_of xs))) whole,
      count-values c.args.pool.now c.args.values.now,
    )
