use Rattle.std.proofs.Common.{arith}
use Rattle.lw_value.proofs.ValuesWaiting.{live-under, live-kept, load-falls, length-after, length-before}
use Rattle.lw_value.proofs.length.measured.Goals as goal

pub own_length-requires : goal.own_length-requires
own_length-requires c = live-under c.loop-value.left.items c.pop.new.self.items c.in-Some.value c.in-Some.ensures.items c.args.pool.now c.loop-value.invariant.0

pub returns-then-total-gt-LONGEST_TEXT : goal.returns-then-total-gt-LONGEST_TEXT
returns-then-total-gt-LONGEST_TEXT c = omega (
  arith,
  c.loop-value.invariant.2,
  c.if-total-gt-LONGEST_TEXT.true,
  c.saturating_add-total.ensures,
  c.in_ok-own_length.ensures,
  length-before c.loop-value.left.items c.pop.new.self.items c.in-Some.value c.in-Some.ensures.items c.args.pool.now,
)

pub loop-value-smaller : goal.loop-value-smaller
loop-value-smaller c = load-falls c.loop-value.left.items c.pop.new.self.items c.in-Some.value c.in-Some.ensures.items c.push_items.new.left.items c.in_ok-push_items.ensures

pub loop-value-preserved : goal.loop-value-preserved
loop-value-preserved c = (
  live-kept c.loop-value.left.items c.pop.new.self.items c.in-Some.value c.in-Some.ensures.items c.push_items.new.left.items c.in_ok-push_items.ensures c.args.pool.now c.loop-value.invariant.0,
  omega (arith, c.if-total-gt-LONGEST_TEXT.false),
  omega (
    arith,
    c.loop-value.invariant.2,
    c.if-total-gt-LONGEST_TEXT.false,
    c.saturating_add-total.ensures,
    c.in_ok-own_length.ensures,
    length-after c.loop-value.left.items c.pop.new.self.items c.in-Some.value c.in-Some.ensures.items c.push_items.new.left.items c.in_ok-push_items.ensures c.args.pool.now,
  ),
)
