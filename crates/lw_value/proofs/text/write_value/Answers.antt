use Rattle.std.proofs.Common.{◌≡◌, length, arith}
use Rattle.lw_value.specs.Views.{value_of}
use Rattle.lw_value.proofs.PartsLeft.{top-printable, leads-on, effort-falls, finished}
use Rattle.lw_value.proofs.text.write_value.Goals as goal

pub write_work-requires : goal.write_work-requires
write_work-requires c =
    top-printable c.args.pool.now (value_of c.args.value.now) c.args.out.now.items c.loop-work.out.items c.loop-work.left.items c.pop.new.self.items c.in-Some.work c.in-Some.ensures.items c.loop-work.invariant

pub loop-work-smaller : goal.loop-work-smaller
loop-work-smaller c =
    effort-falls c.args.pool.now (value_of c.args.value.now) c.args.out.now.items c.loop-work.out.items c.loop-work.left.items c.pop.new.self.items c.in-Some.work c.in-Some.ensures.items
    c.write_work.new.out.items c.write_work.new.left.items c.in_ok-write_work.ensures

pub loop-work-preserved : goal.loop-work-preserved
loop-work-preserved c =
    leads-on c.args.pool.now (value_of c.args.value.now) c.args.out.now.items c.loop-work.out.items c.loop-work.left.items c.pop.new.self.items c.in-Some.work c.in-Some.ensures.items
    c.write_work.new.out.items c.write_work.new.left.items c.in_ok-write_work.ensures c.loop-work.invariant

pub returns : goal.returns
returns c =
    let over : length c.loop-work.left.items ≡ 0 = omega (arith, c.in_default.ensures.cases.0, c.loop-work.left.ok) in
    finished c.args.pool.now (value_of c.args.value.now) c.args.out.now.items c.loop-work.out.items c.loop-work.left.items over c.loop-work.invariant
