use Rattle.std.proofs.Common.{◌≡◌, ◌+◌, ◌∙◌, length, sym, arith}
use Rattle.lw_pool.specs.Region.{tree_at}
use Rattle.lw_pool.proofs.RegionGrowth.{Grows-same, Grows-trans}
use Rattle.lw_proof.proofs.FirstSubproofs.{no_member}
use Rattle.lw_interp.specs.Private.ReadingWalk.{work, work_left}
use Rattle.lw_interp.proofs.WalkTurns.{popped, work_popped, whole_read}
use Rattle.lw_interp.proofs.walk.read_off.Goals as goal

pub loop-frame-smaller : goal.loop-frame-smaller
loop-frame-smaller c =
    let n : work_left c.loop-frame.walk.frames.items ≡ work_left c.pop.new.self.items + work c.in-Some.frame =
    work_popped c.loop-frame.walk.frames.items c.pop.new.self.items c.in-Some.frame c.in-Some.ensures.items
    in
    omega (arith, c.in_ok-id-2.ensures.up.2)

pub loop-frame-preserved : goal.loop-frame-preserved
loop-frame-preserved c = record {
  ready = c.in_ok-id-2.ensures.up.1;
  live = c.in_ok-id-2.ensures.up.0;
  grown = Grows-trans c.args.pool.now c.loop-frame.pool c.resume.new.pool c.loop-frame.invariant.grown c.resume.ensures.grows;
  same = λ ts g.
      c.in_ok-id-2.ensures.up.3 ts g
      ∙ sym (popped c.args.logic ts c.loop-frame.walk.frames.items c.pop.new.self.items c.in-Some.frame (c.loop-frame.walk.sides, tree_at ts c.loop-frame.id) c.in-Some.ensures.items)
      ∙ c.loop-frame.invariant.same ts (Grows-trans c.loop-frame.pool c.resume.new.pool ts c.resume.ensures.grows g);
}

pub returns-clause-at : goal.returns-clause-at
returns-clause-at c =
    let none : length c.loop-frame.walk.frames.items ≡ 0 = omega (arith, c.in_default.ensures.cases.0) in (
      c.loop-frame.invariant.live,
      whole_read c.args.logic c.args.pool.now c.loop-frame.pool c.loop-frame.walk c.args.sides c.args.proof.now c.loop-frame.id
          c.loop-frame.invariant.grown c.requires.sides c.requires.proof.0 (no_member c.loop-frame.walk.frames.items none)
          (c.loop-frame.invariant.same c.loop-frame.pool (Grows-same c.loop-frame.pool)),
    )
