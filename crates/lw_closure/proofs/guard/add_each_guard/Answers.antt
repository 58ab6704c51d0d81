use Rattle.std.proofs.Common.{◌<◌, length, subst, sym, ap, arith}
use Rattle.lw_closure.specs.Private.GuardNumbers.{HasGuards}
use Rattle.lw_pool.proofs.RegionGrowth.{Grows-same, Grows-trans}
use Rattle.lw_closure.proofs.GuardsAdded.{guards_start, guards_step}
use Rattle.lw_closure.proofs.guard.add_each_guard.Goals as goal

pub loop-at-init : goal.loop-at-init
loop-at-init c = record {
  grows = Grows-same c.args.pool.now;
  guards = subst (HasGuards c.args.pool.now c.args.forms.now.keys c.args.forms.now.keys) (sym c.new-guards.ensures.items) (guards_start c.args.pool.now c.args.forms.now.keys c.requires.numbering);
  count = ap length c.new-guards.ensures.items;
}

pub loop-at-preserved : goal.loop-at-preserved
loop-at-preserved c =
    let below : c.loop-at.at < length c.args.forms.now.keys = omega arith in
    record {
      grows = Grows-trans c.args.pool.now c.loop-at.pool c.add_guard.new.pool c.loop-at.invariant.grows c.in_ok-guard.ensures.grows;
      guards =
          guards_step c.loop-at.pool c.add_guard.new.pool c.args.forms.now.keys c.loop-at.forms.keys c.add_guard.new.forms.keys c.loop-at.guards.items c.push.new.self.items c.in_ok-guard.guard
          c.form_at-form.result c.loop-at.at c.loop-at.invariant.guards c.loop-at.invariant.count below c.form_at-form.ensures c.in_ok-guard.ensures.grows c.in_ok-guard.ensures.added c.in_ok-push.ensures.items;
      count = omega (arith, c.in_ok-push.ensures.len);
    }
