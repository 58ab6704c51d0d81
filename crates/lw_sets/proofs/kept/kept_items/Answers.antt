use Rattle.std.proofs.Common.{◌∙◌, get_or, ap, sym, subst}
use Rattle.std.proofs.lemmas.List.{take_all}
use Rattle.std.proofs.lemmas.List.Elements.{All-nil}
use Rattle.lw_formula.specs.declared.sign.Sign.TheVariants.{T}
use Rattle.lw_pool.specs.declared.id.SignedId.{SignedId}
use Rattle.lw_pool.specs.Region.{IsLive}
use Rattle.lw_proof.specs.System.{trees}
use Rattle.lw_proof.specs.Derivation.{kept}
use Rattle.lw_sets.specs.IdSets.{set_of, AreLive}
use Rattle.lw_sets.specs.Private.KeptIds.{kept_by}
use Rattle.lw_sets.proofs.SetMembers.{added_live}
use Rattle.lw_sets.proofs.KeptMembers.{kept_before, kept_more, kept_by_live}
use Rattle.lw_sets.proofs.kept.kept_items.Goals as goal

pub loop-item-init : goal.loop-item-init
loop-item-init c = record {
  kept = λ ts g. ap (set_of ts) c.new-kept.ensures ∙ kept_before c.args.logic ts;
  live = subst (AreLive c.args.pool.now) (sym c.new-kept.ensures) (All-nil (λ (x : SignedId). IsLive c.args.pool.now x.form));
  all_live = subst (AreLive c.args.pool.now) (sym c.as_slice-item-items.ensures.items) c.requires;
}

pub loop-item-preserved : goal.loop-item-preserved
loop-item-preserved c =
    let items = c.as_slice-item-items.result.now in
    let i = c.loop-item.item-index in
    let first : SignedId = record { sign = T; form = record { 0 = 0 } } in
    let live : IsLive c.args.pool.now (get_or items i first).form = c.loop-item.invariant.all_live i first c.loop-item-test.true in
    record {
      kept = λ ts g.
          kept_more c.args.logic c.args.pool.now ts g c.loop-item.kept c.keep.new.kept items i first c.parts.result
          c.loop-item-test.true live c.parts.ensures.live c.parts.ensures.parts c.in_ok-keep.ensures (c.loop-item.invariant.kept ts g);
      live = added_live c.args.pool.now c.loop-item.kept c.keep.new.kept (kept_by c.args.logic (get_or items i first) c.parts.result) c.in_ok-keep.ensures
          c.loop-item.invariant.live
          (kept_by_live c.args.pool.now c.args.logic (get_or items i first) c.parts.result live c.parts.ensures.live);
      all_live = c.loop-item.invariant.all_live;
    }

pub returns-clause-kept : goal.returns-clause-kept
returns-clause-kept c = λ ts g.
    c.loop-item.invariant.kept ts g
    ∙ ap (λ xs. kept trees c.args.logic (set_of ts xs))
    (take_all c.loop-item.item-index c.as_slice-item-items.result.now c.loop-item-test.false ∙ c.as_slice-item-items.ensures.items)
