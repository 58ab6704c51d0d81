use Rattle.std.proofs.Common.{◌∙◌, get_or, ap, sym, subst}
use Rattle.std.proofs.lemmas.List.{take_all}
use Rattle.std.proofs.lemmas.List.Elements.{All-nil}
use Rattle.lw_formula.specs.declared.sign.Sign.TheVariants.{T}
use Rattle.lw_pool.specs.declared.id.SignedId.{SignedId}
use Rattle.lw_pool.specs.Region.{IsLive}
use Rattle.lw_sets.specs.IdSets.{set_of, AreLive}
use Rattle.lw_share.proofs.CollectedSets.{collected_more, live_more}
use Rattle.lw_share.proofs.sets.collected.Goals as goal

pub loop-item-init : goal.loop-item-init
loop-item-init c = record {
  set = λ ts. ap (set_of ts) c.new-set.ensures;
  live = λ ts l. subst (AreLive ts) (sym c.new-set.ensures) (All-nil (λ (x : SignedId). IsLive ts x.form));
}

pub loop-item-preserved : goal.loop-item-preserved
loop-item-preserved c =
    let items = c.args.items.now in
    let i = c.loop-item.item-index in
    let first : SignedId = record { sign = T; form = record { 0 = 0 } } in
    record {
      set = collected_more c.loop-item.set c.add.new.self items i first c.loop-item-test.true c.in_ok-add.ensures.added c.loop-item.invariant.set;
      live = λ ts l. live_more ts c.loop-item.set c.add.new.self (get_or items i first) c.in_ok-add.ensures.added (c.loop-item.invariant.live ts l) (l i first c.loop-item-test.true);
    }

pub returns-clause-set : goal.returns-clause-set
returns-clause-set c = λ ts. c.loop-item.invariant.set ts ∙ ap (set_of ts) (take_all c.loop-item.item-index c.args.items.now c.loop-item-test.false)

pub returns-clause-live : goal.returns-clause-live
returns-clause-live c = λ ts l. c.loop-item.invariant.live ts l
