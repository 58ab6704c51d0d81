use Rattle.std.proofs.Common.{◌<◌, length, sym, subst, rules}
use Rattle.std.specs.List.{All}
use Rattle.std.proofs.lemmas.Result.{IfOk-weaker}
use Rattle.lw_pool.specs.declared.id.SignedId.{SignedId}
use Rattle.lw_pool.proofs.RegionGrowth.{Grows-same, Grows-trans}
use Rattle.lw_sets.specs.IdSets.{AreLive}
use Rattle.lw_sets.proofs.GrownPools.{IsProofLive_grows, AreLive_grows}
use Rattle.lw_share.specs.Lines.{Line}
use Rattle.lw_share.specs.Pooled.{table_at, IsTableLive}
use Rattle.lw_share.specs.Private.PremiseLists.{ArePremises, AreAllLive}
use Rattle.lw_share.specs.Private.SharedSteps.{Enters, PutsProof}
use Rattle.lw_share.specs.Private.SharedSubproofs.{PutsSubproofs}
use Rattle.lw_share.proofs.HeldLines.{IsTableLive_grows}
use Rattle.lw_share.proofs.PutSteps.{none_put}
use Rattle.lw_share.proofs.PooledSteps.{derives_later, derives_subs, cites_below, step_put, step_live}
use Rattle.lw_share.proofs.PooledSubproofs.{sub_below, derives_at, sub_put, all_put}
use Rattle.lw_share.proofs.steps.+put.Goals as goal

pub put-put_subproofs-requires : goal.put-put_subproofs-requires
put-put_subproofs-requires t c =
    let now = c.premises.new.pool in
    let left =
    subst (ArePremises c.args.logic now c.rule-rule.result c.principal-principal.result c.args.items.now) (sym c.deref.ensures.value)
    c.in_ok-premises.ensures.sets
    in
    let derived =
    derives_subs c.args.pool.now now c.premises.ensures.grows c.args.logic c.args.items.now c.requires.items
    c.args.proof.now c.requires.proof
    c.rule-rule.result c.principal-principal.result c.rule-rule.ensures c.principal-principal.ensures c.deref.result.now left
    c.requires.derived.0 c.requires.derived.1
    in (
      search rules,
      (
        IsTableLive_grows c.args.pool.now now c.premises.ensures.grows c.args.sharing.now c.requires.table,
        (
          subst (AreAllLive now) (sym c.deref.ensures.value) c.in_ok-premises.ensures.live,
          (
            IsProofLive_grows c.args.pool.now now c.premises.ensures.grows c.args.proof.now c.requires.proof,
            (c.requires.derived.0, derived),
          ),
        ),
      ),
    )

pub put-enter-requires-clause-cites : goal.put-enter-requires-clause-cites
put-enter-requires-clause-cites t c =
    let now = c.premises.new.pool in
    let left =
    subst (ArePremises c.args.logic now c.rule-rule.result c.principal-principal.result c.args.items.now) (sym c.deref.ensures.value)
    c.in_ok-premises.ensures.sets
    in
    let below =
    cites_below c.args.pool.now now c.premises.ensures.grows c.args.logic c.args.items.now c.requires.items
    c.args.proof.now c.requires.proof
    c.rule-rule.result c.principal-principal.result c.rule-rule.ensures c.principal-principal.ensures c.deref.result.now left
    c.args.sharing.now c.requires.table c.put_subproofs.new.pool c.put_subproofs.new.sharing
    c.in_ok-cites.cites.items c.in_ok-cites.ensures.put c.requires.derived.0 c.requires.derived.1
    in
    subst (All (λ k. k < length c.put_subproofs.new.sharing)) (sym c.deref-2.ensures.value) below

pub put-returns-clause-put : goal.put-returns-clause-put
put-returns-clause-put t c =
    let now = c.premises.new.pool in
    let later = c.put_subproofs.new.pool in
    let left =
    subst (ArePremises c.args.logic now c.rule-rule.result c.principal-principal.result c.args.items.now) (sym c.deref.ensures.value)
    c.in_ok-premises.ensures.sets
    in
    let put =
    subst (PutsSubproofs c.args.logic now c.args.sharing.now later c.put_subproofs.new.sharing c.deref.result.now c.args.proof.now)
    (sym c.deref-2.ensures.value) c.in_ok-cites.ensures.put
    in
    let grows = Grows-trans c.args.pool.now now later c.premises.ensures.grows c.put_subproofs.ensures.grows in
    let line : Line SignedId =
    record { members = c.args.items.now; rule = c.rule-rule.result; principal = c.principal-principal.result; cites = c.deref-2.result.now }
    in
    IfOk-weaker c.enter.result
    (Enters later c.put_subproofs.new.sharing line c.enter.new.self)
    (PutsProof c.args.logic c.args.pool.now c.args.sharing.now later c.enter.new.self c.args.items.now c.args.proof.now)
    (step_put c.args.pool.now now c.premises.ensures.grows c.args.logic c.args.items.now c.requires.items c.args.proof.now c.requires.proof
    c.rule-rule.result c.principal-principal.result c.rule-rule.ensures c.principal-principal.ensures c.deref.result.now left
    c.args.sharing.now c.requires.table later c.put_subproofs.new.sharing c.deref-2.result.now put grows c.enter.new.self)
    c.enter.ensures.entered

pub put-returns-clause-live : goal.put-returns-clause-live
put-returns-clause-live t c =
    let now = c.premises.new.pool in
    let later = c.put_subproofs.new.pool in
    let left =
    subst (ArePremises c.args.logic now c.rule-rule.result c.principal-principal.result c.args.items.now) (sym c.deref.ensures.value)
    c.in_ok-premises.ensures.sets
    in
    let put =
    subst (PutsSubproofs c.args.logic now c.args.sharing.now later c.put_subproofs.new.sharing c.deref.result.now c.args.proof.now)
    (sym c.deref-2.ensures.value) c.in_ok-cites.ensures.put
    in
    let grows = Grows-trans c.args.pool.now now later c.premises.ensures.grows c.put_subproofs.ensures.grows in
    let line : Line SignedId =
    record { members = c.args.items.now; rule = c.rule-rule.result; principal = c.principal-principal.result; cites = c.deref-2.result.now }
    in
    IfOk-weaker c.enter.result
    (Enters later c.put_subproofs.new.sharing line c.enter.new.self)
    (λ n. IsTableLive later c.enter.new.self)
    (step_live c.args.pool.now now c.premises.ensures.grows c.args.logic c.args.items.now c.requires.items c.args.proof.now c.requires.proof
    c.rule-rule.result c.principal-principal.result c.rule-rule.ensures c.principal-principal.ensures c.deref.result.now left
    c.args.sharing.now c.requires.table later c.put_subproofs.new.sharing c.deref-2.result.now put grows
    c.in_ok-cites.ensures.live c.enter.new.self)
    c.enter.ensures.entered

pub put_subproofs-loop-i-init : goal.put_subproofs-loop-i-init
put_subproofs-loop-i-init t c =
    let table = table_at c.args.pool.now c.args.sharing.now in
    record {
      grows = Grows-same c.args.pool.now;
      live = c.requires.table;
      put = λ goal d. none_put c.args.logic goal table c.new-cites.result.items c.new-cites.ensures.items;
    }

pub put_subproofs-sub-requires : goal.put_subproofs-sub-requires
put_subproofs-sub-requires t c =
    sub_below c.args.logic c.args.pool.now c.args.premises.now c.args.proof.now
    c.requires.derived.0 c.requires.derived.1 c.loop-i.i c.loop-i-test.true

pub put_subproofs-put-requires : goal.put_subproofs-put-requires
put_subproofs-put-requires t c =
    let now = c.loop-i.pool in
    let grows = c.loop-i.invariant.grows in
    let items_live = subst (AreLive c.args.pool.now) (sym c.index-premises-i.is) (c.requires.premises c.loop-i.i _ c.loop-i-test.true) in
    let sub_live = c.sub.ensures.live c.args.pool.now c.requires.proof in
    let derived =
    derives_at c.args.logic c.args.pool.now c.args.premises.now c.args.proof.now
    c.loop-i.i c.index-premises-i.result c.sub.result.now c.loop-i-test.true c.index-premises-i.is c.sub.ensures.sub
    c.requires.derived.0 c.requires.derived.1
    in
    let later =
    derives_later c.args.pool.now now grows c.args.logic c.index-premises-i.result items_live c.sub.result.now sub_live
    c.requires.derived.0 derived
    in (
      search rules,
      (
        c.loop-i.invariant.live,
        (
          AreLive_grows c.args.pool.now now grows c.index-premises-i.result items_live,
          (
            IsProofLive_grows c.args.pool.now now grows c.sub.result.now sub_live,
            (c.requires.derived.0, later),
          ),
        ),
      ),
    )

pub put_subproofs-loop-i-preserved : goal.put_subproofs-loop-i-preserved
put_subproofs-loop-i-preserved t c =
    let now = c.loop-i.pool in
    let grows = c.loop-i.invariant.grows in
    let items_live = subst (AreLive c.args.pool.now) (sym c.index-premises-i.is) (c.requires.premises c.loop-i.i _ c.loop-i-test.true) in
    record {
      grows = Grows-trans c.args.pool.now now c.put.new.pool grows c.put.ensures.grows;
      live = c.in_ok-line.ensures.live;
      put = λ goal d.
          sub_put c.args.logic c.args.pool.now c.args.premises.now c.args.proof.now
          c.loop-i.i c.index-premises-i.result c.sub.result.now c.loop-i-test.true c.index-premises-i.is c.sub.ensures.sub
          items_live (c.sub.ensures.live c.args.pool.now c.requires.proof) now c.put.new.pool grows
          c.args.sharing.now c.loop-i.sharing c.put.new.sharing goal d
          c.loop-i.cites.items c.push.new.self.items c.in_ok-line.line c.in_ok-push.ensures.items
          (c.loop-i.invariant.put goal d) c.in_ok-line.ensures.put;
    }

pub put_subproofs-returns-clause-put : goal.put_subproofs-returns-clause-put
put_subproofs-returns-clause-put t c = λ goal d.
    all_put c.args.logic c.args.pool.now c.args.premises.now c.args.proof.now goal d
    (table_at c.args.pool.now c.args.sharing.now) (table_at c.loop-i.pool c.loop-i.sharing)
    c.loop-i.cites.items c.loop-i.i c.loop-i-test.false (c.loop-i.invariant.put goal d)
