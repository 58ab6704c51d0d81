use Rattle.std.proofs.Common.{◌∙◌, refl, sym, subst}
use Rattle.std.proofs.lemmas.Bool.{false≢true}
use Rattle.std.proofs.lemmas.List.{take_all}
use Rattle.lw_formula.specs.declared.sign.Sign.TheVariants.{T}
use Rattle.lw_pool.specs.declared.id.SignedId.{SignedId}
use Rattle.lw_proof.specs.System.{IsWithin}
use Rattle.lw_sets.specs.IdSets.{set_of}
use Rattle.lw_share.proofs.CollectedSets.{within_none, within_more, not_within}
use Rattle.lw_share.proofs.sets.is_within.Goals as goal

abbrev first : SignedId
first = record { sign = T; form = record { 0 = 0 } }

pub loop-item-init : goal.loop-item-init
loop-item-init c = within_none c.args.pool.now c.args.set.now

pub loop-item-preserved : goal.loop-item-preserved
loop-item-preserved c =
    within_more c.args.pool.now c.args.items.now c.args.set.now c.loop-item.item-index first c.loop-item-test.true
    (sym c.has.ensures ∙ c.if-not-has.false) c.loop-item.invariant

pub returns-then-not-has : goal.returns-then-not-has
returns-then-not-has c = (
  λ e. absurd (false≢true e),
  λ h. absurd (not_within c.args.pool.now c.args.items.now c.args.set.now c.loop-item.item-index first c.loop-item-test.true (sym c.has.ensures ∙ c.if-not-has.true) h),
)

pub returns : goal.returns
returns c = (
  λ e. subst (λ xs. IsWithin (set_of c.args.pool.now xs) (set_of c.args.pool.now c.args.set.now)) (take_all c.loop-item.item-index c.args.items.now c.loop-item-test.false) c.loop-item.invariant,
  λ h. refl,
)
