use Rattle.std.proofs.Common.{◌+◌, sym, ◌∙◌, ap, ◌∷◌, [], arith, subst, refl}
use Rattle.lw_sat.specs.Sets.{adding, top}
use Rattle.lw_sat.specs.Private.LastRow.{Replaces}
use Rattle.lw_sat.proofs.LastRowChanges.{poured, poured_more, poured_same, poured_all, poured_none, replaces_on, replaces_as}
use Rattle.lw_sat.proofs.bits.pour.Goals as goal
use Rattle.lw_sat.proofs.bits.pour.Goals.{then-has, else-has}

pub loop-item-init : goal.loop-item-init
loop-item-init c = record { there = c.requires.into_there; top = poured_none (top c.args.from.now) (top c.args.into.now); lower = refl; width = refl }

pub loop-item-preserved : goal.loop-item-preserved
loop-item-preserved c =
    let h = c.loop-item.invariant in
    let F = top c.args.from.now in
    let Y = top c.args.into.now in
    elim c.if-has.branch [
      | then-has w ↦
          subst (λ u. Replaces c.args.into.now u (poured F Y (c.loop-item.item + 1))) (sym w.into-is)
          (replaces_as _ _ _ _ (ap (adding (c.loop-item.item ∷ [])) h.top ∙ poured_more F Y c.loop-item.item (sym c.has.ensures ∙ w.if-has.true))
          (replaces_on _ _ _ _ _ h w.add.ensures))
      | else-has w ↦
          subst (λ u. Replaces c.args.into.now u (poured F Y (c.loop-item.item + 1))) (sym w.into-is)
          (replaces_as _ _ _ _ (poured_same F Y c.loop-item.item (sym c.has.ensures ∙ w.if-has.false)) h)
    ]

pub returns : goal.returns
returns c = replaces_as _ _ _ _ (poured_all c.args.from.now (top c.args.into.now) c.loop-item.item c.requires.from_there (omega (arith, c.requires.from_long, c.loop-item-test.false))) c.loop-item.invariant
