use Rattle.std.proofs.Common.{◌≡◌, ◌+◌, ◌<◌, false, length, subst, sym, ◌∙◌, arith}
use Rattle.std.proofs.lemmas.List.{get_or_default}
use Rattle.lw_formula.specs.Formula.{Formula, IsSubformula}
use Rattle.lw_formula.proofs.SubformulaLists.{IsSubformula-refl}
use Rattle.lw_pool.specs.Region.{tree_at, AreMarks}
use Rattle.lw_pool.specs.Walk.{AreOperandsRight}
use Rattle.lw_pool.proofs.RegionGrowth.{Grows-trans}
use Rattle.lw_pool.proofs.FoldedTables.{IsFolded, fold_ready, fold_push}
use Rattle.lw_pool.proofs.walk.fold.Goals as goal

pub entry-requires-clause-operands : goal.entry-requires-clause-operands
entry-requires-clause-operands g c =
    λ wanted.
    let marked = subst (λ ts. AreMarks ts c.args.id c.in_ok-marks.marks.items) c.pool.ensures c.in_ok-marks.ensures in
    let l : c.loop-at.at < length c.in_ok-marks.marks.items = omega (arith, marked.long) in
    let here = get_or_default c.in_ok-marks.marks.items c.loop-at.at false c.index.result.now l ∙ sym c.index.ensures ∙ wanted in
    let part = marked.sound (record { 0 = c.loop-at.at }) here in
    let same = c.loop-at.invariant.0.grows.same (record { 0 = c.loop-at.at }) (omega (arith, c.requires.id)) in
    subst (λ ds. AreOperandsRight (g.F.Step.is_right c.args.by.now (g.P.Formulas.formulas c.loop-at.pool)) (g.P.Formulas.formulas c.loop-at.pool) ds (record { 0 = c.loop-at.at })) (sym c.deref.ensures.value)
    (fold_ready (g.F.Step.is_right c.args.by.now) (g.P.Formulas.formulas c.args.pool.now) (tree_at (g.P.Formulas.formulas c.args.pool.now) c.args.id) (record { 0 = c.loop-at.at }) (g.P.Formulas.formulas c.loop-at.pool) c.loop-at.done.items c.loop-at.invariant.0
    (subst (λ (t : Formula). IsSubformula t (tree_at (g.P.Formulas.formulas c.args.pool.now) c.args.id)) (sym same) part))

pub step-requires-clause-operands : goal.step-requires-clause-operands
step-requires-clause-operands g c =
    let all : c.loop-at.at ≡ c.args.id.0 = omega arith in
    subst (λ ds. AreOperandsRight (g.F.Step.is_right c.args.by.now (g.P.Formulas.formulas c.loop-at.pool)) (g.P.Formulas.formulas c.loop-at.pool) ds c.args.id) (sym c.deref-2.ensures.value)
    (fold_ready (g.F.Step.is_right c.args.by.now) (g.P.Formulas.formulas c.args.pool.now) (tree_at (g.P.Formulas.formulas c.args.pool.now) c.args.id) c.args.id (g.P.Formulas.formulas c.loop-at.pool) c.loop-at.done.items
    (subst (λ k. IsFolded (g.F.Step.is_right c.args.by.now) (g.P.Formulas.formulas c.args.pool.now) (tree_at (g.P.Formulas.formulas c.args.pool.now) c.args.id) k (g.P.Formulas.formulas c.loop-at.pool) c.loop-at.done.items) all c.loop-at.invariant.0)
    (subst (λ (t : Formula). IsSubformula t (tree_at (g.P.Formulas.formulas c.args.pool.now) c.args.id)) (sym (c.loop-at.invariant.0.grows.same c.args.id c.requires.id)) (IsSubformula-refl (tree_at (g.P.Formulas.formulas c.args.pool.now) c.args.id))))

pub loop-at-preserved : goal.loop-at-preserved
loop-at-preserved g c =
    let old = g.P.Formulas.formulas c.args.pool.now in
    let ts = g.P.Formulas.formulas c.loop-at.pool in
    let us = g.P.Formulas.formulas c.entry.new.pool in
    let marked = subst (λ ts. AreMarks ts c.args.id c.in_ok-marks.marks.items) c.pool.ensures c.in_ok-marks.ensures in
    let l : c.loop-at.at < length c.in_ok-marks.marks.items = omega (arith, marked.long) in
    let same = c.loop-at.invariant.0.grows.same (record { 0 = c.loop-at.at }) (omega (arith, c.requires.id)) in
    let push = fold_push (g.F.Step.is_right c.args.by.now) old (tree_at old c.args.id) (record { 0 = c.loop-at.at }) ts us c.loop-at.done.items c.in_ok-out.out
    c.loop-at.invariant.0 (omega (arith, c.loop-at.invariant.0.grows.longer, c.requires.id)) c.entry.ensures.grows
    (λ t x h. g.met.F.Step.lasts c.args.by.now ts us t x c.entry.ensures.grows c.loop-at.invariant.1 h)
    (λ s. c.in_ok-out.ensures.right
    (c.index.ensures ∙ sym (get_or_default c.in_ok-marks.marks.items c.loop-at.at false c.index.result.now l)
    ∙ marked.complete (record { 0 = c.loop-at.at }) (omega (arith, c.requires.id)) (subst (λ (t : Formula). IsSubformula t (tree_at old c.args.id)) same s))) in (
      subst (IsFolded (g.F.Step.is_right c.args.by.now) old (tree_at old c.args.id) (c.loop-at.at + 1) us) (sym c.in_ok-push.ensures.items) push,
      g.met.F.Step.suits_on c.args.by.now ts us c.entry.ensures.grows c.loop-at.invariant.1,
    )

pub returns-in_err-out-clause-grows : goal.returns-in_err-out-clause-grows
returns-in_err-out-clause-grows g c = Grows-trans _ _ _ c.loop-at.invariant.0.grows c.entry.ensures.grows

pub returns-in_err-push-clause-grows : goal.returns-in_err-push-clause-grows
returns-in_err-push-clause-grows g c = Grows-trans _ _ _ c.loop-at.invariant.0.grows c.entry.ensures.grows

pub returns-clause-grows : goal.returns-clause-grows
returns-clause-grows g c = Grows-trans _ _ _ c.loop-at.invariant.0.grows c.step.ensures.grows
