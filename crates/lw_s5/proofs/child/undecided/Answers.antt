use Rattle.std.proofs.Common.{◌≡◌, ℕ, ◌*◌, true, sym, ◌∙◌, arith, below_more}
use Rattle.std.proofs.lemmas.Bool.{both_ways}
use Rattle.lw_proof.specs.Derivation.{is_modal_part}
use Rattle.lw_closure.specs.Table.{entry_at}
use Rattle.lw_sat.specs.Course.{label}
use Rattle.lw_s5.specs.Private.RootedSearch.{decides}
use Rattle.lw_s5.proofs.DecidedLabels.{decided_by}
use Rattle.lw_s5.proofs.child.undecided.Goals as goal
use Rattle.lw_s5.proofs.child.undecided.Goals.{else-is_modal-via-then-is_modal+then-decides+else-not-decides, else-is_modal-via-then-is_modal+else-decides, else-is_modal-via-else-is_modal}

pub loop-formula-preserved : goal.loop-formula-preserved
loop-formula-preserved c =
    let t = c.args.closure.now in
    let R = label c.args.root.now in
    let X = label c.args.child.now in
    let P : ℕ → Type 0 = λ f. is_modal_part (entry_at t (2 * f)).parts ≡ true → decides X f ≡ true → decides R f ≡ true in
    below_more P c.loop-formula.formula c.loop-formula.invariant
    (λ modal there. elim c.else-is_modal.branch [
      | else-is_modal-via-then-is_modal+then-decides+else-not-decides w ↦ sym w.decides-then-decides.ensures ∙ w.if-not-decides.false
      | else-is_modal-via-then-is_modal+else-decides w ↦ absurd (both_ways _ (sym w.decides.ensures ∙ w.if-decides.false) there)
      | else-is_modal-via-else-is_modal w ↦ absurd (both_ways _ (sym c.is_modal.ensures ∙ w.if-is_modal.false) modal)
    ])

pub returns-clause-none : goal.returns-clause-none
returns-clause-none c =
    decided_by c.args.closure.now (label c.args.root.now) (label c.args.child.now) c.requires.alike c.requires.child.items
    (λ f l. c.loop-formula.invariant f (omega (arith, l, c.loop-formula-test.false, c.count-formula-end.ensures.count)))
