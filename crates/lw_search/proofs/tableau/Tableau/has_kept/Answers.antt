use Rattle.std.proofs.Common.{◌≡◌, ℕ, true, refl, sym, subst, ◌∙◌, inl, inr, arith}
use Rattle.std.proofs.lemmas.Bool.{both_ways, cases_eq, false≢true}
use Rattle.lw_proof.specs.System.{IsWithin}
use Rattle.lw_sat.specs.Sets.{among, top}
use Rattle.lw_search.specs.Private.StepUse.{kept_of}
use Rattle.lw_search.proofs.KeptItems.{each_kept, kept_some}
use Rattle.lw_search.proofs.tableau.Tableau.has_kept.Goals as goal
use Rattle.lw_search.proofs.tableau.Tableau.has_kept.Goals.{else-has-via-then-has+else-not-has_kept_of, else-has-via-else-has}

pub loop-item-preserved : goal.loop-item-preserved
loop-item-preserved g c i l there =
    elim (cases_eq i c.loop-item.item) [
      | inl same ↦ subst (λ (j : ℕ). IsWithin (kept_of c.args.self.now j) (among c.args.items.now)) (sym same)
          (elim c.else-has.branch [
            | else-has-via-then-has+else-not-has_kept_of w ↦ w.has_kept_of.ensures.0 w.if-not-has_kept_of.false
            | else-has-via-else-has w ↦ absurd (both_ways (top c.args.label.now.labels c.loop-item.item) (sym c.has.ensures ∙ w.if-has.false) (subst (λ (j : ℕ). top c.args.label.now.labels j ≡ true) same there))
          ])
      | inr apart ↦ c.loop-item.invariant i (omega arith) there
    ]

pub returns-then-not-has_kept_of : goal.returns-then-not-has_kept_of
returns-then-not-has_kept_of g c =
    let t = c.args.self.now in
    let is = c.item_count-item-end.ensures.tableau in
    let X = top c.args.label.now.labels in (
      λ e. absurd (false≢true e),
      λ h. absurd (both_ways c.has_kept_of.result c.if-not-has_kept_of.true (c.has_kept_of.ensures.1 (λ j k. h j (each_kept t is.uncut X c.requires j c.loop-item.item (sym c.has.ensures ∙ c.if-has.true) k)))),
    )

pub returns : goal.returns
returns g c =
    let t = c.args.self.now in
    let is = c.item_count-item-end.ensures.tableau in
    let X = top c.args.label.now.labels in (
      λ e j k. (let (i, there, keeps) = kept_some t is.uncut X c.requires j k in let below = c.requires i there in c.loop-item.invariant i (omega arith) there j keeps),
      λ h. refl,
    )
