use Rattle.std.proofs.Common.{◌≡◌, ℕ, true, sym, ap, subst, ◌∙◌, inl, inr, arith}
use Rattle.std.proofs.lemmas.Bool.{both_ways, cases_eq}
use Rattle.lw_counter.specs.Fragment.{items_of}
use Rattle.lw_sat.specs.Sets.{among, top}
use Rattle.lw_search.specs.Ranked.{IsServedBy}
use Rattle.lw_search.proofs.tableau.Tableau.target.Goals as goal
use Rattle.lw_search.proofs.tableau.Tableau.target.Goals.{else-contains-via-then-contains+else-has_kept, else-contains-via-else-contains}

pub loop-world-preserved : goal.loop-world-preserved
loop-world-preserved g c w l =
    let t = c.args.self.now in
    let X = top c.args.label.now.labels in
    let f = c.args.fragment.now in
    let same : among c.label-items.result.now ≡ items_of f c.loop-world.world = ap among c.label-items.ensures in
    elim (cases_eq w c.loop-world.world) [
      | inl e ↦ subst (λ (j : ℕ). ¬ IsServedBy t X (items_of f j) c.args.inner) (sym e)
          (λ served. elim c.else-contains.branch [
            | else-contains-via-then-contains+else-has_kept v ↦
                (let there = v.has_kept.ensures.1 (λ i k. subst (λ Y. Y i ≡ true) (sym same) (served.2 i k)) in absurd (both_ways v.has_kept.result v.if-has_kept.false there))
            | else-contains-via-else-contains v ↦
                (let there = subst (λ Y. Y c.args.inner ≡ true) (sym same) served.1 in absurd (both_ways c.contains.result v.if-contains.false (c.contains.ensures.value ∙ there)))
          ])
      | inr apart ↦ c.loop-world.invariant w (omega arith)
    ]
