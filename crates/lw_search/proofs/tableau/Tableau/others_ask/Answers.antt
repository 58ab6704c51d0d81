use Rattle.std.proofs.Common.{◌≡◌, ℕ, true, ◌&&◌, sym, subst, ◌∙◌, inl, inr, arith}
use Rattle.std.proofs.lemmas.Bool.{and_from, and_parts, both_ways, cases_eq, false_from_ne_true}
use Rattle.lw_closure.specs.Table.{item_count}
use Rattle.lw_closure.proofs.ItemNumbers.{any_below_cases, any_below-found}
use Rattle.lw_sat.specs.Sets.{top}
use Rattle.lw_search.specs.Private.StepAskers.{goes_before, others_ask}
use Rattle.lw_search.proofs.tableau.Tableau.others_ask.Goals as goal
use Rattle.lw_search.proofs.tableau.Tableau.others_ask.Goals.{else-has-via-then-has+else-goes_before, else-has-via-else-has}

pub loop-other-preserved : goal.loop-other-preserved
loop-other-preserved g c i l there before =
    elim (cases_eq i c.loop-other.other) [
      | inl same ↦ elim c.else-has.branch [
        | else-has-via-then-has+else-goes_before w ↦
            both_ways w.goes_before.result w.if-goes_before.false (w.goes_before.ensures ∙ subst (λ (j : ℕ). goes_before c.args.self.now c.args.item j ≡ true) same before)
        | else-has-via-else-has w ↦ both_ways (top c.args.label.now.labels c.loop-other.other) (sym c.has.ensures ∙ w.if-has.false) (subst (λ (j : ℕ). top c.args.label.now.labels j ≡ true) same there)
      ]
      | inr apart ↦ c.loop-other.invariant i (omega arith) there before
    ]

pub returns-then-goes_before : goal.returns-then-goes_before
returns-then-goes_before g c =
    let t = c.args.self.now in
    let X = top c.args.label.now.labels in
    let there : X c.loop-other.other ≡ true = sym c.has.ensures ∙ c.if-has.true in
    sym (any_below-found (λ i. X i && goes_before t c.args.item i) (item_count t) c.loop-other.other (c.requires c.loop-other.other there)
    (and_from (X c.loop-other.other) (goes_before t c.args.item c.loop-other.other) there (sym c.goes_before.ensures ∙ c.if-goes_before.true)))

pub returns : goal.returns
returns g c =
    let t = c.args.self.now in
    let X = top c.args.label.now.labels in
    sym (false_from_ne_true (others_ask t X c.args.item) (λ e.
    (let (i, l, h) = any_below_cases (λ i. X i && goes_before t c.args.item i) (item_count t) e in
    let both = and_parts (X i) (goes_before t c.args.item i) h in
    c.loop-other.invariant i (omega arith) both.0 both.1)))
