use Rattle.std.proofs.Common.{ℕ, ◌+◌, Bool, ◌||◌, eqb, ap, sym, refl, subst, ◌∙◌, arith}
use Rattle.std.proofs.lemmas.Bool.{eq-eqb, ne_eqb, or_from, or_left, or_right}
use Rattle.lw_proof.specs.System.{Set}
use Rattle.lw_sat.specs.declared.board.Board.{Board}
use Rattle.lw_sat.specs.SeedPath.{spot_of, Becomes}
use Rattle.lw_sat.specs.Sets.{top}
use Rattle.lw_search.specs.Private.StepUse.{kept_of, meets}
use Rattle.lw_search.proofs.LabelsByItem.{cleared, cleared_all, cleared_none, passes_on, taken_out}
use Rattle.lw_search.proofs.tableau.Tableau.keep_sent.Goals as goal
use Rattle.lw_search.proofs.tableau.Tableau.keep_sent.Goals.{then-other-item+then-not-sends, else-other-item, else-other-item-via-then-other-item+else-not-sends, else-other-item-via-else-other-item}

pub loop-other-init : goal.loop-other-init
loop-other-init g c =
    let b = c.args.board.now in
    record {
      spot = ap (λ (X : Set ℕ). record (spot_of b) { set = X }) (cleared_none (top b.labels) (λ i. eqb c.args.item i || meets c.args.self.now (kept_of c.args.self.now i) (top c.args.above.now.labels)));
      bits = refl;
    }

pub loop-other-preserved : goal.loop-other-preserved
loop-other-preserved g c =
    let t = c.args.self.now in
    let b = c.args.board.now in
    let W = top c.args.above.now.labels in
    let k = c.loop-other.other in
    let test : ℕ → Bool = λ i. eqb c.args.item i || meets t (kept_of t i) W in
    let goes = λ (d : Board). Becomes b d (record (spot_of b) { set = cleared (top b.labels) test (k + 1) }) in
    elim c.if-other-item.branch [
      | then-other-item+then-not-sends w ↦ subst goes (sym w.board-is)
          (taken_out (top b.labels) test k b c.loop-other.board c.loop-other.invariant w.remove.new.self
          (or_from (eqb c.args.item k) (meets t (kept_of t k) W) (ne_eqb c.args.item k (λ e. w.if-other-item.true (sym e))) (sym w.sends.ensures ∙ w.if-not-sends.true)) w.remove.ensures)
      | else-other-item w ↦ subst goes (sym w.board-is) (passes_on (top b.labels) test k b c.loop-other.board c.loop-other.invariant
          (elim w.else-other-item.branch [
            | else-other-item-via-then-other-item+else-not-sends v ↦ or_right (eqb c.args.item k) (meets t (kept_of t k) W) (sym v.sends.ensures ∙ v.if-not-sends.false)
            | else-other-item-via-else-other-item v ↦ or_left (eqb c.args.item k) (meets t (kept_of t k) W) (eq-eqb c.args.item k (sym v.if-other-item.false))
          ]))
    ]

pub returns : goal.returns
returns g c =
    let t = c.args.self.now in
    let b = c.args.board.now in
    let W = top c.args.above.now.labels in
    subst (λ (X : Set ℕ). Becomes b c.loop-other.board (record (spot_of b) { set = X }))
    (cleared_all t (top b.labels) (λ i. meets t (kept_of t i) W) c.args.item c.loop-other.other c.requires.items c.requires.there (omega arith)) c.loop-other.invariant
