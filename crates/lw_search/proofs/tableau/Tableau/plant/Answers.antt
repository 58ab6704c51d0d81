use Rattle.std.proofs.Common.{◌≡◌, sym, ap, subst, ◌∙◌, arith}
use Rattle.lw_proof.specs.Derivation.{added}
use Rattle.lw_closure.specs.Items.{items}
use Rattle.lw_closure.specs.Table.{item_count}
use Rattle.lw_sat.specs.Moves.{listed}
use Rattle.lw_sat.specs.SeedPath.{spot_of, IsWide}
use Rattle.lw_sat.specs.Sets.{top, AreBelow}
use Rattle.lw_sat.proofs.ItemDemands.{below_more}
use Rattle.lw_search.proofs.LabelsByItem.{kept_more, kept_skip, planted, planted_room}
use Rattle.lw_search.proofs.StepSeeds.{added_below}
use Rattle.lw_search.specs.Step.{seed}
use Rattle.lw_search.proofs.tableau.Tableau.plant.Goals as goal
use Rattle.lw_search.proofs.tableau.Tableau.plant.Goals.{then-has, else-has}

pub loop-kept-preserved : goal.loop-kept-preserved
loop-kept-preserved g c =
    let t = c.args.self.now in
    let X = top c.args.label.now.labels in
    let h = c.loop-kept.invariant in
    elim c.if-has.branch [
      | then-has w ↦ record {
        wide = subst (IsWide t) (sym w.seed-is) (let bits = w.take_along.ensures.bits in let wide = h.wide in omega arith);
        few = (let bits = w.take_along.ensures.bits in let same = ap (λ b. b.bits) w.seed-is in let few = h.few in omega arith);
        spot = ap spot_of w.seed-is ∙ kept_more t X c.loop-kept.kept c.loop-kept.seed w.take_along.new.board (sym c.has.ensures ∙ w.if-has.true) h.spot w.take_along.ensures;
      }
      | else-has w ↦ record {
        wide = subst (IsWide t) (sym w.seed-is) h.wide;
        few = (let same = ap (λ b. b.bits) w.seed-is in let few = h.few in omega arith);
        spot = ap spot_of w.seed-is ∙ kept_skip t X c.loop-kept.kept c.loop-kept.seed (sym c.has.ensures ∙ w.if-has.false) h.spot;
      }
    ]

pub add_side-requires : goal.add_side-requires
add_side-requires g c =
    let t = c.args.self.now in
    let is = rw c.self.view_is at c.self.invariant in
    let same : added (items t) t.logic c.args.item c.args.inner ≡ listed (c.args.inner, c.beside.result) = ap (λ L. added (items t) L c.args.item c.args.inner) is.logic ∙ (rw c.self.view_is at c.beside.ensures) c.args.inner in
    below_more (item_count t) c.loop-kept.seed.bits c.loop-kept.invariant.wide (listed (c.args.inner, c.beside.result))
    (subst (AreBelow (item_count t)) same (added_below t is.table c.args.item c.args.inner c.requires.item c.requires.inner))

pub returns-clause-spot : goal.returns-clause-spot
returns-clause-spot g c =
    let t = c.args.self.now in
    let is = rw c.self.view_is at c.self.invariant in
    let same : added (items t) t.logic c.args.item c.args.inner ≡ listed (c.args.inner, c.beside.result) = ap (λ L. added (items t) L c.args.item c.args.inner) is.logic ∙ (rw c.self.view_is at c.beside.ensures) c.args.inner in
    planted t is.uncut (top c.args.label.now.labels) c.requires.items c.loop-kept.kept (omega arith) c.loop-kept.seed c.add_side.new.self c.args.item c.args.inner c.beside.result c.loop-kept.invariant.spot same c.add_side.ensures

pub returns-clause-room : goal.returns-clause-room
returns-clause-room g c =
    let t = c.args.self.now in
    let is = rw c.self.view_is at c.self.invariant in
    let same : added (items t) t.logic c.args.item c.args.inner ≡ listed (c.args.inner, c.beside.result) = ap (λ L. added (items t) L c.args.item c.args.inner) is.logic ∙ (rw c.self.view_is at c.beside.ensures) c.args.inner in
    let spot = planted t is.uncut (top c.args.label.now.labels) c.requires.items c.loop-kept.kept (omega arith) c.loop-kept.seed c.add_side.new.self c.args.item c.args.inner c.beside.result c.loop-kept.invariant.spot same c.add_side.ensures in
    let bits = c.add_side.ensures.bits in
    let few = c.loop-kept.invariant.few in
    planted_room (item_count t) c.add_side.new.self (seed t (top c.args.label.now.labels) c.args.item c.args.inner) spot (omega arith)
