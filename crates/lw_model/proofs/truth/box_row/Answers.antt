use Rattle.std.proofs.Common.{ℕ, ◌<◌, false, length, get_or, IsTrue, ◌∙◌, arith}
use Rattle.std.specs.Bool.{Decides}
use Rattle.std.proofs.lemmas.List.{length-set}
use Rattle.lw_formula.specs.FiniteModel.{Sees}
use Rattle.lw_model.proofs.TruthRows.{IsRow-nec, seen-within, set-below}
use Rattle.lw_model.proofs.truth.box_row.Goals as goal

pub is_true_at_all-requires : goal.is_true_at_all-requires
is_true_at_all-requires c = seen-within c.args.model.now c.loop-world.world c.successors.result.now (length c.args.of.now) c.worlds.ensures.well_formed c.requires c.successors.ensures.exact

pub loop-world-preserved : goal.loop-world-preserved
loop-world-preserved c =
    let m = c.args.model.now in
    let row = c.loop-world.row in
    let exact = c.successors.ensures.exact in
    let told = c.is_true_at_all.ensures in
    let within : c.loop-world.world < length row = omega arith in
    rw c.set.ensures (
      length-set row c.loop-world.world c.is_true_at_all.result ∙ c.loop-world.invariant.0,
      set-below (λ w b. Decides b ((v : ℕ) → Sees m w v → IsTrue (get_or c.args.of.now v false))) row c.loop-world.world c.is_true_at_all.result within c.loop-world.invariant.1
          (λ t v s. told.0 t v ((exact v).1 s), λ all. told.1 (λ v h. all v ((exact v).0 h))),
    )

pub returns : goal.returns
returns c a r = IsRow-nec c.args.model.now a c.args.of.now c.loop-world.row c.worlds.ensures.well_formed c.loop-world.invariant.0 (λ w k. c.loop-world.invariant.1 w (omega arith)) r
