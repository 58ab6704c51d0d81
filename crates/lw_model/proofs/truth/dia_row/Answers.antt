use Rattle.std.proofs.Common.{ℕ, ◌<◌, false, length, get_or, IsTrue, ◌∙◌, arith}
use Rattle.std.specs.Bool.{Decides}
use Rattle.std.proofs.lemmas.List.{length-set}
use Rattle.lw_formula.specs.FiniteModel.{Sees}
use Rattle.lw_model.proofs.TruthRows.{IsRow-poss, seen-within, set-below}
use Rattle.lw_model.proofs.truth.dia_row.Goals as goal

pub is_true_at_some-requires : goal.is_true_at_some-requires
is_true_at_some-requires c = seen-within c.args.model.now c.loop-world.world c.successors.result.now (length c.args.of.now) c.worlds.ensures.well_formed c.requires c.successors.ensures.exact

pub loop-world-preserved : goal.loop-world-preserved
loop-world-preserved c =
    let m = c.args.model.now in
    let row = c.loop-world.row in
    let exact = c.successors.ensures.exact in
    let told = c.is_true_at_some.ensures in
    let within : c.loop-world.world < length row = omega arith in
    rw c.set.ensures (
      length-set row c.loop-world.world c.is_true_at_some.result ∙ c.loop-world.invariant.0,
      set-below (λ w b. Decides b ((v : ℕ) × Sees m w v × IsTrue (get_or c.args.of.now v false))) row c.loop-world.world c.is_true_at_some.result within c.loop-world.invariant.1
          (λ t. let some = told.0 t in (some.0, (exact some.0).0 some.1, some.2), λ some. told.1 (some.0, (exact some.0).1 some.1, some.2)),
    )

pub returns : goal.returns
returns c a r = IsRow-poss c.args.model.now a c.args.of.now c.loop-world.row c.worlds.ensures.well_formed c.loop-world.invariant.0 (λ w k. c.loop-world.invariant.1 w (omega arith)) r
