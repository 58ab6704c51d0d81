use Rattle.std.proofs.Common.{◌∙◌, ◌<◌, length, arith}
use Rattle.std.specs.Bool.{Decides}
use Rattle.std.proofs.lemmas.List.{length-set}
use Rattle.lw_formula.specs.FiniteModel.{HasFact}
use Rattle.lw_model.proofs.TruthRows.{IsRow-letter, set-below}
use Rattle.lw_model.proofs.truth.letter_row.Goals as goal

pub loop-world-preserved : goal.loop-world-preserved
loop-world-preserved c =
    let row = c.loop-world.row in
    let within : c.loop-world.world < length row = omega arith in
    rw c.set.ensures (
      length-set row c.loop-world.world c.fact.result ∙ c.loop-world.invariant.0,
      set-below (λ w b. Decides b (HasFact c.args.model.now w c.args.name.now)) row c.loop-world.world c.fact.result within c.loop-world.invariant.1 c.fact.ensures,
    )

pub returns : goal.returns
returns c = IsRow-letter c.args.model.now c.args.name.now c.loop-world.row c.loop-world.invariant.0 (λ w k. c.loop-world.invariant.1 w (omega arith))
