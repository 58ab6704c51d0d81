use Rattle.lw_gen.proofs.formulas.+boxes.Given as goal

abbrev pub decreases-boxes : goal.decreases-boxes
decreases-boxes l = l.count
