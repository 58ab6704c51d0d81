use Rattle.lw_gen.proofs.formulas.+word.Given as goal

abbrev pub decreases-word : goal.decreases-word
decreases-word l = l.number
