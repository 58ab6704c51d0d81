use Rattle.lw_gen.proofs.formulas.+backward_word.Given as goal

abbrev pub decreases-backward_word : goal.decreases-backward_word
decreases-backward_word l = l.number
