use Rattle.lw_pool.proofs.pool.Pool.+to_form.Given as goal

abbrev pub decreases-to_form : goal.decreases-to_form
decreases-to_form l = l.id.0
