use Rattle.std.proofs.Common.{take, ap, ◌∙◌}
use Rattle.lw_pool.proofs.RegionGrowth.{Grows-cut}
use Rattle.lw_eval.proofs.print.print.Goals as goal

pub returns-clause-same : goal.returns-clause-same
returns-clause-same g c = c.release.ensures ∙ ap (λ n. take n c.print_values-answer.new.pool) c.mark-mark.ensures ∙ Grows-cut c.args.pool.now c.print_values-answer.new.pool c.print_values-answer.ensures.grows
