use Rattle.std.proofs.Common.{IfOk, subst, arith}
use Rattle.lw_pool.specs.Region.{IsAt}
use Rattle.lw_gen.proofs.BinaryDigits.{backward-halved}
use Rattle.lw_gen.proofs.formulas.+backward_word.Goals as goal

pub returns-clause-at : goal.returns-clause-at
returns-clause-at t c =
    subst (λ a. IfOk c.modal.result (IsAt c.modal.new.pool a))
    (backward-halved c.args.number _ _ (omega (arith, c.if-number-lt2.false)) c.in_ok-inner.ensures.at.1)
    c.modal.ensures.at
