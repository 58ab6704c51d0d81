use Rattle.std.proofs.Common.{◌≡◌, subst}
use Rattle.lw_counter.specs.Fragment.{formulas_of}
use Rattle.lw_counter.specs.Countermodel.{IsModelOf}
use Rattle.lw_search.specs.Outcome.{OutcomeFits}
use Rattle.lw_search.proofs.LoopAnswers.{closed_answers, open_answers}
use Rattle.lw_search.proofs.answering.answer.Goals as goal

pub returns-in-Closed : goal.returns-in-Closed
returns-in-Closed c =
    let fits = subst (OutcomeFits c.args.pool.now c.args.closure.now c.requires.fits.0) c.in-Closed.is c.requires.fits.2 in
    closed_answers c.args.pool.now c.args.closure.now c.requires.keeps c.requires.fits.0 c.requires.fits.1 c.in-Closed.proof fits

pub returns-in_ok-model-in-Open : goal.returns-in_ok-model-in-Open
returns-in_ok-model-in-Open c =
    let fits = subst (OutcomeFits c.args.pool.now c.args.closure.now c.requires.fits.0) c.in-Open.is c.requires.fits.2 in
    let same : c.logic.result ≡ c.args.closure.now.logic = c.logic.ensures in
    let is = subst (λ L. IsModelOf L c.in-Open.fragment (formulas_of c.args.pool.now c.args.closure.now c.in-Open.fragment) c.in_ok-model-in-Open.model) same c.in_ok-model-in-Open.ensures in
    open_answers c.args.pool.now c.args.closure.now c.requires.keeps c.requires.fits.0 c.requires.fits.1 c.in-Open.fragment c.in_ok-model-in-Open.model fits is
