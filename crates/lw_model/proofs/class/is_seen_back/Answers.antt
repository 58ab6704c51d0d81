use Rattle.std.proofs.Common.{rules, tests}
use Rattle.std.proofs.lemmas.Iterator.{cases_from_all, YieldsList-from_slice}
use Rattle.lw_formula.specs.FiniteModel.{Sees}
use Rattle.lw_model.proofs.FrameTests.{iff_from_cases}
use Rattle.lw_model.proofs.class.is_seen_back.Goals as goal

pub returns : goal.returns
returns c =
    let m = c.args.model.now in
    let ws = c.successors.result.now in
    iff_from_cases m c.args.from ws (λ w. Sees m w c.args.from) c.all.result c.successors.ensures.exact
    (cases_from_all _ _ _ (λ w. Sees m w c.args.from) (λ w. ¬ (Sees m w c.args.from)) c.all.ensures.ran (YieldsList-from_slice ws cc)
    (λ x q k. search (rules, tests))
    (λ x q k. search (rules, tests)))
