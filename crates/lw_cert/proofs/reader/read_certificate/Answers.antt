use Rattle.std.proofs.Common.{◌≡◌, [], List, sym, subst, arith}
use Rattle.std.proofs.lemmas.Result.{err_from_is_err_and}
use Rattle.lw_formula.specs.Formula.{Formula}
use Rattle.lw_cert.specs.declared.stage.Stage.TheVariants as stage
use Rattle.lw_cert.specs.Lines.{Whole, pieces}
use Rattle.lw_cert.specs.CertificateFaults.{IsFaultOf}
use Rattle.lw_cert.specs.Certificates.{IsTextOf}
use Rattle.lw_cert.specs.Private.StageViews.{Reached, Refuses, last_piece}
use Rattle.lw_cert.proofs.WordReaders.{ok-more, err-more}
use Rattle.lw_cert.proofs.LinesSoFar.{reached-more, refused, finished, grows-trans}
use Rattle.lw_cert.proofs.reader.read_certificate.Goals as goal

pub returns-in_err-stage-clause-fault : goal.returns-in_err-stage-clause-fault
returns-in_err-stage-clause-fault c =
    let k = err_from_is_err_and c.from_residual.result c.from_residual.ensures.1 in
    let text = c.args.text.now in
    let e = c.in_err-stage.field-0.0 in
    let reached = subst (λ ps. Reached (pieces text) c.loop-line.at ps c.loop-line.pool c.loop-line.stage) c.in-Some.ensures.1 c.loop-line.invariant.1 in
    let told = refused text c.loop-line.at (Whole c.in-Some.line.now) (pieces c.in-Some.next.now) c.loop-line.pool c.loop-line.stage reached e c.in_err-stage.ensures.fault in
    rw k.1 (subst (IsFaultOf text) (sym k.2) told)

pub loop-line-preserved : goal.loop-line-preserved
loop-line-preserved c =
    let text = c.args.text.now in
    let shorter = c.in-Some.ensures.0 in
    let within = c.loop-line.invariant.0 in
    let reached = subst (λ ps. Reached (pieces text) c.loop-line.at ps c.loop-line.pool c.loop-line.stage) c.in-Some.ensures.1 c.loop-line.invariant.1 in (
      omega (arith, shorter, within),
      reached-more (pieces text) c.loop-line.at c.in-Some.line.now (pieces c.in-Some.next.now) c.loop-line.pool c.taken.new.pool c.loop-line.stage c.in_ok-stage.stage reached c.in_ok-stage.ensures.next,
      grows-trans c.args.pool.now c.loop-line.pool c.taken.new.pool c.loop-line.invariant.2 c.in_ok-stage.ensures.grows,
    )

pub returns-clause-certificate : goal.returns-clause-certificate
returns-clause-certificate c =
    let text = c.args.text.now in
    let rest = c.loop-line.rest.now in
    ok-more (λ k. (rest ≡ []) × (c.loop-line.stage ≡ stage.Ended k)) (λ k. IsTextOf c.loop-line.pool k text)
    (λ k p. finished text rest c.loop-line.at c.loop-line.pool c.loop-line.stage k c.loop-line.invariant.1 p.0 p.1)
    c.ended.result c.ended.ensures.certificate

pub returns-clause-fault : goal.returns-clause-fault
returns-clause-fault c =
    let text = c.args.text.now in
    let rest = c.loop-line.rest.now in
    let reached = subst (λ ps. Reached (pieces text) c.loop-line.at ps c.loop-line.pool c.loop-line.stage) c.in_default.ensures c.loop-line.invariant.1 in
    err-more (λ e. (ts : List Formula) → Refuses ts c.loop-line.stage (last_piece rest) c.loop-line.at e) (IsFaultOf text)
    (λ e p. refused text c.loop-line.at (last_piece rest) [] c.loop-line.pool c.loop-line.stage reached e (p c.loop-line.pool))
    c.ended.result c.ended.ensures.fault
