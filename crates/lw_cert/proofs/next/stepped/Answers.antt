use Rattle.std.proofs.Common.{◌≤◌, ◌∙◌, ◌∷◌, [], ◌++◌, ap, reverse, replicate, add-one, arith}
use Rattle.std.proofs.lemmas.List.{reverse-append}
use Rattle.lw_cert.specs.Lines.{rule_word, depth_limit}
use Rattle.lw_cert.proofs.WordReaders.{match-some}
use Rattle.lw_cert.proofs.StageLines.{leads-step}
use Rattle.lw_cert.proofs.next.stepped.Goals as goal

pub returns-clause-next : goal.returns-clause-next
returns-clause-next c = λ all is.
    let low : c.args.depth ≤ depth_limit = omega arith in
    leads-step c.args.pool.now c.exact.new.pool c.args.line.now c.in-Some-sign_of.text.now c.args.head all c.push_all.new.depths c.args.steps c.push.new.self
    c.args.depth (reverse c.args.depths.items) c.in-Some.rule c.in-Some-sign_of.sign c.in-Some-2.form
    c.in_ok-form.ensures.grows
    (c.in-Some.ensures ∙ ap (λ xs. rule_word c.in-Some.rule ++ xs) c.in-Some-sign_of.ensures)
    (match-some _ _ _ _ c.in_ok-form.ensures.found c.in-Some-2.is)
    low
    (ap reverse is ∙ reverse-append c.args.depths.items (c.args.depth ∷ []))
    (c.in_ok-push_all.ensures ∙ (λ i. replicate (c.arity.ensures i) (add-one c.args.depth i) ++ reverse c.args.depths.items))
    c.in_ok-push.ensures.items
