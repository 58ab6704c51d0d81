use Rattle.std.proofs.Common.{◌∷◌, ◌∙◌, subst}
use Rattle.lw_pool.specs.Region.{tree_at}
use Rattle.lw_cert.specs.Lines.{heading, logic_is, formula_is}
use Rattle.lw_cert.specs.Private.LineWriting.{Writes}
use Rattle.lw_cert.proofs.HeadAndBody.{is-written}
use Rattle.lw_cert.proofs.writer.certificate_text.Goals as goal

pub returns-clause-text : goal.returns-clause-text
returns-clause-text c =
    let formula = tree_at c.args.pool.now c.args.certificate.now.formula in
    is-written c.args.pool.now c.args.certificate.now c.write_head.new.out.items c.write_body.new.out.items c.requires.formula c.requires.body
    (subst (λ old. Writes old c.write_head.new.out.items (λ rest. heading ∷ logic_is c.args.certificate.now.logic ∷ formula_is formula ∷ rest)) c.new-out.ensures.items
    (c.in_ok-write_head.ensures formula (c.deref.ensures.value ∙ c.in_ok-formula.ensures.text)))
    c.in_ok-write_body.ensures
