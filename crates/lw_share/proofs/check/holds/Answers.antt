use Rattle.std.proofs.Common.{◌<◌, length, sym, subst, arith}
use Rattle.std.specs.List.{All}
use Rattle.std.proofs.lemmas.List.Elements.{All-weaker}
use Rattle.lw_share.specs.Pooled.{line_of}
use Rattle.lw_share.specs.Private.PremiseLists.{ArePremises}
use Rattle.lw_share.proofs.CitedLines.{cites_earlier}
use Rattle.lw_share.proofs.HeldLines.{not_applied, applied_cited}
use Rattle.lw_share.proofs.check.holds.Goals as goal

pub returns-then-not-applies-clause-told : goal.returns-then-not-applies-clause-told
returns-then-not-applies-clause-told c =
    not_applied c.args.logic c.args.pool.now c.args.cuts.now c.args.table.now (line_of c.args.table.now c.args.line) (c.requires.table c.args.line _ c.requires.line)
    c.rule-rule.result c.principal-item.result c.set.result.now c.in_ok-items.items c.rule-rule.ensures c.principal-item.ensures c.set.ensures c.in_ok-items.ensures.set
    c.applies.result c.applies.ensures c.if-not-applies.true

pub cites_each-requires-clause-cites : goal.cites_each-requires-clause-cites
cites_each-requires-clause-cites c =
    subst (All (λ k. k < length c.args.table.now)) (sym c.cites.ensures)
    (All-weaker (λ k. k < c.args.line) (λ k. k < length c.args.table.now) (λ k b. omega (arith, b, c.requires.line)) (line_of c.args.table.now c.args.line).cites
    (cites_earlier c.args.table.now c.count.ensures.earlier c.args.line c.requires.line))

pub returns-clause-told : goal.returns-clause-told
returns-clause-told c =
    applied_cited c.args.logic c.args.pool.now c.args.cuts.now c.args.table.now (line_of c.args.table.now c.args.line) (c.requires.table c.args.line _ c.requires.line)
    c.rule-rule.result c.principal-item.result c.set.result.now c.in_ok-items.items c.rule-rule.ensures c.principal-item.ensures c.set.ensures c.in_ok-items.ensures.set
    c.applies.result c.applies.ensures c.if-not-applies.false c.premises.new.pool c.premises.ensures.grows c.requires.table
    c.deref.result.now
    (subst (ArePremises c.args.logic c.premises.new.pool c.rule-rule.result c.principal-item.result c.in_ok-items.items) (sym c.deref.ensures.value) c.in_ok-premises.ensures.sets)
    c.cites.result.now c.cites.ensures c.cites_each.result c.cites_each.ensures
