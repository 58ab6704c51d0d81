use Rattle.std.proofs.Common.{subst}
use Rattle.std.specs.Option.{IfSome}
use Rattle.lw_pool.specs.declared.id.SignedId.{SignedId}
use Rattle.lw_pool.specs.Region.{IsLive}
use Rattle.lw_closure.proofs.GuardsAdded.{no_guard, guard_put}
use Rattle.lw_closure.proofs.guard.add_guard.Goals as goal

pub returns-in_ok-at-in-Some-clause-added : goal.returns-in_ok-at-in-Some-clause-added
returns-in_ok-at-in-Some-clause-added c =
    guard_put c.args.pool.now c.guard.new.self c.guard.ensures.grows c.args.forms.now.keys c.args.form c.pi_of-item.result
    c.requires.numbering c.requires.there c.pi_of-item.ensures.form c.pi_of-item.ensures.guard
    c.in_ok-guard.field-0 c.in-Some.guard c.in-Some.is c.in_ok-guard.ensures.guard (subst (λ o. IfSome o (λ (x : SignedId). IsLive c.guard.new.self x.form)) c.in-Some.is c.in_ok-guard.ensures.live)
    c.body_of-body.result c.first_of-first.result c.body_of-body.ensures.live c.body_of-body.ensures.body c.first_of-first.ensures.live c.first_of-first.ensures.first
    c.add.new.forms.keys c.add-in-Some.new.forms.keys c.add-in-Some-2.new.forms.keys
    c.in_ok-add-in-Some.field-0 c.in_ok-add-in-Some-2.field-0 c.in_ok-at-in-Some.at c.item_number.result
    c.in_ok-add-in-Some.ensures c.in_ok-add-in-Some-2.ensures c.in_ok-at-in-Some.ensures c.item_number.ensures.sign c.item_number.ensures.form

pub returns-in-None-clause-added : goal.returns-in-None-clause-added
returns-in-None-clause-added c =
    no_guard c.args.pool.now c.guard.new.self c.guard.ensures.grows c.args.forms.now.keys c.args.form c.pi_of-item.result
    c.requires.numbering c.requires.there c.pi_of-item.ensures.form c.pi_of-item.ensures.guard
    c.in_ok-guard.field-0 c.in-None.is c.in_ok-guard.ensures.guard
