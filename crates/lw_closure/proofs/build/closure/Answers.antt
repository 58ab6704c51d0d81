use Rattle.std.proofs.Common.{sym, subst, ◌∙◌, arith}
use Rattle.lw_closure.specs.Private.NumberedForms.{IsNumbering}
use Rattle.lw_closure.specs.Keeps.{Keeps}
use Rattle.lw_closure.proofs.BuiltTable.{own_numbering, built}
use Rattle.lw_closure.proofs.build.closure.Goals as goal

pub add_guards-requires-clause-numbering : goal.add_guards-requires-clause-numbering
add_guards-requires-clause-numbering c =
    subst (IsNumbering c.args.pool.now) (sym (c.in_ok-forms.ensures ∙ c.deref.ensures.value))
    (own_numbering c.args.pool.now c.args.goal c.in_ok-own.own.items c.in_ok-own.ensures.ids c.count.ensures.operands)

pub new-requires : goal.new-requires
new-requires c =
    (built c.args.pool.now c.add_guards.new.pool c.args.logic c.args.goal c.in_ok-own.own.items c.in_ok-forms.forms.keys c.add_guards.new.forms.keys c.in_ok-guards.guards.items
    c.deref-2.result.now c.in_ok-entries.entries.items c.requires c.in_ok-own.ensures.ids c.count.ensures.operands c.in_ok-guards.ensures.grows (omega arith)
    (c.in_ok-forms.ensures ∙ c.deref.ensures.value) c.in_ok-guards.ensures.guards c.in_ok-guards.ensures.fits c.deref-2.ensures.value c.in_ok-entries.ensures.entries c.in_ok-entries.ensures.all
    c.in_ok-entries.ensures.exact).table

pub returns-clause-kept : goal.returns-clause-kept
returns-clause-kept c =
    subst (Keeps c.add_guards.new.pool) (sym c.new.ensures)
    (built c.args.pool.now c.add_guards.new.pool c.args.logic c.args.goal c.in_ok-own.own.items c.in_ok-forms.forms.keys c.add_guards.new.forms.keys c.in_ok-guards.guards.items
    c.deref-2.result.now c.in_ok-entries.entries.items c.requires c.in_ok-own.ensures.ids c.count.ensures.operands c.in_ok-guards.ensures.grows (omega arith)
    (c.in_ok-forms.ensures ∙ c.deref.ensures.value) c.in_ok-guards.ensures.guards c.in_ok-guards.ensures.fits c.deref-2.ensures.value c.in_ok-entries.ensures.entries c.in_ok-entries.ensures.all
    c.in_ok-entries.ensures.exact)
