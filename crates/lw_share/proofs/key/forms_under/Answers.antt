use Rattle.std.proofs.Common.{◌≡◌, Vec, Global, ℕ, ◌+◌, take, sym, subst, ap, ◌∙◌}
use Rattle.std.proofs.lemmas.List.{take_all}
use Rattle.lw_formula.specs.declared.sign.Sign.TheVariants.{T}
use Rattle.lw_pool.specs.declared.id.SignedId.{SignedId}
use Rattle.lw_share.proofs.FormsUnder.{AreForms, kept_forms, next_forms, sorted_forms}
use Rattle.lw_share.proofs.key.forms_under.Goals as goal
use Rattle.lw_share.proofs.key.forms_under.Goals.{then-eq+in_ok-push, else-eq}

pub loop-item-preserved : goal.loop-item-preserved
loop-item-preserved c =
    let items = c.as_slice-item-items.result.now in
    let i = c.loop-item.item-index in
    let first : SignedId = record { sign = T; form = record { 0 = 0 } } in
    let forms = c.loop-item.forms.items in
    let sign = c.args.sign in
    let before = c.loop-item.invariant in
    let elements = λ (v w : Vec ℕ Global) (e : v ≡ w). ap (λ (u : Vec ℕ Global). u.items) e in
    record {
      forms = elim c.if-eq.branch [
        | then-eq+in_ok-push w ↦
            subst (AreForms (take (i + 1) items) sign) (sym w.in_ok-push.ensures.items ∙ sym (elements _ _ w.forms-is))
            (next_forms items before.distinct i first c.loop-item-test.true sign forms before.forms (sym c.eq.ensures ∙ w.if-eq.true))
        | else-eq w ↦
            subst (AreForms (take (i + 1) items) sign) (sym (elements _ _ w.forms-is))
            (kept_forms items before.distinct i first c.loop-item-test.true sign forms before.forms (sym c.eq.ensures ∙ w.if-eq.false))
      ];
      distinct = before.distinct;
    }

pub returns : goal.returns
returns c =
    sorted_forms c.args.items.now c.args.sign c.loop-item.forms.items c.sort_unstable.new.self.items
    (subst (λ xs. AreForms xs c.args.sign c.loop-item.forms.items)
    (take_all c.loop-item.item-index c.as_slice-item-items.result.now c.loop-item-test.false ∙ c.as_slice-item-items.ensures.items)
    c.loop-item.invariant.forms)
    c.sort_unstable.ensures.permutation c.sort_unstable.ensures.sorted
