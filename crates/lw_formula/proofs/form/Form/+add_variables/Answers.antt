use Rattle.std.proofs.Common.{ap, inl, inr, ⊎_elim}
use Rattle.std.proofs.lemmas.Result.{on_ok_weaker}
use Rattle.lw_formula.specs.Tree.{tree_of}
use Rattle.lw_formula.proofs.ByteOrder.{AddsVariables-one, AddsVariables-two}
use Rattle.lw_formula.proofs.form.Form.+add_variables.Goals as goal

pub returns-in_ok-add_variables-in-And : goal.returns-in_ok-add_variables-in-And
returns-in_ok-add_variables-in-And t c =
    let first = rw c.deref.ensures at c.in_ok-add_variables-in-And.ensures in
    let second = rw c.deref-in-And.ensures at c.add_variables-in-And.ensures in
    on_ok_weaker _
    (AddsVariables-two _ (tree_of c.in-And.a.value) (tree_of c.in-And.b.value)
    (⊎_elim (λ e. inl (ap tree_of e)) (λ or. inr (⊎_elim (λ e. inl (ap tree_of e)) (λ imp. inr (⊎_elim (λ e. inl (ap tree_of e)) (λ e. inr (ap tree_of e)) imp)) or)) c.in-And.is)
    first)
    second

pub returns-in-Not : goal.returns-in-Not
returns-in-Not t c =
    let only = rw c.deref-in-Not.ensures at c.add_variables-in-Not.ensures in
    on_ok_weaker _
    (AddsVariables-one _ (tree_of c.in-Not.a.value) (⊎_elim (λ e. inl (ap tree_of e)) (λ box. inr (⊎_elim (λ e. inl (ap tree_of e)) (λ e. inr (ap tree_of e)) box)) c.in-Not.is))
    only
