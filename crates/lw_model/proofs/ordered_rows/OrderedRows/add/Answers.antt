use Rattle.std.proofs.Common.{◌≡◌, ◌∙◌, ◌+◌, [], length, get_or, set, ap, sym, subst}
use Rattle.std.specs.List.{insert}
use Rattle.std.proofs.lemmas.List.{get_or_default}
use Rattle.lw_formula.specs.FiniteModel.{AreDistinct}
use Rattle.lw_model.specs.Private.OrderedRows.{numbered}
use Rattle.lw_model.proofs.ModelAdditions.{OnErr-always}
use Rattle.lw_model.proofs.RowsEndToEnd.{IsInserted, row-Contains, lacks-item, there-Contains, put-grown, length-inserted, AreDistinct-inserted, inserted-Contains}
use Rattle.lw_model.proofs.ordered_rows.OrderedRows.add.Goals as goal

pub returns-in_default-clause-added : goal.returns-in_default-clause-added
returns-in_default-clause-added g c =
    let there = rw c.deref.ensures.value at c.in_default.ensures.there in
    there-Contains c.args.self.now c.args.at c.args.item.now ((row-Contains c.self.inside.rows.items c.args.self.now c.self.view_is c.args.at c.args.item.now).1 there)

pub returns-in_default-checked_add-clause-absent : goal.returns-in_default-checked_add-clause-absent
returns-in_default-checked_add-clause-absent g c =
    lacks-item g.met.T.Ord.total c.self.inside.rows.items c.args.self.now c.args.at c.in-Some.place c.args.item.now c.self.view_is (rw c.deref.ensures.value at c.in-Some.ensures.gap)

pub returns-in_err-copy-clause-absent : goal.returns-in_err-copy-clause-absent
returns-in_err-copy-clause-absent g c =
    OnErr-always _ (lacks-item g.met.T.Ord.total c.self.inside.rows.items c.args.self.now c.args.at c.in-Some.place c.args.item.now c.self.view_is (rw c.deref.ensures.value at c.in-Some.ensures.gap))

pub returns-in_err-grow-clause-absent : goal.returns-in_err-grow-clause-absent
returns-in_err-grow-clause-absent g c =
    OnErr-always _ (lacks-item g.met.T.Ord.total c.self.inside.rows.items c.args.self.now c.args.at c.in-Some.place c.args.item.now c.self.view_is (rw c.deref.ensures.value at c.in-Some.ensures.gap))

pub returns-in_err-put-clause-absent : goal.returns-in_err-put-clause-absent
returns-in_err-put-clause-absent g c =
    OnErr-always _ (lacks-item g.met.T.Ord.total c.self.inside.rows.items c.args.self.now c.args.at c.in-Some.place c.args.item.now c.self.view_is (rw c.deref.ensures.value at c.in-Some.ensures.gap))

inserts : (g : _) (c : goal.After-self-2-1 g) → IsInserted c.args.self.now (c.args.at, c.args.item.now) (numbered 0 (set c.grow.new.rows.items c.args.at c.put.new.self))
inserts g c =
    let gap = rw c.deref.ensures.value at c.in-Some.ensures.gap in
    let row : c.index_mut-row.result.now ≡ get_or c.grow.new.rows.items c.args.at [] = c.index_mut-row.ensures.value ∙ sym (get_or_default c.grow.new.rows.items c.args.at [] c.index_mut-row.result.now c.in_ok-grow.ensures.there) in
    let put : c.put.new.self ≡ insert (get_or c.grow.new.rows.items c.args.at []) c.in-Some.place c.args.item.now = c.in_ok-put.ensures.put ∙ ap (λ ys. insert ys c.in-Some.place c.in_ok-copy.copy) row ∙ ap (λ y. insert (get_or c.grow.new.rows.items c.args.at []) c.in-Some.place y) c.in_ok-copy.ensures.same in
    put-grown c.self.inside.rows.items c.grow.new.rows.items c.args.self.now c.args.at c.in-Some.place c.args.item.now c.put.new.self c.self.view_is c.grow.ensures.grown c.in_ok-grow.ensures.there gap put

pub invariant_of-self-2 : goal.invariant_of-self-2
invariant_of-self-2 g c =
    let lacks = lacks-item g.met.T.Ord.total c.self.inside.rows.items c.args.self.now c.args.at c.in-Some.place c.args.item.now c.self.view_is (rw c.deref.ensures.value at c.in-Some.ensures.gap) in
    let old = c.args.self.now in
    let new = numbered 0 (set c.grow.new.rows.items c.args.at c.put.new.self) in (
      c.in-Some-checked_add.ensures.1 ∙ ap (λ n. n + 1) (c.self.invariant.0 ∙ ap length c.self.view_is) ∙ sym (length-inserted old (c.args.at, c.args.item.now) new (inserts g c)),
      AreDistinct-inserted old (c.args.at, c.args.item.now) new (inserts g c) (subst AreDistinct c.self.view_is c.self.invariant.1) lacks,
    )

pub returns-clause-added : goal.returns-clause-added
returns-clause-added g c = inserted-Contains c.args.self.now c.args.at c.args.item.now (numbered 0 (set c.grow.new.rows.items c.args.at c.put.new.self)) (inserts g c)

pub returns-clause-same : goal.returns-clause-same
returns-clause-same g c =
    λ h. absurd (lacks-item g.met.T.Ord.total c.self.inside.rows.items c.args.self.now c.args.at c.in-Some.place c.args.item.now c.self.view_is (rw c.deref.ensures.value at c.in-Some.ensures.gap) h)

pub returns-clause-distinct : goal.returns-clause-distinct
returns-clause-distinct g c = (invariant_of-self-2 g c).1
