use Rattle.std.proofs.Common.{◌≡◌, ◌+◌, Some, None, sym, ap, subst, ◌∙◌, arith}
use Rattle.lw_closure.specs.Table.{item_count}
use Rattle.lw_counter.specs.Fragment.{with_world}
use Rattle.lw_sat.specs.Course.{label}
use Rattle.lw_s5.specs.Private.RootedSearch.{Surrounds}
use Rattle.lw_s5.proofs.RootFragments.{empty, none_asked, one_served, root_alone}
use Rattle.lw_s5.proofs.root.surround.Goals as goal
use Rattle.lw_s5.proofs.root.surround.Goals.{in-Some+in_ok-label-2+in_ok-add-2, in_default}

pub loop-item-init : goal.loop-item-init
loop-item-init c =
    let t = c.args.closure.now in
    let R = label c.args.root.now in
    let made = c.in_ok-add.ensures.added ∙ ap (λ f. with_world f None c.deref.result.now) c.new-fragment.ensures ∙ ap (with_world empty None) c.deref.ensures.value in
    subst (Surrounds t R 0) (sym made) (root_alone t R c.in_ok-label.label.items c.in_ok-label.ensures.set c.in_ok-label.ensures.below)

pub loop-item-preserved : goal.loop-item-preserved
loop-item-preserved c =
    let t = c.args.closure.now in
    let R = label c.args.root.now in
    let n = c.loop-item.item in
    let f = c.loop-item.fragment in
    elim c.match-asked.branch [
      | in-Some+in_ok-label-2+in_ok-add-2 w ↦ (
          let made = w.fragment-is ∙ w.in_ok-add-2.ensures.added ∙ ap (with_world f (Some 0)) w.deref-in-Some.ensures.value in
          let child = w.in_ok-label-2.ensures in
          subst (Surrounds t R (n + 1)) (sym made)
          (one_served t R n f c.loop-item.invariant w.in_ok-label-2.label.items w.in-Some.component c.requires.logic w.in-Some.ensures.some.1 child.child child.serves child.below)
          )
      | in_default w ↦ subst (Surrounds t R (n + 1)) (sym w.fragment-is) (none_asked t R n f c.loop-item.invariant w.in_default.ensures.none)
    ]

pub returns-clause-fragment : goal.returns-clause-fragment
returns-clause-fragment c =
    let t = c.args.closure.now in
    let whole : c.loop-item.item ≡ item_count t = omega (arith, c.loop-item-test.false, c.loop-item.auto.item-end, c.count-item-end.ensures.count) in
    subst (λ n. Surrounds t (label c.args.root.now) n c.loop-item.fragment) whole c.loop-item.invariant
