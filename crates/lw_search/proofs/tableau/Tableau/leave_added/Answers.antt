use Rattle.std.proofs.Common.{◌≡◌, ℕ, List, ◌∷◌, [], Option, Some, None, ap, refl, sym, subst, ◌∙◌, arith}
use Rattle.std.specs.Option.{option_to_list}
use Rattle.lw_formula.specs.declared.logic.Logic.{Logic}
use Rattle.lw_proof.specs.Derivation.{added}
use Rattle.lw_closure.specs.Items.{items}
use Rattle.lw_closure.specs.Table.{Table, item_count}
use Rattle.lw_sat.specs.SeedPath.{spot_of, Becomes}
use Rattle.lw_sat.specs.Sets.{top, without, AreBelow}
use Rattle.lw_search.proofs.LabelsByItem.{left_both}
use Rattle.lw_search.proofs.StepSeeds.{added_below}
use Rattle.lw_search.proofs.tableau.Tableau.leave_added.Goals as goal

-- what a step on the item adds: the component, and what the rule puts beside it
beside_is :
    (t : Table) (L : Logic) (item k : ℕ) (found o : Option ℕ) → t.logic ≡ L → ((c : ℕ) → added (items t) L item c ≡ c ∷ option_to_list found) → found ≡ o → added (items t) t.logic item k ≡ k ∷ option_to_list o
beside_is t L item k found o logic beside is = ap (λ L. added (items t) L item k) logic ∙ beside k ∙ ap (λ o. k ∷ option_to_list o) is

-- the component is what the search of the item's parts gave
found_is : (k inner : ℕ) → Some inner ≡ Some k → inner ≡ k
found_is k inner e = cc

pub remove-requires-in-Some-beside : goal.remove-requires-in-Some-beside
remove-requires-in-Some-beside g c =
    let t = c.args.self.now in
    let is = rw c.self.view_is at c.self.invariant in
    let k = c.in-Some.inner in
    let same = beside_is t _ c.args.item k c.beside.result (Some c.in-Some-beside.beside) is.logic (rw c.self.view_is at c.beside.ensures) c.in-Some-beside.is in
    let below : AreBelow (item_count t) (k ∷ c.in-Some-beside.beside ∷ []) =
    subst (AreBelow (item_count t)) same (added_below t is.table c.args.item k c.requires.item (c.in-Some.ensures.below k refl)) in
    let bits = c.remove.ensures.bits in
    let wide = c.requires.wide in
    omega (arith, below.1.0)

pub returns-in-Some-beside : goal.returns-in-Some-beside
returns-in-Some-beside g c k e =
    let t = c.args.self.now in
    let is = rw c.self.view_is at c.self.invariant in
    let b = c.args.above.now in
    let d = c.remove-in-Some-beside.new.self in
    let inner = found_is k c.in-Some.inner (c.in-Some.ensures.inner k e) in
    let same = beside_is t _ c.args.item c.in-Some.inner c.beside.result (Some c.in-Some-beside.beside) is.logic (rw c.self.view_is at c.beside.ensures) c.in-Some-beside.is in
    subst (λ (j : ℕ). Becomes b d (record (spot_of b) { set = without (added (items t) t.logic c.args.item j) (top b.labels) })) inner
    (subst (λ (cs : List ℕ). Becomes b d (record (spot_of b) { set = without cs (top b.labels) })) (sym same)
    (left_both b c.remove.new.self d c.in-Some.inner c.in-Some-beside.beside c.remove.ensures c.remove-in-Some-beside.ensures))

pub returns-in_default-beside : goal.returns-in_default-beside
returns-in_default-beside g c k e =
    let t = c.args.self.now in
    let is = rw c.self.view_is at c.self.invariant in
    let b = c.args.above.now in
    let d = c.remove.new.self in
    let inner = found_is k c.in-Some.inner (c.in-Some.ensures.inner k e) in
    let same = beside_is t _ c.args.item c.in-Some.inner c.beside.result None is.logic (rw c.self.view_is at c.beside.ensures) c.in_default-beside.is in
    subst (λ (j : ℕ). Becomes b d (record (spot_of b) { set = without (added (items t) t.logic c.args.item j) (top b.labels) })) inner
    (subst (λ (cs : List ℕ). Becomes b d (record (spot_of b) { set = without cs (top b.labels) })) (sym same) c.remove.ensures)

pub returns-in_default : goal.returns-in_default
returns-in_default g c k e = absurd (c.in_default.not-Some k (c.inner.ensures.inner k e))
