-- Each π of a label has a guard, and an unclosed label lacks that of each π that asks for a step.
use Rattle.std.proofs.Common.{◌≡◌, ℕ, ◌<◌, Bool, true, false, not, ◌&&◌, ◌||◌, List, length, Option, Some, None, inl, inr, refl, sym, ap, subst, ◌∙◌}
use Rattle.std.specs.Option.{is_some, option_map}
use Rattle.std.proofs.lemmas.Bool.{cases_Bool, or_right, and_parts, and_from, both_ways, false≢true, not-true, not_from_false, false_from_ne_true}
use Rattle.lw_formula.specs.declared.logic.Logic.TheVariants.{Grz}
use Rattle.lw_formula.specs.declared.parts.Parts.{Parts}
use Rattle.lw_formula.specs.declared.parts.Parts.TheVariants.{Pi}
use Rattle.lw_formula.specs.Formula.{Formula, IsSubformula}
use Rattle.lw_formula.specs.Signed.{Signed, flip}
use Rattle.lw_formula.specs.Components.{parts_of, guard_of}
use Rattle.lw_pool.specs.Region.{tree_at}
use Rattle.lw_proof.specs.System.{Set}
use Rattle.lw_proof.specs.Derivation.{has_refl, is_nu, is_pi}
use Rattle.lw_closure.specs.Mapping.{OfParts, map_parts}
use Rattle.lw_closure.specs.Table.{Table, entry_at, flip_item, item_count, signed_of}
use Rattle.lw_closure.specs.Items.{any_below}
use Rattle.lw_closure.specs.Keeps.{Keeps, has_guards}
use Rattle.lw_closure.specs.Unclosed.{IsUnclosedLabel}
use Rattle.lw_closure.proofs.ItemFormulas.{signed_flip, same_item, item_guard, own_guard, item_nu, item_pi}
use Rattle.lw_closure.proofs.ItemNumbers.{any_below_cases, any_below-found, flip_below}
use Rattle.lw_closure.proofs.OwnPis.{IsOwnPi, guard_nu, own_components}
use Rattle.lw_sat.specs.Moves.{IsSide}
use Rattle.lw_sat.specs.Sets.{among, IsOfItems}
use Rattle.lw_search.specs.Step.{is_asker}
use Rattle.lw_search.proofs.RuleSides.{of_side}
use Rattle.lw_grz.specs.Private.LackedGuards.{is_guarded}
use Rattle.lw_grz.proofs.GuardsServed.{pi_guard, AreIn, served_in, guard_serves}

is_some-map : {A B : Type 0} (f : A → B) (o : Option A) (b : B) → option_map f o ≡ Some b → is_some o ≡ true
is_some-map f None b e = cc
is_some-map f (Some a) b e = refl

pub found_guard : (o : Option ℕ) → is_some o ≡ true → (g : ℕ) × (o ≡ Some g)
found_guard None e = absurd (false≢true e)
found_guard (Some g) e = (g, refl)

-- each π of a guarded label has a guard, and the other way round
module _ (t : Table) (X : Set ℕ) where
  abbrev bare : ℕ → Bool
  bare i = X i && (is_pi (entry_at t i).parts && not (is_asker t i))

  pub guarded_to : is_guarded t X ≡ true → (i : ℕ) → i < item_count t → X i ≡ true → is_pi (entry_at t i).parts ≡ true → is_asker t i ≡ true
  guarded_to e i l there pi = elim (cases_Bool (is_asker t i)) [
    | inl has ↦ has
    | inr has ↦ absurd (both_ways (any_below bare (item_count t)) (not-true (any_below bare (item_count t)) e)
        (any_below-found bare (item_count t) i l
        (and_from (X i) (is_pi (entry_at t i).parts && not (is_asker t i)) there
        (and_from (is_pi (entry_at t i).parts) (not (is_asker t i)) pi (not_from_false (is_asker t i) has)))))
  ]

  pub guarded_from : ((i : ℕ) → i < item_count t → X i ≡ true → is_pi (entry_at t i).parts ≡ true → is_asker t i ≡ true) → is_guarded t X ≡ true
  guarded_from h = not_from_false (any_below bare (item_count t)) (false_from_ne_true (any_below bare (item_count t)) (λ e.
      let found = any_below_cases bare (item_count t) e in
      let both = and_parts (X found.0) (is_pi (entry_at t found.0).parts && not (is_asker t found.0)) found.2 in
      let rest = and_parts (is_pi (entry_at t found.0).parts) (not (is_asker t found.0)) both.1 in
      both_ways (is_asker t found.0) (not-true (is_asker t found.0) rest.1) (h found.0 found.1 both.0 rest.0)))

module _ (ts : List Formula) (t : Table) (keeps : Keeps ts t) (logic : t.logic ≡ Grz) where
  abbrev s : ℕ → Signed
  s = signed_of ts t

  abbrev n : ℕ
  n = item_count t

  abbrev parts : ℕ → Parts ℕ
  parts i = (entry_at t i).parts

  abbrev goal : Formula
  goal = tree_at ts t.goal

  -- a π of the goal's subformulas has a guard
  pub own_asks : (i : ℕ) → i < n → is_pi (parts i) ≡ true → IsSubformula (s i).1 goal → is_asker t i ≡ true
  own_asks i l pi own =
      let g = pi_guard (s i) (item_pi ts t keeps i l ∙ pi) in
      let guard : option_map s (entry_at t i).guard ≡ Some g.0 = own_guard ts t keeps i logic l own ∙ g.1 in
      and_from (is_pi (parts i)) (not (has_guards t.logic) || is_some (entry_at t i).guard) pi
      (or_right (not (has_guards t.logic)) (is_some (entry_at t i).guard) (is_some-map s (entry_at t i).guard g.0 guard))

  -- a guard is an item, and a ν
  pub guard_item : (i g : ℕ) → i < n → (entry_at t i).guard ≡ Some g → (g < n) × (is_nu (parts g) ≡ true) × (guard_of (s i) ≡ Some (s g))
  guard_item i g l e =
      let below : g < n = keeps.table.guard i l g e in
      let guard : guard_of (s i) ≡ Some (s g) = (item_guard ts t keeps i g l e).1 in
      (below, sym (item_nu ts t keeps g below) ∙ guard_nu (s i) (s g) guard, guard)

  -- so has a π that is a component of an item
  pub side_asks : (i : ℕ) (cs : List ℕ) → i < n → IsSide t.logic (parts i) cs → (j : ℕ) → among cs j ≡ true → is_pi (parts j) ≡ true → is_asker t j ≡ true
  side_asks i cs l side j m pi =
      let below : j < n = of_side (λ k. k < n) t.logic (parts i) cs (keeps.table.parts i l) side j m in
      own_asks j below pi (of_side (λ k. IsOwnPi goal (s k)) t.logic (parts i) cs (own_components ts t keeps i l) side j m (item_pi ts t keeps j below ∙ pi))

  pub component_asks : (i c : ℕ) → i < n → parts i ≡ Pi c → is_pi (parts c) ≡ true → is_asker t c ≡ true
  component_asks i c l e pi =
      let below : c < n = subst (OfParts (λ k. k < n)) e (keeps.table.parts i l) in
      own_asks c below pi (subst (OfParts (λ k. IsOwnPi goal (s k))) e (own_components ts t keeps i l) (item_pi ts t keeps c below ∙ pi))

  module _ (X : Set ℕ) (of_items : IsOfItems t X) (unclosed : IsUnclosedLabel t X) where
    -- the signed formula is that of an item of the label
    abbrev In : Signed → Type 0
    In x = (i : ℕ) × (X i ≡ true) × (s i ≡ x)

    serves : (x : Signed) → In x → AreIn In (parts_of x)
    serves x (i, there, e) =
        subst (AreIn In) (keeps.parts i (of_items i there) ∙ ap parts_of e)
        (served_in s X In (λ j h. (j, h, refl)) t.logic (ap has_refl logic) (parts i) (unclosed.served i there))

    clash : (x : Signed) → In x → In (flip x) → ⊥
    clash x (i, there, e) (j, other, f) =
        let same : j ≡ flip_item i =
        same_item ts t keeps j (flip_item i) (of_items j other) (flip_below i (length t.forms) (of_items i there)) (f ∙ ap flip (sym e) ∙ sym (signed_flip ts t i)) in
        unclosed.consistent i there (subst (λ k. X k ≡ true) same other)

    -- the guard of a π whose component isn't in the label isn't in it either
    pub guard_out : (i c g : ℕ) → X i ≡ true → parts i ≡ Pi c → (entry_at t i).guard ≡ Some g → (X c ≡ true → ⊥) → X g ≡ false
    guard_out i c g there e guard alone =
        false_from_ne_true (X g) (λ other.
        let l : i < n = of_items i there in
        let found = guard_serves In serves clash (s i) (s c) (s g) (sym (keeps.parts i l) ∙ ap (map_parts s) e) (guard_item i g l guard).2 (i, there, refl) (g, other, refl) in
        let component_below : c < n = subst (OfParts (λ k. k < n)) e (keeps.table.parts i l) in
        let same : found.0 ≡ c = same_item ts t keeps found.0 c (of_items found.0 found.1) component_below found.2 in
        alone (subst (λ k. X k ≡ true) same found.1))
