-- The π among the components of a closure's formulas are of the goal's formulas, so that in Grz each has a guard.
use Rattle.std.proofs.Common.{◌≡◌, ℕ, ◌<◌, true, false, List, Some, inl, inr, refl, sym, ap, subst, ◌∙◌}
use Rattle.std.proofs.lemmas.Bool.{false≢true}
use Rattle.lw_formula.specs.declared.logic.Logic.{Logic}
use Rattle.lw_formula.specs.declared.parts.Parts.{Parts}
use Rattle.lw_formula.specs.declared.parts.Parts.TheVariants.{Nu}
use Rattle.lw_formula.specs.declared.sign.Sign.{Sign}
use Rattle.lw_formula.specs.declared.sign.Sign.TheVariants.{T, F}
use Rattle.lw_formula.specs.Signs.{opposite}
use Rattle.lw_formula.specs.Formula.{Formula, neg, conj, impl, nec, poss, is_modal, IsOperand, IsSubformula}
use Rattle.lw_formula.specs.Signed.{Signed}
use Rattle.lw_formula.specs.Components.{parts_of, guard_of}
use Rattle.lw_formula.proofs.SubformulaLists.{IsSubformula-refl, IsSubformula-trans}
use Rattle.lw_pool.specs.Region.{tree_at}
use Rattle.lw_pool.proofs.SubformulasBelow.{operand_within}
use Rattle.lw_proof.specs.Derivation.{is_nu, is_pi}
use Rattle.lw_closure.specs.Mapping.{OfParts}
use Rattle.lw_closure.specs.Table.{Table, entry_at, item_count, signed_of}
use Rattle.lw_closure.specs.Keeps.{Keeps, IsOfClosure}
use Rattle.lw_closure.proofs.ItemFormulas.{guarded, of_closure}
use Rattle.lw_closure.proofs.MappedComponents.{OfParts-imp, OfParts-map}
use Rattle.lw_closure.proofs.OperandItems.{parts_operands}

-- the sign under which a modal formula is a ν
abbrev pub nu_sign : Formula → Sign
nu_sign (nec a) = T
nu_sign _ = F

-- a ν, and a π, is a modal formula under one sign
pub nu_modal : (s : Signed) → is_nu (parts_of s) ≡ true → (is_modal s.1 ≡ true) × (s.0 ≡ nu_sign s.1)
nu_modal (T, nec a) e = (refl, refl)
nu_modal (F, poss a) e = (refl, refl)
nu_modal _ e = absurd (false≢true e)

pub pi_modal : (s : Signed) → is_pi (parts_of s) ≡ true → (is_modal s.1 ≡ true) × (s.0 ≡ opposite (nu_sign s.1))
pi_modal (F, nec a) e = (refl, refl)
pi_modal (T, poss a) e = (refl, refl)
pi_modal _ e = absurd (false≢true e)

-- where x is a π, its formula is one of the goal's
abbrev pub IsOwnPi : Formula → Signed → Type 0
IsOwnPi goal x = is_pi (parts_of x) ≡ true → IsSubformula x.1 goal

-- a ν is no π
pub nu_no_pi : {I : Type 0} (p : Parts I) → is_nu p ≡ true → is_pi p ≡ true → ⊥
nu_no_pi (Nu c) n p = false≢true p
nu_no_pi _ n p = false≢true n

-- a guard is a ν
pub guard_nu : (x g : Signed) → guard_of x ≡ Some g → is_nu (parts_of g) ≡ true
guard_nu (F, nec a) g e = let q : (T, nec (impl a (nec a))) ≡ g = cc in subst (λ y. is_nu (parts_of y) ≡ true) q refl
guard_nu (T, poss a) g e = let q : (F, poss (conj (neg a) (poss a))) ≡ g = cc in subst (λ y. is_nu (parts_of y) ≡ true) q refl
guard_nu _ g e = cc

-- what isn't modal is no modal operand
plain : (c d : Formula) → c ≡ d → is_modal d ≡ false → is_modal c ≡ true → ⊥
plain c d e none m = false≢true (sym none ∙ ap is_modal (sym e) ∙ m)

module _ (goal : Formula) where
  same_own : (c d : Formula) → c ≡ d → IsSubformula d goal → IsSubformula c goal
  same_own c d e own = subst (λ x. IsSubformula x goal) (sym e) own

  operand_own : (f c d : Formula) → IsSubformula f d → IsOperand c f → IsSubformula d goal → IsSubformula c goal
  operand_own f c d h o own = IsSubformula-trans c d goal (IsSubformula-trans c f d (operand_within c f o) h) own

  of_box : (a : Formula) → IsSubformula (nec a) goal → (f c : Formula) → IsSubformula f (nec (impl a (nec a))) → IsOperand c f → is_modal c ≡ true → IsSubformula c goal
  of_box a own f c (inl e) o m = absurd (plain c (impl a (nec a)) (subst (IsOperand c) e o) refl m)
  of_box a own f c (inr (inl e)) o m = elim (subst (IsOperand c) e o) [
    | inl q ↦ same_own c a q (IsSubformula-trans a (nec a) goal (inr (IsSubformula-refl a)) own)
    | inr q ↦ same_own c (nec a) q own
  ]
  of_box a own f c (inr (inr (inl s))) o m = operand_own f c (nec a) (inr s) o own
  of_box a own f c (inr (inr (inr s))) o m = operand_own f c (nec a) s o own

  of_dia : (a : Formula) → IsSubformula (poss a) goal → (f c : Formula) → IsSubformula f (poss (conj (neg a) (poss a))) → IsOperand c f → is_modal c ≡ true → IsSubformula c goal
  of_dia a own f c (inl e) o m = absurd (plain c (conj (neg a) (poss a)) (subst (IsOperand c) e o) refl m)
  of_dia a own f c (inr (inl e)) o m = elim (subst (IsOperand c) e o) [
    | inl q ↦ absurd (plain c (neg a) q refl m)
    | inr q ↦ same_own c (poss a) q own
  ]
  of_dia a own f c (inr (inr (inl (inl e)))) o m = same_own c a (subst (IsOperand c) e o) (IsSubformula-trans a (poss a) goal (inr (IsSubformula-refl a)) own)
  of_dia a own f c (inr (inr (inl (inr s)))) o m = operand_own f c (poss a) (inr s) o own
  of_dia a own f c (inr (inr (inr s))) o m = operand_own f c (poss a) s o own

  -- a modal operand of a formula of the guard of one of the goal's formulas is one of the goal's formulas
  of_guard : (x g : Signed) → IsSubformula x.1 goal → guard_of x ≡ Some g → (f c : Formula) → IsSubformula f g.1 → IsOperand c f → is_modal c ≡ true → IsSubformula c goal
  of_guard (F, nec a) g own e f c h o m = let q : g ≡ (T, nec (impl a (nec a))) = cc in of_box a own f c (subst (λ (y : Signed). IsSubformula f y.1) q h) o m
  of_guard (T, poss a) g own e f c h o m = let q : g ≡ (F, poss (conj (neg a) (poss a))) = cc in of_dia a own f c (subst (λ (y : Signed). IsSubformula f y.1) q h) o m
  of_guard _ g own e f c h o m = cc

  modal_operand : (L : Logic) (f c : Formula) → IsOfClosure L goal f → IsOperand c f → is_modal c ≡ true → IsSubformula c goal
  modal_operand L f c (inl own) o m = IsSubformula-trans c f goal (operand_within c f o) own
  modal_operand L f c (inr (x, g, e, h)) o m = let own = guarded L goal x g e in of_guard x g own.0 own.1 f c h o m

  own_parts : (L : Logic) (x : Signed) → IsOfClosure L goal x.1 → OfParts (IsOwnPi goal) (parts_of x)
  own_parts L x of = OfParts-imp (λ c. IsOperand c.1 x.1) (IsOwnPi goal) (λ c o pi. modal_operand L x.1 c.1 of o (pi_modal c pi).0) (parts_of x) (parts_operands x)

-- so are those among the components of an item
pub own_components : (ts : List Formula) (t : Table) → Keeps ts t → (i : ℕ) → i < item_count t → OfParts (λ j. IsOwnPi (tree_at ts t.goal) (signed_of ts t j)) (entry_at t i).parts
own_components ts t keeps i l =
    let goal : Formula = tree_at ts t.goal in
    let own : OfParts (IsOwnPi goal) (parts_of (signed_of ts t i)) =
    own_parts goal t.logic (signed_of ts t i) (of_closure ts t keeps i l) in
    OfParts-map (signed_of ts t) (IsOwnPi goal) (entry_at t i).parts (subst (OfParts (IsOwnPi goal)) (sym (keeps.parts i l)) own)
