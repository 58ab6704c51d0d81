-- Labels that wait, and which modal formulas they decide.
use Rattle.std.proofs.Common.{◌≡◌, ℕ, ◌+◌, ◌*◌, ◌/◌, ◌%◌, ◌<◌, ◌⊎◌, true, List, length, inl, inr, refl, sym, ap, subst, ◌∙◌, arith}
use Rattle.std.specs.Bool.{IsTrue}
use Rattle.std.proofs.lemmas.Bool.{cases_eq, or_cases, or_left, or_right}
use Rattle.lw_formula.specs.declared.sign.Sign.{Sign}
use Rattle.lw_formula.specs.declared.sign.Sign.TheVariants.{T, F}
use Rattle.lw_formula.specs.Components.{parts_of}
use Rattle.lw_formula.specs.Formula.{Formula, letter, falsum, verum, neg, conj, disj, impl, equi, nec, poss}
use Rattle.lw_proof.specs.System.{Set}
use Rattle.lw_proof.specs.Derivation.{is_modal_part}
use Rattle.lw_closure.specs.Table.{Table, entry_at, flip_item, form_at, item_count, sign_of}
use Rattle.lw_closure.specs.Keeps.{Keeps}
use Rattle.lw_closure.proofs.ItemFormulas.{item_modal}
use Rattle.lw_closure.proofs.ItemNumbers.{sign_even, sign_odd, flip_even, flip_odd}
use Rattle.lw_sat.specs.declared.saturation.Found.{Found}
use Rattle.lw_sat.specs.declared.saturation.Found.TheVariants.{Unclosed}
use Rattle.lw_sat.specs.declared.saturation.Saturation.{Saturation}
use Rattle.lw_sat.specs.Course.{Finds, FoundFits, IsUnclosedFrom, IsUnderWay}
use Rattle.lw_sat.specs.Saturated.{every}
use Rattle.lw_sat.specs.Sets.{IsOfItems}
use Rattle.lw_sat.proofs.SaturationCourse.{at_waiting, every_survives}
use Rattle.lw_sat.proofs.OneRound.{at_items}
use Rattle.lw_s5.specs.Private.RootedSearch.{HasLabel, decides, IsDecidedBy, IsModalAlike}

-- what a saturation that is under way comes to where it finds no proof
pub unclosed_from : (t : Table) (X : Set ℕ) (old new : Saturation) (f : Found) → IsUnderWay t X every old →
    Finds t old new f → f ≡ Unclosed → IsUnclosedFrom t X every new
unclosed_from t X old new f under found is = subst (FoundFits t X every new) is (found X every (every_survives t) under)

-- what was found unclosed is a label that waits
pub has_label : (t : Table) (X : Set ℕ) (s : Saturation) → IsUnclosedFrom t X every s → HasLabel t s
has_label t X s h =
    let at = at_waiting t X every s.frames.items s.board s.state h.waits h.under in
    record { waiting = h.waits; wide = at.wide; items = at_items t X every s.frames.items s.board at; unclosed = h.unclosed }

-- a formula is modal under both signs or under neither
modal_alike : (a : Formula) → is_modal_part (parts_of (T, a)) ≡ is_modal_part (parts_of (F, a))
modal_alike (letter p) = refl
modal_alike falsum = refl
modal_alike verum = refl
modal_alike (neg a) = refl
modal_alike (conj a b) = refl
modal_alike (disj a b) = refl
modal_alike (impl a b) = refl
modal_alike (equi a b) = refl
modal_alike (nec a) = refl
modal_alike (poss a) = refl

module _ (ts : List Formula) (t : Table) (keeps : Keeps ts t) where
  is_modal : (i : ℕ) (s : Sign) (f : ℕ) → i < item_count t → sign_of i ≡ s → i / 2 ≡ f → is_modal_part (entry_at t i).parts ≡ is_modal_part (parts_of (s, form_at ts t.forms f))
  is_modal i s f l sign half =
      sym (item_modal ts t keeps i l)
      ∙ ap (λ x. is_modal_part (parts_of (x, form_at ts t.forms (i / 2)))) sign ∙ ap (λ g. is_modal_part (parts_of (s, form_at ts t.forms g))) half

  pub kept_alike : IsModalAlike t
  kept_alike f l =
      is_modal (2 * f) T f (omega (arith, l)) (sign_even (2 * f) (omega arith)) (omega arith)
      ∙ modal_alike (form_at ts t.forms f)
      ∙ sym (is_modal (2 * f + 1) F f (omega (arith, l)) (sign_odd (2 * f + 1) (omega arith)) (omega arith))

-- where no modal formula was found that X decides and R doesn't, R decides the modal items of X
pub decided_by : (t : Table) (R X : Set ℕ) → IsModalAlike t → IsOfItems t X →
    ((f : ℕ) → f < length t.forms → is_modal_part (entry_at t (2 * f)).parts ≡ true → decides X f ≡ true → decides R f ≡ true) → IsDecidedBy t R X
decided_by t R X alike own all i modal there =
    elim (cases_eq (i % 2) 0) [ inl e ↦ even e | inr n ↦ odd (omega (arith, n)) ]
  where
    below : i < item_count t
    below = own i there

    even : i % 2 ≡ 0 → IsTrue (R i) ⊎ IsTrue (R (flip_item i))
    even e =
        let q : i ≡ 2 * (i / 2) = omega (arith, e) in
        let decided = all (i / 2) (omega (arith, below)) (subst (λ k. is_modal_part (entry_at t k).parts ≡ true) q modal) (or_left (X (2 * (i / 2))) (X (2 * (i / 2) + 1)) (subst (λ k. X k ≡ true) q there)) in
        elim (or_cases (R (2 * (i / 2))) (R (2 * (i / 2) + 1)) decided) [
          | inl here ↦ inl (subst (λ k. R k ≡ true) (sym q) here)
          | inr other ↦ inr (subst (λ k. R k ≡ true) (sym (flip_even i e ∙ ap (λ k. k + 1) q)) other)
        ]

    odd : i % 2 ≡ 1 → IsTrue (R i) ⊎ IsTrue (R (flip_item i))
    odd e =
        let q : i ≡ 2 * (i / 2) + 1 = omega (arith, e) in
        let f : flip_item i ≡ 2 * (i / 2) = flip_odd i e ∙ omega (arith, e) in
        let half : i / 2 < length t.forms = omega (arith, below) in
        let decided = all (i / 2) half (alike (i / 2) half ∙ subst (λ k. is_modal_part (entry_at t k).parts ≡ true) q modal) (or_right (X (2 * (i / 2))) (X (2 * (i / 2) + 1)) (subst (λ k. X k ≡ true) q there)) in
        elim (or_cases (R (2 * (i / 2))) (R (2 * (i / 2) + 1)) decided) [
          | inl other ↦ inr (subst (λ k. R k ≡ true) (sym f) other)
          | inr here ↦ inl (subst (λ k. R k ≡ true) (sym q) here)
        ]
