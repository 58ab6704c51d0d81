-- The items of a closure, as signed formulas of a pool that has kept the closure's formulas.
use Rattle.std.proofs.Common.{◌≡◌, ℕ, ◌/◌, ◌%◌, ◌<◌, Bool, true, false, if◌then◌else◌, List, Option, Some, None, inl, inr, refl, sym, ap, ◌∙◌, arith}
use Rattle.std.specs.Option.{is_some, option_map}
use Rattle.std.proofs.lemmas.Bool.{false≢true}
use Rattle.lw_formula.specs.declared.logic.Logic.{Logic}
use Rattle.lw_formula.specs.declared.logic.Logic.TheVariants.{Grz}
use Rattle.lw_formula.specs.Formula.{Formula, subformulas, IsSubformula}
use Rattle.lw_formula.specs.Signed.{Signed, flip}
use Rattle.lw_formula.specs.Components.{parts_of, guard_of}
use Rattle.lw_formula.proofs.SubformulaLists.{is_member-Decides, subformulas-IsSubformula}
use Rattle.lw_pool.specs.Region.{tree_at}
use Rattle.lw_proof.specs.Derivation.{has_cut, is_nu, is_pi, is_modal_part, is_subformula}
use Rattle.lw_closure.specs.Table.{Table, item_count, entry_at, flip_item, form_at, signed_of}
use Rattle.lw_closure.specs.Keeps.{Keeps, IsOfClosure, guard_in, has_guards}
use Rattle.lw_closure.proofs.MappedComponents.{is_nu-map, is_pi-map, is_modal-map}
use Rattle.lw_closure.proofs.ItemNumbers.{sign_flip, half_flip, same_rest}

pub is_subformula-true : (goal c : Formula) → IsSubformula c goal → is_subformula goal c ≡ true
is_subformula-true goal c h = (is_member-Decides (subformulas goal) c).1 ((subformulas-IsSubformula goal c).1 h)

pub is_subformula-means : (goal c : Formula) → is_subformula goal c ≡ true → IsSubformula c goal
is_subformula-means goal c e = (subformulas-IsSubformula goal c).0 ((is_member-Decides (subformulas goal) c).0 e)

-- a guard that a search adds is that of the calculus, of a subformula of the goal
pub guarded : (L : Logic) (goal : Formula) (s g : Signed) → guard_in L goal s ≡ Some g → IsSubformula s.1 goal × (guard_of s ≡ Some g)
guarded Grz goal s g e = go (is_subformula goal s.1) refl e
  where
    go : (b : Bool) → is_subformula goal s.1 ≡ b → (if b then guard_of s else None) ≡ Some g → IsSubformula s.1 goal × (guard_of s ≡ Some g)
    go true t h = (is_subformula-means goal s.1 t, h)
    go false t h = cc
guarded _ goal s g e = cc

-- in the logic without guards each formula of a closure is a subformula of the goal
of_goal : (L : Logic) (goal c : Formula) → has_guards L ≡ false → IsOfClosure L goal c → IsSubformula c goal
of_goal L goal c none (inl own) = own
of_goal Grz goal c none (inr guard) = absurd (false≢true (sym none))
of_goal _ goal c none (inr (s, g, e, h)) = cc

-- the logic with cuts is one of them
pub cut_unguarded : (L : Logic) → has_cut L ≡ true → has_guards L ≡ false
cut_unguarded Grz e = absurd (false≢true e)
cut_unguarded _ e = refl

-- the item of the same formula under the other sign
pub signed_flip : (ts : List Formula) (t : Table) (i : ℕ) → signed_of ts t (flip_item i) ≡ flip (signed_of ts t i)
signed_flip ts t i = λ j. (sign_flip i j, form_at ts t.forms (half_flip i j))

module _ (ts : List Formula) (t : Table) (keeps : Keeps ts t) where
  abbrev s : ℕ → Signed
  s = signed_of ts t

  abbrev n : ℕ
  n = item_count t

  abbrev goal : Formula
  goal = tree_at ts t.goal

  pub of_closure : (i : ℕ) → i < n → IsOfClosure t.logic goal (s i).1
  of_closure i l = (keeps.exact (s i).1).0 (i / 2, omega arith, refl)

  -- items that are the same signed formula are one
  pub same_item : (i j : ℕ) → i < n → j < n → s i ≡ s j → i ≡ j
  same_item i j l k e =
      let half : i / 2 ≡ j / 2 = keeps.distinct (i / 2) (j / 2) (omega arith) (omega arith) (ap (λ (x : Signed). x.1) e) in
      let rest : i % 2 ≡ j % 2 = same_rest (i % 2) (j % 2) (omega arith) (omega arith) (ap (λ (x : Signed). x.0) e) in
      omega arith

  -- where there are no guards, each item is of a subformula of the goal
  pub own_item : has_guards t.logic ≡ false → (i : ℕ) → i < n → IsSubformula (s i).1 goal
  own_item none i l = of_goal t.logic goal (s i).1 none (of_closure i l)

  -- a guard that the table has is that of the calculus, of a subformula of the goal
  pub item_guard : (i g : ℕ) → i < n → (entry_at t i).guard ≡ Some g → IsSubformula (s i).1 goal × (guard_of (s i) ≡ Some (s g))
  item_guard i g l e = guarded t.logic goal (s i) (s g) (sym (keeps.guard i l) ∙ ap (option_map s) e)

  pub guarded_item : (i : ℕ) → i < n → is_some (entry_at t i).guard ≡ true → IsSubformula (s i).1 goal
  guarded_item i l e = go (entry_at t i).guard refl e
    where
      go : (g : Option ℕ) → (entry_at t i).guard ≡ g → is_some g ≡ true → IsSubformula (s i).1 goal
      go None q e = absurd (false≢true e)
      go (Some k) q e = (item_guard i k l q).0

  -- and in the logic with guards the table has it for each of these
  pub own_guard : (i : ℕ) → t.logic ≡ Grz → i < n → IsSubformula (s i).1 goal → option_map s (entry_at t i).guard ≡ guard_of (s i)
  own_guard i q l own =
      keeps.guard i l ∙ ap (λ L. guard_in L goal (s i)) q
      ∙ ap (λ b. if b then guard_of (s i) else None) (is_subformula-true goal (s i).1 own)

  -- an item is a ν, or a π, where its signed formula is one
  pub item_nu : (i : ℕ) → i < n → is_nu (parts_of (s i)) ≡ is_nu (entry_at t i).parts
  item_nu i l = ap is_nu (sym (keeps.parts i l)) ∙ is_nu-map s (entry_at t i).parts

  pub item_pi : (i : ℕ) → i < n → is_pi (parts_of (s i)) ≡ is_pi (entry_at t i).parts
  item_pi i l = ap is_pi (sym (keeps.parts i l)) ∙ is_pi-map s (entry_at t i).parts

  pub item_modal : (i : ℕ) → i < n → is_modal_part (parts_of (s i)) ≡ is_modal_part (entry_at t i).parts
  item_modal i l = ap is_modal_part (sym (keeps.parts i l)) ∙ is_modal-map s (entry_at t i).parts
