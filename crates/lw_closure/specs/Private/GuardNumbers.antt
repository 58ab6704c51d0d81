-- The guards that are looked for while a closure is built, and their numbers.
use Rattle.std.specs.Prelude.{◌≡◌, ℕ, ◌+◌, ◌-◌, ◌*◌, ◌<◌, ◌≤◌, ◌⊎◌, ◌↔◌, if◌then◌else◌, Option, Some, None, List, length}
use Rattle.std.specs.List.{slice_index_or}
use Rattle.std.specs.Option.{option_map, ForSome}
use Rattle.lw_formula.specs.declared.logic.Logic.{Logic}
use Rattle.lw_formula.specs.declared.logic.Logic.TheVariants.{K, KT, S4, S5, GL, Grz, K4, KD}
use Rattle.lw_formula.specs.declared.sign.Sign.TheVariants.{T, F}
use Rattle.lw_formula.specs.Formula.{Formula, conj, impl, nec, poss, is_modal, IsSubformula}
use Rattle.lw_formula.specs.Signed.{Signed}
use Rattle.lw_formula.specs.Components.{guard_of}
use Rattle.lw_pool.specs.declared.id.FormId.{FormId}
use Rattle.lw_pool.specs.Region.{signed_at}
use Rattle.lw_closure.specs.Table.{form_of, form_at, item_of}
use Rattle.lw_closure.specs.Keeps.{StandsBelow}
use Rattle.lw_closure.specs.Private.NumberedForms.{IsNumbering}

-- the guard of the one π that has the formula
abbrev pub own_guard : Formula → Option Signed
own_guard (nec a) = guard_of (F, nec a)
own_guard (poss a) = guard_of (T, poss a)
own_guard _ = None

-- what is behind the `box` or `dia` of a guard's formula
abbrev pub body_in : Formula → Formula
body_in (nec b) = b
body_in (poss b) = b
body_in f = f

-- what the guard's body has on its left
abbrev pub first_in : Formula → Formula
first_in (impl a b) = a
first_in (conj a b) = a
first_in f = f

-- c is a subformula of the guard
abbrev pub IsOfOwnGuard : Formula → Formula → Type 0
IsOfOwnGuard f c = (g : Signed) × (own_guard f ≡ Some g) × IsSubformula c g.1

-- c is one of the guard of one of the first n formulas
abbrev pub IsOfFirstGuards : List Formula → List FormId → ℕ → Formula → Type 0
IsOfFirstGuards ts forms n c = (j : ℕ) × (j < n) × IsOfOwnGuard (form_at ts forms j) c

-- the signed formula that has the number, where there is one
abbrev pub numbered_guard : List Formula → List FormId → Option ℕ → Option Signed
numbered_guard ts forms at = option_map (λ i. signed_at ts (item_of forms i)) at

-- the subformulas of the guard of f were put behind the others, and this is the guard's number
pub record AddsGuard (ts : List Formula) (old new : List FormId) (f : Formula) (at : Option ℕ) : Type 0 where
  pub numbering : IsNumbering ts new
  pub longer : length old ≤ length new
  pub few : length new ≤ length old + (if is_modal f then 3 else 0)
  pub front : (i : ℕ) → i < length old → form_of new i ≡ form_of old i
  pub exact : (c : Formula) → StandsBelow ts new (length new) c ↔ (StandsBelow ts old (length old) c ⊎ IsOfOwnGuard f c)
  pub guard : numbered_guard ts new at ≡ own_guard f
  pub within : ForSome at (λ i. i < 2 * length new)

-- behind these formulas stand those of the guards of the first of them, which have these numbers
pub record HasGuards (ts : List Formula) (own forms : List FormId) (found : List (Option ℕ)) : Type 0 where
  pub numbering : IsNumbering ts forms
  pub longer : length own ≤ length forms
  pub few : length forms ≤ length own + 3 * (length found - 1)
  pub front : (i : ℕ) → i < length own → form_of forms i ≡ form_of own i
  pub exact : (c : Formula) →
      StandsBelow ts forms (length forms) c ↔ (StandsBelow ts own (length own) c ⊎ IsOfFirstGuards ts own (length found) c)
  pub guards : (j : ℕ) → j < length found → numbered_guard ts forms (slice_index_or found j None) ≡ own_guard (form_at ts own j)
  pub within : (j : ℕ) → j < length found → ForSome (slice_index_or found j None) (λ i. i < 2 * length forms)

-- guards were looked for at each of n formulas in Grz, and at none in the other logics
abbrev pub FitsLogic : Logic → ℕ → List (Option ℕ) → Type 0
FitsLogic K n found = length found ≡ 0
FitsLogic KT n found = length found ≡ 0
FitsLogic S4 n found = length found ≡ 0
FitsLogic S5 n found = length found ≡ 0
FitsLogic GL n found = length found ≡ 0
FitsLogic Grz n found = length found ≡ n
FitsLogic K4 n found = length found ≡ 0
FitsLogic KD n found = length found ≡ 0
