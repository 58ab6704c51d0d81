-- What a set of ids does to the list of formulas.
use Rattle.std.proofs.Common.{◌≡◌, ℕ, ◌+◌, ◌<◌, Bool, true, cond, eqb-true, eq-eqb, Some, List, [], ◌∷◌, ◌++◌, length, take, slice_get, ◌⊎◌, inl, inr, sym, ap, ◌∙◌, arith}
use Rattle.std.specs.Bool.{Decides}
use Rattle.std.specs.List.{Contains, position, list_any}
use Rattle.std.proofs.lemmas.Bool.{cases_Bool, false≢true}
use Rattle.std.proofs.lemmas.List.{get_or_default, get_or-take, length-take, take_more}
use Rattle.std.proofs.lemmas.List.Quantifiers.{position-Some}
use Rattle.std.proofs.lemmas.Option.{get_or_from_slice_get}
use Rattle.indexmap.specs.IndexSet.{insert_key}
use Rattle.lw_formula.specs.FiniteModel.{AreDistinct}
use Rattle.lw_formula.proofs.ListTests.{list_any-Contains}
use Rattle.lw_pool.specs.declared.id.FormId.{FormId}
use Rattle.lw_pool.specs.contracts.id.FormIdPartialEq.TheImpl as derived
use Rattle.lw_closure.specs.Private.NumberedForms.{IsAdded}
use Rattle.lw_closure.specs.Table.{form_of}

abbrev pub form_eq : FormId → FormId → Bool
form_eq = derived.ghosts.eq

form_eq-Decides : (a b : FormId) → Decides (form_eq a b) (b ≡ a)
form_eq-Decides a b = (λ e. (let n : a.0 ≡ b.0 = eqb-true a.0 b.0 e in λ i. record { 0 = sym n i }), λ e. eq-eqb a.0 b.0 (ap (λ c. c.0) (sym e)))

-- an id that is inserted is there already, or is put behind the others
pub insert-cases : (ks : List FormId) (k : FormId) → (Contains ks k × (insert_key form_eq ks k ≡ ks)) ⊎ ((¬ Contains ks k) × (insert_key form_eq ks k ≡ ks ++ k ∷ []))
insert-cases ks k =
    let d : Decides (list_any (form_eq k) ks) (Contains ks k) = list_any-Contains (form_eq k) k (form_eq-Decides k) ks in
    elim (cases_Bool (list_any (form_eq k) ks)) [
      | inl there ↦ inl (d.0 there, ap (λ b. cond b ks (ks ++ k ∷ [])) there)
      | inr new ↦ inr (λ c. false≢true (sym new ∙ d.1 c), ap (λ b. cond b ks (ks ++ k ∷ [])) new)
    ]

pub added : (old new : List FormId) (form : FormId) (at : ℕ) → new ≡ insert_key form_eq old form → at < length new →
    (k : FormId) × (slice_get new at ≡ Some k) × (form_eq form k ≡ true) → IsAdded old new form at
added old new form at e l stored = record {
  below = l;
  there = get_or_from_slice_get new at stored.0 (record { 0 = 0 }) stored.1 ∙ (form_eq-Decides form stored.0).0 stored.2;
  either = elim (insert-cases old form) [ inl p ↦ inl (p.0, e ∙ p.1) | inr p ↦ inr (p.0, e ∙ p.1) ];
}

-- an id that is found stands at the place
pub found_form : (forms : List FormId) (a : FormId) (i : ℕ) → position (form_eq a) forms ≡ Some i → (i < length forms) × (form_of forms i ≡ a)
found_form forms a i e = let p = position-Some (form_eq a) forms i (record { 0 = 0 }) e in (p.0, (form_eq-Decides a (form_of forms i)).0 p.1)

-- of a list without doubles the next element is new
pub insert_next : (xs : List FormId) (i : ℕ) → AreDistinct xs → i < length xs → insert_key form_eq (take i xs) (form_of xs i) ≡ take (i + 1) xs
insert_next xs i d l =
    elim (insert-cases (take i xs) (form_of xs i)) [
      | inl p ↦ absurd (repeated p.0)
      | inr p ↦ p.1 ∙ sym (take_more xs i (record { 0 = 0 }) l)
    ] where
      repeated : Contains (take i xs) (form_of xs i) → ⊥
      repeated c =
          let m : c.0 < i = omega (arith, c.1, length-take i xs) in
          d c.0 i (record { 0 = 0 }) m l (get_or_default xs c.0 (record { 0 = 0 }) (form_of xs i) (omega arith) ∙ sym (get_or-take i xs c.0 (form_of xs i) m) ∙ c.2)

pub numbered_more : (xs ys ks new : List FormId) (i : ℕ) → AreDistinct xs → ys ≡ xs → i < length xs → ks ≡ take i xs → new ≡ insert_key form_eq ks (form_of ys i) → new ≡ take (i + 1) xs
numbered_more xs ys ks new i d y l k e = e ∙ (λ j. insert_key form_eq (k j) (form_of (y j) i)) ∙ insert_next xs i d l
