-- What is in the history of a label is served.
use Rattle.std.proofs.Common.{◌≡◌, ℕ, suc, ◌<◌, true, false, not, ◌&&◌, ◌||◌, nat_eq, List, [], ◌∷◌, ◌⊎◌, inl, inr, refl, sym, ap, subst, ◌∙◌, arith, eqb-true, eq-eqb}
use Rattle.std.specs.List.{Contains}
use Rattle.std.proofs.lemmas.Bool.{cases_Bool, cases_lt, or_cases, or_left, or_right, and_parts, and_from, both_ways, false≢true, not-true, not_from_false}
use Rattle.std.proofs.lemmas.List.{get_or_past}
use Rattle.lw_formula.specs.declared.logic.Logic.{Logic}
use Rattle.lw_formula.specs.declared.logic.Logic.TheVariants.{K, KT, S4, S5, GL, Grz, K4, KD}
use Rattle.lw_formula.specs.declared.parts.Parts.TheVariants.{Pi}
use Rattle.lw_proof.specs.System.{Set, IsWithin}
use Rattle.lw_proof.specs.Derivation.{added, is_nu, kept}
use Rattle.lw_closure.specs.declared.entry.Entry.{Entry}
use Rattle.lw_closure.specs.Table.{Table, entry_at, item_count, IsTable}
use Rattle.lw_closure.specs.Items.{items}
use Rattle.lw_closure.proofs.ItemNumbers.{any_below-found}
use Rattle.lw_counter.specs.FragmentPaths.{has_links}
use Rattle.lw_sat.specs.Sets.{among}
use Rattle.lw_search.specs.Ranked.{Past, LeadsTo, IsServedBy, StepsTo}
use Rattle.lw_search.specs.Step.{seed}
use Rattle.lw_s4.specs.History.{has_more_nus, history}
use Rattle.lw_s4.proofs.KeptNus.{HasNus, nu_kept, kept_there}

contains_first : {A : Type 0} (x : A) (xs : List A) → Contains (x ∷ xs) x
contains_first x xs = (0, omega arith, refl)

contains_later : {A : Type 0} (x y : A) (xs : List A) → Contains xs y → Contains (x ∷ xs) y
contains_later x y xs (k, l, e) = (suc k, omega arith, e)

module _ (t : Table) where
  -- a step adds its component
  component_added : (L : Logic) (item c : ℕ) → among (added (items t) L item c) c ≡ true
  component_added K item c = or_left (nat_eq c c) false (eq-eqb c c refl)
  component_added KT item c = or_left (nat_eq c c) false (eq-eqb c c refl)
  component_added S4 item c = or_left (nat_eq c c) false (eq-eqb c c refl)
  component_added S5 item c = or_left (nat_eq c c) false (eq-eqb c c refl)
  component_added GL item c = or_left (nat_eq c c) _ (eq-eqb c c refl)
  component_added Grz item c = or_left (nat_eq c c) _ (eq-eqb c c refl)
  component_added K4 item c = or_left (nat_eq c c) false (eq-eqb c c refl)
  component_added KD item c = or_left (nat_eq c c) false (eq-eqb c c refl)

  -- a π has one component
  one_component : (item c d : ℕ) → (entry_at t item).parts ≡ Pi c → StepsTo t item d → d ≡ c
  one_component item c d pi (inl other) = (let same : Pi d ≡ Pi c = sym other ∙ pi in let equal : d ≡ c = cc in equal)
  one_component item c d pi (inr nu) = absurd (false≢true (ap is_nu (sym pi ∙ nu.1)))

  -- the seed of a step has its component, and all that the step keeps
  seed_component : (X : Set ℕ) (item c : ℕ) → seed t X item c c ≡ true
  seed_component X item c = or_left (among (added (items t) t.logic item c) c) (kept (items t) t.logic X c) (component_added t.logic item c)

  seed_has : (X : Set ℕ) (item c : ℕ) → IsWithin (kept (items t) t.logic X) (seed t X item c)
  seed_has X item c j e = or_right (among (added (items t) t.logic item c) j) (kept (items t) t.logic X j) e

  module _ (table : IsTable t) where
    -- a ν is an item
    nu_below : (i : ℕ) → is_nu (entry_at t i).parts ≡ true → i < item_count t
    nu_below i e = elim (cases_lt i (item_count t)) [
      | inl lower ↦ lower
      | inr past ↦ absurd (false≢true (ap (λ (x : Entry). is_nu x.parts) (sym (get_or_past t.entries i _ (omega (arith, table.whole)))) ∙ e))
    ]

    -- the ν of a label that has none more than another are among that one's
    pub nus_within : (X Y : Set ℕ) → has_more_nus t X Y ≡ false → HasNus t X Y
    nus_within X Y none i nu there = elim (cases_Bool (Y i)) [
      | inl e ↦ e
      | inr e ↦ absurd (both_ways (has_more_nus t X Y) none
          (any_below-found (λ j. is_nu (entry_at t j).parts && (X j && not (Y j))) (item_count t) i (nu_below i nu)
          (and_from (is_nu (entry_at t i).parts) (X i && not (Y i)) nu (and_from (X i) (not (Y i)) there (not_from_false (Y i) e)))))
    ]

    module _ (links : has_links t.logic ≡ true) where
      -- the seed of a step has the ν
      pub seed_keeps : (X : Set ℕ) (item c : ℕ) → HasNus t X (seed t X item c)
      seed_keeps X item c j nu there = seed_has X item c j (nu_kept t t.logic links X j nu there)

      -- what serves a π for a label serves it for each label that has no ν more
      served_alike : (X Y Z : Set ℕ) (c : ℕ) → HasNus t X Y → IsServedBy t Y Z c → IsServedBy t X Z c
      served_alike X Y Z c nus served = (served.0, served.1, λ j e. served.2 j (kept_there t X Y nus j t.logic links e))

      -- a label with no ν more than the one before serves the π that was stepped on there
      served_itself : (p : Past) (X : Set ℕ) (c : ℕ) → IsWithin (seed t p.label p.item c) X → HasNus t X p.label → IsServedBy t X X c
      served_itself p X c seeded nus =
          (links, seeded c (seed_component p.label p.item c), λ j e. seeded j (seed_has p.label p.item c j (kept_there t X p.label nus j t.logic links e)))

      pub serves : (path : List Past) (X : Set ℕ) (item c : ℕ) → LeadsTo t path X → history t path X item ≡ true → (entry_at t item).parts ≡ Pi c →
          IsServedBy t X X c ⊎ ((p : Past) × Contains path p × IsServedBy t X p.label c)
      serves [] X item c leads e pi = absurd (false≢true e)
      serves (p ∷ path) X item c leads e pi =
          let both = and_parts (not (has_more_nus t X p.label)) (nat_eq p.item item || history t path p.label item) e in
          let nus : HasNus t X p.label = nus_within X p.label (not-true (has_more_nus t X p.label) both.0) in
          elim (or_cases (nat_eq p.item item) (history t path p.label item) both.1) [
            | inl same ↦ (
                let d : ℕ = leads.0.0 in
                let one : p.item ≡ item = eqb-true p.item item same in
                let equal : d ≡ c = one_component p.item c d (ap (λ i. (entry_at t i).parts) one ∙ pi) leads.0.1 in
                inl (subst (IsServedBy t X X) equal (served_itself p X d leads.0.2 nus))
                )
            | inr older ↦ elim (serves path p.label item c leads.1 older pi) [
              | inl itself ↦ inr (p, contains_first p path, served_alike X p.label p.label c nus itself)
              | inr far ↦ inr (far.0, contains_later p far.0 path far.1, served_alike X p.label far.0.label c nus far.2)
            ]
          ]
