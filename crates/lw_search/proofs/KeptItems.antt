-- What a step keeps of a label is what it keeps of its items.
use Rattle.std.proofs.Common.{◌≡◌, ℕ, zero, suc, ◌<◌, Bool, true, false, not, ◌&&◌, ◌||◌, ◌⊎◌, ◌↔◌, eqb, inl, inr, refl, sym, ap, subst, ◌∙◌}
use Rattle.std.specs.Cmp.{both_ways as same_bool}
use Rattle.std.proofs.lemmas.Bool.{and_parts, and_from, or_cases, or_left, or_right, eq-eqb, eqb-true, false_from_ne_true, false≢true, true≢false}
use Rattle.lw_formula.specs.declared.logic.Logic.{Logic}
use Rattle.lw_formula.specs.declared.logic.Logic.TheVariants.{K, KT, S4, S5, GL, Grz, K4, KD}
use Rattle.lw_formula.specs.declared.parts.Parts.{Parts}
use Rattle.lw_formula.specs.declared.parts.Parts.TheVariants.{Nothing, One, Two, Nu, Pi}
use Rattle.lw_proof.specs.System.{Set, IsWithin}
use Rattle.lw_proof.specs.Derivation.{has_cut, is_nu, kept}
use Rattle.lw_closure.specs.Table.{Table, IsTable, entry_at, item_count}
use Rattle.lw_closure.specs.Mapping.{OfParts}
use Rattle.lw_closure.specs.Items.{any_below, is_nu_to, items}
use Rattle.lw_closure.proofs.ItemNumbers.{any_below_cases, any_below-found}
use Rattle.lw_sat.specs.Sets.{nothing, IsOfItems}
use Rattle.lw_search.specs.Step.{keeps_inside, keeps_nu}
use Rattle.lw_search.specs.Private.StepUse.{kept_of, meets}

pub nu_with : (p : Parts ℕ) → is_nu p ≡ true → (c : ℕ) × (p ≡ Nu c)
nu_with (Nu c) e = (c, refl)
nu_with Nothing e = absurd (false≢true e)
nu_with (One c d) e = absurd (false≢true e)
nu_with (Two c d) e = absurd (false≢true e)
nu_with (Pi c) e = absurd (false≢true e)

nu_to : (j : ℕ) (p : Parts ℕ) → is_nu_to j p ≡ true → p ≡ Nu j
nu_to j (Nu c) e = ap Nu (eqb-true c j e)
nu_to j Nothing e = absurd (false≢true e)
nu_to j (One c d) e = absurd (false≢true e)
nu_to j (Two c d) e = absurd (false≢true e)
nu_to j (Pi c) e = absurd (false≢true e)

module _ (t : Table) (uncut : has_cut t.logic ≡ false) where
  -- the item i is a ν, and j is the item itself or its component, whichever a step keeps
  abbrev Leads : Logic → ℕ → ℕ → Type 0
  Leads L i j = (c : ℕ) × ((entry_at t i).parts ≡ Nu c) × (((keeps_nu L ≡ true) × (i ≡ j)) ⊎ ((keeps_inside L ≡ true) × (c ≡ j)))

  module _ (X : Set ℕ) (j : ℕ) where
    module _ (own : IsOfItems t X) where
      abbrev SomeLeads : Logic → Type 0
      SomeLeads L = (i : ℕ) × (i < item_count t) × (X i ≡ true) × Leads L i j

      nu_leads : (L : Logic) → keeps_nu L ≡ true → (is_nu (entry_at t j).parts && X j) ≡ true → SomeLeads L
      nu_leads L nu e =
          let both = and_parts (is_nu (entry_at t j).parts) (X j) e in
          let (c, is) = nu_with (entry_at t j).parts both.0 in
          (j, own j both.1, both.1, (c, is, inl (nu, refl)))

      under_leads : (L : Logic) → keeps_inside L ≡ true → (items t).under X j ≡ true → SomeLeads L
      under_leads L inside e =
          let (i, l, h) = any_below_cases (λ k. X k && is_nu_to j (entry_at t k).parts) (item_count t) e in
          let both = and_parts (X i) (is_nu_to j (entry_at t i).parts) h in
          (i, l, both.0, (j, nu_to j (entry_at t i).parts both.1, inr (inside, refl)))

      kept_leads : (L : Logic) → has_cut L ≡ false → kept (items t) L X j ≡ true → SomeLeads L
      kept_leads K c e = under_leads K refl e
      kept_leads KT c e = under_leads KT refl e
      kept_leads S4 c e = nu_leads S4 refl e
      kept_leads S5 c e = absurd (true≢false c)
      kept_leads GL c e = elim (or_cases (is_nu (entry_at t j).parts && X j) ((items t).under X j) e) [ inl a ↦ nu_leads GL refl a | inr b ↦ under_leads GL refl b ]
      kept_leads Grz c e = nu_leads Grz refl e
      kept_leads K4 c e = elim (or_cases (is_nu (entry_at t j).parts && X j) ((items t).under X j) e) [ inl a ↦ nu_leads K4 refl a | inr b ↦ under_leads K4 refl b ]
      kept_leads KD c e = under_leads KD refl e

    module _ (i : ℕ) (l : i < item_count t) (there : X i ≡ true) where
      nu_kept : {c : ℕ} → (entry_at t i).parts ≡ Nu c → i ≡ j → (is_nu (entry_at t j).parts && X j) ≡ true
      nu_kept is e = subst (λ k. (is_nu (entry_at t k).parts && X k) ≡ true) e (and_from (is_nu (entry_at t i).parts) (X i) (ap is_nu is) there)

      under_kept : {c : ℕ} → (entry_at t i).parts ≡ Nu c → c ≡ j → (items t).under X j ≡ true
      under_kept {c} is e = any_below-found (λ k. X k && is_nu_to j (entry_at t k).parts) (item_count t) i l (and_from (X i) (is_nu_to j (entry_at t i).parts) there (ap (is_nu_to j) is ∙ eq-eqb c j e))

      leads_kept : (L : Logic) → has_cut L ≡ false → Leads L i j → kept (items t) L X j ≡ true
      leads_kept K c (d, is, inl h) = absurd (false≢true h.0)
      leads_kept K c (d, is, inr h) = under_kept is h.1
      leads_kept KT c (d, is, inl h) = absurd (false≢true h.0)
      leads_kept KT c (d, is, inr h) = under_kept is h.1
      leads_kept S4 c (d, is, inl h) = nu_kept is h.1
      leads_kept S4 c (d, is, inr h) = absurd (false≢true h.0)
      leads_kept S5 c h = absurd (true≢false c)
      leads_kept GL c (d, is, inl h) = or_left (is_nu (entry_at t j).parts && X j) ((items t).under X j) (nu_kept is h.1)
      leads_kept GL c (d, is, inr h) = or_right (is_nu (entry_at t j).parts && X j) ((items t).under X j) (under_kept is h.1)
      leads_kept Grz c (d, is, inl h) = nu_kept is h.1
      leads_kept Grz c (d, is, inr h) = absurd (false≢true h.0)
      leads_kept K4 c (d, is, inl h) = or_left (is_nu (entry_at t j).parts && X j) ((items t).under X j) (nu_kept is h.1)
      leads_kept K4 c (d, is, inr h) = or_right (is_nu (entry_at t j).parts && X j) ((items t).under X j) (under_kept is h.1)
      leads_kept KD c (d, is, inl h) = absurd (false≢true h.0)
      leads_kept KD c (d, is, inr h) = under_kept is h.1

  -- what is kept of one item
  module _ (i : ℕ) (l : i < item_count t) where
    of_leads : (j : ℕ) → Leads t.logic i j → kept_of t i j ≡ true
    of_leads j h = leads_kept (eqb i) j i l (eq-eqb i i refl) t.logic uncut h

    leads_of : (j : ℕ) → kept_of t i j ≡ true → Leads t.logic i j
    leads_of j e =
        let (k, m, same, h) = kept_leads (eqb i) j (λ k e. subst (λ n. n < item_count t) (eqb-true i k e) l) t.logic uncut e in
        subst (λ n. Leads t.logic n j) (sym (eqb-true i k same)) h

  -- what is kept of a label is kept of one of its items, and the other way round
  module _ (X : Set ℕ) (own : IsOfItems t X) (j : ℕ) where
    pub kept_some : kept (items t) t.logic X j ≡ true → (i : ℕ) × (X i ≡ true) × (kept_of t i j ≡ true)
    kept_some e = let (i, l, there, h) = kept_leads X j own t.logic uncut e in (i, there, of_leads i l j h)

    pub each_kept : (i : ℕ) → X i ≡ true → kept_of t i j ≡ true → kept (items t) t.logic X j ≡ true
    each_kept i there e = leads_kept X j i (own i there) there t.logic uncut (leads_of i (own i there) j e)

    pub kept_item : IsTable t → kept (items t) t.logic X j ≡ true → j < item_count t
    kept_item table e =
        let (i, l, there, (c, is, h)) = kept_leads X j own t.logic uncut e in
        elim h [ inl k ↦ subst (λ n. n < item_count t) k.1 l | inr k ↦ subst (λ n. n < item_count t) k.1 (subst (OfParts (λ n. n < item_count t)) is (table.parts i l)) ]

  -- nothing is kept of what is no ν
  module _ (i : ℕ) (l : i < item_count t) (p : Parts ℕ) (parts : p ≡ (entry_at t i).parts) (other : (c : ℕ) → p ≡ Nu c → ⊥) where
    pub kept_none : kept_of t i ≡ nothing
    kept_none = λ m j. false_from_ne_true (kept_of t i j) (λ e. let (c, is, h) = leads_of i l j e in other c (parts ∙ is)) m

    pub meets_none : (W : Set ℕ) → meets t (kept_of t i) W ≡ false
    meets_none W = ap (λ K. meets t K W) kept_none ∙ none (item_count t) where
      none : (n : ℕ) → any_below (λ j. false && W j) n ≡ false
      none zero = refl
      none (suc n) = none n

    pub within_none : (Y : Set ℕ) → IsWithin (kept_of t i) Y
    within_none Y j e = absurd (false≢true (sym (λ m. kept_none m j) ∙ e))

  -- of a ν it is the ν itself, its component or both
  module _ (i : ℕ) (l : i < item_count t) (c : ℕ) (nu : Nu c ≡ (entry_at t i).parts) where
    kept_cases : (j : ℕ) → kept_of t i j ≡ true → ((keeps_nu t.logic ≡ true) × (i ≡ j)) ⊎ ((keeps_inside t.logic ≡ true) × (c ≡ j))
    kept_cases j e =
        let (d, is, h) = leads_of i l j e in
        let same : c ≡ d = (let both : Nu c ≡ Nu d = nu ∙ is in cc) in
        elim h [ inl k ↦ inl k | inr k ↦ inr (k.0, same ∙ k.1) ]

    kept_itself : keeps_nu t.logic ≡ true → kept_of t i i ≡ true
    kept_itself k = of_leads i l i (c, sym nu, inl (k, refl))

    pub kept_inner : keeps_inside t.logic ≡ true → kept_of t i c ≡ true
    kept_inner k = of_leads i l c (c, sym nu, inr (k, refl))

    pub kept_nu : kept_of t i ≡ (λ j. (keeps_nu t.logic && eqb i j) || (keeps_inside t.logic && eqb c j))
    kept_nu = λ m j. same_bool (kept_of t i j) ((keeps_nu t.logic && eqb i j) || (keeps_inside t.logic && eqb c j)) (there j) (back j) m where
      there : (j : ℕ) → kept_of t i j ≡ true → ((keeps_nu t.logic && eqb i j) || (keeps_inside t.logic && eqb c j)) ≡ true
      there j e =
          elim (kept_cases j e) [
            | inl k ↦ or_left (keeps_nu t.logic && eqb i j) (keeps_inside t.logic && eqb c j) (and_from (keeps_nu t.logic) (eqb i j) k.0 (eq-eqb i j k.1))
            | inr k ↦ or_right (keeps_nu t.logic && eqb i j) (keeps_inside t.logic && eqb c j) (and_from (keeps_inside t.logic) (eqb c j) k.0 (eq-eqb c j k.1))
          ]

      back : (j : ℕ) → ((keeps_nu t.logic && eqb i j) || (keeps_inside t.logic && eqb c j)) ≡ true → kept_of t i j ≡ true
      back j e =
          elim (or_cases (keeps_nu t.logic && eqb i j) (keeps_inside t.logic && eqb c j) e) [
            | inl h ↦ (let both = and_parts (keeps_nu t.logic) (eqb i j) h in subst (λ k. kept_of t i k ≡ true) (eqb-true i j both.1) (kept_itself both.0))
            | inr h ↦ (let both = and_parts (keeps_inside t.logic) (eqb c j) h in subst (λ k. kept_of t i k ≡ true) (eqb-true c j both.1) (kept_inner both.0))
          ]

    pub meets_nu : IsTable t → (W : Set ℕ) → meets t (kept_of t i) W ≡ ((keeps_nu t.logic && W i) || (keeps_inside t.logic && W c))
    meets_nu table W = same_bool (meets t (kept_of t i) W) ((keeps_nu t.logic && W i) || (keeps_inside t.logic && W c)) there back where
      there : meets t (kept_of t i) W ≡ true → ((keeps_nu t.logic && W i) || (keeps_inside t.logic && W c)) ≡ true
      there e =
          let (j, m, h) = any_below_cases (λ j. kept_of t i j && W j) (item_count t) e in
          let both = and_parts (kept_of t i j) (W j) h in
          elim (kept_cases j both.0) [
            | inl k ↦ or_left (keeps_nu t.logic && W i) (keeps_inside t.logic && W c) (and_from (keeps_nu t.logic) (W i) k.0 (subst (λ n. W n ≡ true) (sym k.1) both.1))
            | inr k ↦ or_right (keeps_nu t.logic && W i) (keeps_inside t.logic && W c) (and_from (keeps_inside t.logic) (W c) k.0 (subst (λ n. W n ≡ true) (sym k.1) both.1))
          ]

      found : (j : ℕ) → j < item_count t → kept_of t i j ≡ true → W j ≡ true → meets t (kept_of t i) W ≡ true
      found j m k w = any_below-found (λ j. kept_of t i j && W j) (item_count t) j m (and_from (kept_of t i j) (W j) k w)

      back : ((keeps_nu t.logic && W i) || (keeps_inside t.logic && W c)) ≡ true → meets t (kept_of t i) W ≡ true
      back e =
          elim (or_cases (keeps_nu t.logic && W i) (keeps_inside t.logic && W c) e) [
            | inl h ↦ (let both = and_parts (keeps_nu t.logic) (W i) h in found i l (kept_itself both.0) both.1)
            | inr h ↦ (let both = and_parts (keeps_inside t.logic) (W c) h in found c (subst (OfParts (λ k. k < item_count t)) (sym nu) (table.parts i l)) (kept_inner both.0) both.1)
          ]

    pub within_nu : (Y : Set ℕ) (b : Bool) → b ≡ ((not (keeps_nu t.logic) || Y i) && (not (keeps_inside t.logic) || Y c)) → (b ≡ true) ↔ IsWithin (kept_of t i) Y
    within_nu Y b e = (
      λ h j k.
          (let both = and_parts (not (keeps_nu t.logic) || Y i) (not (keeps_inside t.logic) || Y c) (sym e ∙ h) in
          elim (kept_cases j k) [
            | inl own ↦ subst (λ n. Y n ≡ true) own.1 (wanted (keeps_nu t.logic) (Y i) both.0 own.0)
            | inr inner ↦ subst (λ n. Y n ≡ true) inner.1 (wanted (keeps_inside t.logic) (Y c) both.1 inner.0)
          ]),
      λ h. e ∙ and_from (not (keeps_nu t.logic) || Y i) (not (keeps_inside t.logic) || Y c) (wanted_from (keeps_nu t.logic) (Y i) (λ k. h i (kept_itself k)))
          (wanted_from (keeps_inside t.logic) (Y c) (λ k. h c (kept_inner k))),
    ) where
      wanted : (a b : Bool) → (not a || b) ≡ true → a ≡ true → b ≡ true
      wanted true b h e = h
      wanted false b h e = absurd (false≢true e)

      wanted_from : (a b : Bool) → (a ≡ true → b ≡ true) → (not a || b) ≡ true
      wanted_from true b h = h refl
      wanted_from false b h = refl
