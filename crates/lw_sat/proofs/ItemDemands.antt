-- What an item in a label asks for.
use Rattle.std.proofs.Common.{◌≡◌, ℕ, ◌+◌, ◌-◌, ◌%◌, ◌<◌, ◌≤◌, ◌||◌, true, false, Option, Some, None, List, [], ◌∷◌, refl, sym, ap, subst, ◌∙◌, inl, inr, ⊎_elim, arith}
use Rattle.std.proofs.lemmas.Bool.{cases_eq, both_ways, eq-eqb}
use Rattle.lw_formula.specs.declared.parts.Parts.{Parts}
use Rattle.lw_formula.specs.declared.parts.Parts.TheVariants.{One, Two, Nu}
use Rattle.lw_proof.specs.declared.rule.Rule.{Rule}
use Rattle.lw_proof.specs.System.{Set}
use Rattle.lw_proof.specs.Derivation.{has_refl, is_one, is_two, is_nu, side, premises}
use Rattle.lw_proof.specs.Lean.{HasNew}
use Rattle.lw_closure.specs.Items.{items}
use Rattle.lw_closure.specs.Mapping.{OfBoth, OfParts}
use Rattle.lw_closure.specs.Table.{Table, IsTable, item_count, entry_at, flip_item}
use Rattle.lw_closure.specs.Unclosed.{IsUnclosedLabel}
use Rattle.lw_closure.proofs.ItemNumbers.{sign_even, flip_even, flip_odd, by_parity}
use Rattle.lw_sat.specs.Moves.{listed, IsSide}
use Rattle.lw_sat.specs.Sets.{adding, AreBelow, IsOfItems}
use Rattle.lw_sat.specs.Private.LabelWork.{IsLeaf, IsQuiet, IsWork}
use Rattle.lw_sat.specs.declared.work.Work.TheVariants.{Only, Both}

-- an item and its opposite are the two items of a formula
both_signs : (X : Set ℕ) (i : ℕ) → X i ≡ true → X (flip_item i) ≡ true → (X (i - i % 2) ≡ true) × (X (i - i % 2 + 1) ≡ true)
both_signs X i here there =
    by_parity (λ k. X k ≡ true → X (flip_item k) ≡ true → (X (k - k % 2) ≡ true) × (X (k - k % 2 + 1) ≡ true)) i
    (λ e own other. let same : i - i % 2 ≡ i = omega arith in (subst (λ k. X k ≡ true) (sym same) own, subst (λ k. X k ≡ true) (flip_even i e ∙ (omega arith)) other))
    (λ e own other. let same : i - i % 2 + 1 ≡ i = omega arith in (subst (λ k. X k ≡ true) (flip_odd i e ∙ (omega arith)) other, subst (λ k. X k ≡ true) (sym same) own))
    here there

pub close_leaf : (t : Table) (X : Set ℕ) (i : ℕ) → i < item_count t → X i ≡ true → X (flip_item i) ≡ true →
    IsLeaf t X Rule.Close (i - i % 2) ((i - i % 2) ∷ (i - i % 2 + 1) ∷ [])
close_leaf t X i below here there =
    let even : (i - i % 2) % 2 ≡ 0 = omega arith in
    let both = both_signs X i here there in
    record {
      below = omega (arith, below);
      inside = (omega (arith, below), (omega (arith, below), tt));
      there = (both.0, (both.1, tt));
      closes = λ U h. ((sign_even (i - i % 2) even, h.0, subst (λ k. U k ≡ true) (sym (flip_even (i - i % 2) even)) h.1.0), tt);
      grows = (tt, tt);
      still = refl;
    }

pub absurd_leaf : (t : Table) (X : Set ℕ) (i : ℕ) → i < item_count t → X i ≡ true → (entry_at t i).absurd ≡ true → IsLeaf t X Rule.Absurd i (i ∷ [])
absurd_leaf t X i below here e = record { below = below; inside = (below, tt); there = (here, tt); closes = λ U h. ((e, h.0), tt); grows = (tt, tt); still = refl }

pub both_below : (n : ℕ) (p : ℕ × Option ℕ) → OfBoth (λ j. j < n) p → AreBelow n (listed p)
both_below n (a, None) h = (h, tt)
both_below n (a, Some b) h = (h.0, (h.1, tt))

pub below_more : (n m : ℕ) → n ≤ m → (cs : List ℕ) → AreBelow n cs → AreBelow m cs
below_more n m l [] h = tt
below_more n m l (c ∷ cs) h = (omega (arith, h.0), below_more n m l cs h.1)

module _ (t : Table) (table : IsTable t) (X : Set ℕ) (i : ℕ) (below : i < item_count t) (here : X i ≡ true) where
  parts_below : (p : Parts ℕ) → (entry_at t i).parts ≡ p → OfParts (λ j. j < item_count t) p
  parts_below p e = subst (λ q. OfParts (λ j. j < item_count t) q) e (table.parts i below)

  pub one_below : (a : ℕ) (b : Option ℕ) → (entry_at t i).parts ≡ One a b → AreBelow (item_count t) (side a b)
  one_below a b e = both_below (item_count t) (a, b) (parts_below (One a b) e)

  pub first_below : (p q : ℕ × Option ℕ) → (entry_at t i).parts ≡ Two p q → AreBelow (item_count t) (listed p)
  first_below p q e = both_below (item_count t) p (parts_below (Two p q) e).0

  pub second_below : (p q : ℕ × Option ℕ) → (entry_at t i).parts ≡ Two p q → AreBelow (item_count t) (listed q)
  second_below p q e = both_below (item_count t) q (parts_below (Two p q) e).1

  pub nu_below : (a : ℕ) → (entry_at t i).parts ≡ Nu a → a < item_count t
  nu_below a e = parts_below (Nu a) e

  pub one_work : (a : ℕ) (b : Option ℕ) → (entry_at t i).parts ≡ One a b → HasNew X (adding (side a b) X) → IsWork t X (Only Rule.One i (a, b))
  one_work a b e new = (
    record {
      below = below;
      sides = (one_below a b e, tt);
      leaves = record {
        applies = λ Y h. (subst (λ p. is_one p ≡ true) (sym e) refl, h.0);
        still = refl;
        left = λ Y. subst (λ p. premises (items t) t.logic Rule.One i p Y ≡ adding (side a b) Y ∷ []) (sym e) refl;
      };
      there = (here, tt);
      gains = (new, tt);
    },
    here,
    subst (λ p. IsSide t.logic p (side a b)) (sym e) refl,
  )

  pub two_work : (p q : ℕ × Option ℕ) → (entry_at t i).parts ≡ Two p q → HasNew X (adding (listed p) X) → HasNew X (adding (listed q) X) → IsWork t X (Both i p q)
  two_work p q e first second = (
    record {
      below = below;
      sides = (first_below p q e, (second_below p q e, tt));
      leaves = record {
        applies = λ Y h. (subst (λ r. is_two r ≡ true) (sym e) refl, h.0);
        still = refl;
        left = λ Y. subst (λ r. premises (items t) t.logic Rule.Two i r Y ≡ adding (listed p) Y ∷ adding (listed q) Y ∷ []) (sym e) refl;
      };
      there = (here, tt);
      gains = (first, (second, tt));
    },
    here,
    subst (λ r. IsSide t.logic r (listed p)) (sym e) (inl refl),
    subst (λ r. IsSide t.logic r (listed q)) (sym e) (inr refl),
  )

  pub nu_work : (a : ℕ) → (entry_at t i).parts ≡ Nu a → has_refl t.logic ≡ true → X a ≡ false → IsWork t X (Only Rule.Refl i (a, None))
  nu_work a e reflexive out = (
    record {
      below = below;
      sides = ((nu_below a e, tt), tt);
      leaves = record {
        applies = λ Y h. (reflexive, subst (λ p. is_nu p ≡ true) (sym e) refl, h.0);
        still = refl;
        left = λ Y. subst (λ p. premises (items t) t.logic Rule.Refl i p Y ≡ adding (a ∷ []) Y ∷ []) (sym e) refl;
      };
      there = (here, tt);
      gains = ((a, added, λ in_. both_ways (X a) out in_), tt);
    },
    here,
    subst (λ p. IsSide t.logic p (a ∷ [])) (sym e) (reflexive, refl),
  ) where
    added : adding (a ∷ []) X a ≡ true
    added = ap (λ b. (b || false) || X a) (eq-eqb a a refl)

-- a label in which each item is quiet is unclosed
pub all_quiet : (t : Table) (X : Set ℕ) → IsOfItems t X → ((i : ℕ) → i < item_count t → X i ≡ true → IsQuiet t X i) → IsUnclosedLabel t X
all_quiet t X own quiet = record {
  consistent = λ s here there. both_ways (X (flip_item s)) (quiet s (own s here) here).consistent there;
  possible = λ s here absurd_. both_ways (entry_at t s).absurd (quiet s (own s here) here).possible absurd_;
  served = λ s here. (quiet s (own s here) here).served;
}

-- what is looked through grows by one item
pub one_more_quiet : (P : ℕ → Type 0) (X : Set ℕ) (n : ℕ) → ((i : ℕ) → i < n → X i ≡ true → P i) → (X n ≡ true → P n) → (i : ℕ) → i < n + 1 → X i ≡ true → P i
one_more_quiet P X n below here i l there =
    ⊎_elim
    (λ (same : i ≡ n). subst P (sym same) (here (subst (λ k. X k ≡ true) same there)))
    (λ (apart : i ≡ n → ⊥). below i (omega (arith, apart)) there)
    (cases_eq i n)
