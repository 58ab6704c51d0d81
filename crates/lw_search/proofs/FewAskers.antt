-- A label asks for no more steps than the table has askers.
use Rattle.std.proofs.Common.{◌≡◌, ℕ, zero, suc, ◌<◌, ◌≤◌, Bool, true, false, cond, not, ◌&&◌, ◌||◌, nat_lt, inl, inr, refl, sym, ap, subst, arith}
use Rattle.std.proofs.lemmas.Bool.{and_parts, and_from, or_cases, or_left, or_right, both_ways, cases_Bool, cases_lt, cases_eq, lt-ltb, false≢true, false_from_ne_true, not-true}
use Rattle.lw_formula.specs.declared.logic.Logic.{Logic}
use Rattle.lw_formula.specs.declared.logic.Logic.TheVariants.{K, KT, S4, S5, GL, Grz, K4, KD}
use Rattle.lw_formula.specs.declared.parts.Parts.{Parts}
use Rattle.lw_formula.specs.declared.parts.Parts.TheVariants.{Nothing, One, Two, Nu, Pi}
use Rattle.lw_proof.specs.System.{Set}
use Rattle.lw_proof.specs.Derivation.{has_cut, has_refl, has_serial, is_nu, is_pi}
use Rattle.lw_closure.specs.Keeps.{has_guards}
use Rattle.lw_closure.specs.Table.{Table, entry_at, item_count}
use Rattle.lw_closure.specs.Items.{any_below}
use Rattle.lw_closure.proofs.ItemNumbers.{any_below_cases, any_below-found}
use Rattle.lw_sat.specs.Sets.{IsOfItems}
use Rattle.lw_search.specs.Private.StepAskers.{asks_alone, goes_before, may_ask, others_ask}
use Rattle.lw_search.specs.Step.{askers, count_below, is_asker}
use Rattle.lw_search.proofs.StricterTests.{count_below-less, count_below-within}

-- the serial logic has neither Refl nor Cut, and no guards
pub serial_alone : (L : Logic) → has_serial L ≡ true → (has_refl L ≡ false) × (has_cut L ≡ false) × (has_guards L ≡ false)
serial_alone K e = absurd (false≢true e)
serial_alone KT e = absurd (false≢true e)
serial_alone S4 e = absurd (false≢true e)
serial_alone S5 e = absurd (false≢true e)
serial_alone GL e = absurd (false≢true e)
serial_alone Grz e = absurd (false≢true e)
serial_alone K4 e = absurd (false≢true e)
serial_alone KD e = (refl, refl, refl)

pub pi_with : (p : Parts ℕ) → is_pi p ≡ true → (c : ℕ) × (p ≡ Pi c)
pi_with (Pi c) e = (c, refl)
pi_with Nothing e = absurd (false≢true e)
pi_with (One c d) e = absurd (false≢true e)
pi_with (Two c d) e = absurd (false≢true e)
pi_with (Nu c) e = absurd (false≢true e)

counts_none : (b : Bool) → b ≡ false → ◌≡◌ {A = ℕ} (cond b 1 0) 0
counts_none false e = refl
counts_none true e = absurd (false≢true (sym e))

counts_one : (b : Bool) → b ≡ true → ◌≡◌ {A = ℕ} (cond b 1 0) 1
counts_one true e = refl
counts_one false e = absurd (false≢true e)

-- how many numbers pass a test that none passes, one alone, or some
count_none : (test : ℕ → Bool) (n : ℕ) → ((i : ℕ) → i < n → test i ≡ true → ⊥) → count_below test n ≡ 0
count_none test zero h = refl
count_none test (suc n) h =
    let last : cond (test n) 1 0 ≡ 0 = counts_none (test n) (false_from_ne_true (test n) (h n (omega arith))) in
    let rest = count_none test n (λ i l. h i (omega arith)) in
    omega (arith, last, rest)

count_one : (test : ℕ → Bool) (n : ℕ) → ((i j : ℕ) → i < n → j < n → test i ≡ true → test j ≡ true → i ≡ j) → count_below test n ≤ 1
count_one test zero h = omega arith
count_one test (suc n) h =
    elim (cases_Bool (test n)) [
      | inl here ↦ (
          let last : cond (test n) 1 0 ≡ 1 = counts_one (test n) here in
          let rest = count_none test n (λ i l e. (let same : i ≡ n = h i n (omega arith) (omega arith) e here in omega arith)) in
          omega (arith, last, rest)
          )
      | inr not_here ↦ (
          let last : cond (test n) 1 0 ≡ 0 = counts_none (test n) not_here in
          let rest = count_one test n (λ i j l m. h i j (omega arith) (omega arith)) in
          omega (arith, last, rest)
          )
    ]

pub count_some : (test : ℕ → Bool) (n i : ℕ) → i < n → test i ≡ true → 0 < count_below test n
count_some test n i l e = (let more = count_below-less (λ j. false) test n i (λ j k bad. absurd (false≢true bad)) l refl e in omega (arith, more))

-- what a ν that asks alone tells
module _ (t : Table) (X : Set ℕ) (i : ℕ) (e : asks_alone t X i ≡ true) where
  pub alone_serial : has_serial t.logic ≡ true
  alone_serial = (and_parts (has_serial t.logic) (is_nu (entry_at t i).parts && not (others_ask t X i)) e).0

  alone_both : (is_nu (entry_at t i).parts ≡ true) × (not (others_ask t X i) ≡ true)
  alone_both = and_parts (is_nu (entry_at t i).parts) (not (others_ask t X i)) (and_parts (has_serial t.logic) (is_nu (entry_at t i).parts && not (others_ask t X i)) e).1

  pub alone_nu : is_nu (entry_at t i).parts ≡ true
  alone_nu = alone_both.0

  -- nothing goes before it
  alone_first : IsOfItems t X → (j : ℕ) → X j ≡ true → goes_before t i j ≡ true → ⊥
  alone_first own j there before =
      both_ways (others_ask t X i) (not-true (others_ask t X i) alone_both.1) (any_below-found (λ k. X k && goes_before t i k) (item_count t) j (own j there) (and_from (X j) (goes_before t i j) there before))

module _ (t : Table) (X : Set ℕ) (own : IsOfItems t X) where
  -- one of two ν that ask alone goes before the other
  two_alone : (i j : ℕ) → j < i → X j ≡ true → asks_alone t X i ≡ true → asks_alone t X j ≡ true → ⊥
  two_alone i j l there e d =
      alone_first t X i e own j there (or_right (is_pi (entry_at t j).parts) (is_nu (entry_at t j).parts && nat_lt j i) (and_from (is_nu (entry_at t j).parts) (nat_lt j i) (alone_nu t X j d) (lt-ltb j i l)))

  -- where the label has a π, no ν asks
  module _ (some : any_below (λ i. X i && is_pi (entry_at t i).parts) (item_count t) ≡ true) where
    none_alone : (i : ℕ) → asks_alone t X i ≡ true → ⊥
    none_alone i e =
        let (j, l, h) = any_below_cases (λ i. X i && is_pi (entry_at t i).parts) (item_count t) some in
        let both = and_parts (X j) (is_pi (entry_at t j).parts) h in
        alone_first t X i e own j both.0 (or_left (is_pi (entry_at t j).parts) (is_nu (entry_at t j).parts && nat_lt j i) both.1)

    few_with : count_below (may_ask t X) (item_count t) ≤ askers t
    few_with = count_below-within (may_ask t X) (is_asker t) (item_count t) (λ i l e.
        elim (or_cases (is_asker t i) (asks_alone t X i) (and_parts (X i) (is_asker t i || asks_alone t X i) e).1) [ inl a ↦ a | inr b ↦ absurd (none_alone i b) ])

  -- where it has none, one ν asks at most
  module _ (lacks : any_below (λ i. X i && is_pi (entry_at t i).parts) (item_count t) ≡ false) where
    by_nu : (i : ℕ) → may_ask t X i ≡ true → asks_alone t X i ≡ true
    by_nu i e =
        let both = and_parts (X i) (is_asker t i || asks_alone t X i) e in
        elim (or_cases (is_asker t i) (asks_alone t X i) both.1) [
          | inl a ↦ absurd (both_ways _ lacks (any_below-found (λ i. X i && is_pi (entry_at t i).parts) (item_count t) i (own i both.0)
              (and_from (X i) (is_pi (entry_at t i).parts) both.0 (and_parts (is_pi (entry_at t i).parts) _ a).0)))
          | inr b ↦ b
        ]

    one_nu : (i j : ℕ) → may_ask t X i ≡ true → may_ask t X j ≡ true → i ≡ j
    one_nu i j e d =
        let mine = (and_parts (X i) (is_asker t i || asks_alone t X i) e).0 in
        let other = (and_parts (X j) (is_asker t j || asks_alone t X j) d).0 in
        elim (cases_lt j i) [
          | inl before ↦ absurd (two_alone i j before other (by_nu i e) (by_nu j d))
          | inr from ↦ elim (cases_lt i j) [ inl after ↦ absurd (two_alone j i after mine (by_nu j d) (by_nu i e)) | inr upto ↦ omega arith ]
        ]

    few_without : (has_serial t.logic ≡ true → (i : ℕ) → i < item_count t → is_nu (entry_at t i).parts ≡ true → 0 < askers t) → count_below (may_ask t X) (item_count t) ≤ askers t
    few_without some =
        elim (cases_Bool (any_below (may_ask t X) (item_count t))) [
          | inl asks ↦ (
              let (i, l, e) = any_below_cases (may_ask t X) (item_count t) asks in
              let alone = by_nu i e in
              let one = count_one (may_ask t X) (item_count t) (λ i j l m. one_nu i j) in
              omega (arith, one, some (alone_serial t X i alone) i l (alone_nu t X i alone))
              )
          | inr silent ↦ (
              let none = count_none (may_ask t X) (item_count t) (λ i l e. both_ways _ silent (any_below-found (may_ask t X) (item_count t) i l e)) in
              omega (arith, none)
              )
        ]

  pub few_asking : (has_serial t.logic ≡ true → (i : ℕ) → i < item_count t → is_nu (entry_at t i).parts ≡ true → 0 < askers t) → count_below (may_ask t X) (item_count t) ≤ askers t
  few_asking some = elim (cases_Bool (any_below (λ i. X i && is_pi (entry_at t i).parts) (item_count t))) [ inl a ↦ few_with a | inr b ↦ few_without b some ]
