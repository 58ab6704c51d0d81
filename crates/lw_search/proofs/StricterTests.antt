-- How many numbers pass a test that is stricter than another, and what a larger label lacks.
use Rattle.std.proofs.Common.{◌≡◌, ℕ, zero, suc, ◌<◌, ◌≤◌, Bool, true, false, cond, not, inl, inr, refl, sym, ap, ◌∙◌, arith}
use Rattle.std.proofs.lemmas.Bool.{cases_lt, false≢true, and_parts, and_from, and_right, both_ways, not-true, not_from_true, not_from_false, false_from_ne_true}
use Rattle.lw_proof.specs.System.{Set}
use Rattle.lw_proof.specs.Derivation.{is_nu}
use Rattle.lw_closure.specs.Table.{Table, entry_at, item_count}
use Rattle.lw_search.specs.Private.LabelLack.{lacks_nu, nus_lacked}
use Rattle.lw_search.specs.Step.{count_below}

one_more : (a b : Bool) → (a ≡ true → b ≡ true) → cond a 1 0 ≤ cond b 1 0
one_more false b h = omega arith
one_more true true h = omega arith
one_more true false h = absurd (false≢true (h refl))

one_less : (a b : Bool) → a ≡ false → b ≡ true → cond a 1 0 < cond b 1 0
one_less false true d e = omega arith
one_less false false d e = absurd (false≢true e)
one_less true b d e = absurd (false≢true (sym d))

pub count_below-within : (f g : ℕ → Bool) (n : ℕ) → ((j : ℕ) → j < n → f j ≡ true → g j ≡ true) → count_below f n ≤ count_below g n
count_below-within f g zero h = omega arith
count_below-within f g (suc n) h =
    let here : cond (f n) 1 0 ≤ cond (g n) 1 0 = one_more (f n) (g n) (h n (omega arith)) in
    let below : count_below f n ≤ count_below g n = count_below-within f g n (λ j l. h j (omega arith)) in
    omega arith

-- and where some number passes the other test alone
pub count_below-less : (f g : ℕ → Bool) (n i : ℕ) → ((j : ℕ) → j < n → f j ≡ true → g j ≡ true) → i < n → f i ≡ false → g i ≡ true → count_below f n < count_below g n
count_below-less f g zero i h l fails passes = absurd (omega arith)
count_below-less f g (suc n) i h l fails passes = elim (cases_lt i n) [
  | inl lower ↦
      (let here : cond (f n) 1 0 ≤ cond (g n) 1 0 = one_more (f n) (g n) (h n (omega arith)) in
      let below : count_below f n < count_below g n = count_below-less f g n i (λ j k. h j (omega arith)) lower fails passes in
      omega arith)
  | inr last ↦
      (let same : i ≡ n = omega arith in
      let here : cond (f n) 1 0 < cond (g n) 1 0 = one_less (f n) (g n) (ap f (sym same) ∙ fails) (ap g (sym same) ∙ passes) in
      let below : count_below f n ≤ count_below g n = count_below-within f g n (λ j k. h j (omega arith)) in
      omega arith)
]

module _ (t : Table) (X Y : Set ℕ) (nus : (j : ℕ) → is_nu (entry_at t j).parts ≡ true → X j ≡ true → Y j ≡ true) where
  -- a label that has all ν of another lacks no more of them
  lacks_less : (j : ℕ) → lacks_nu t Y j ≡ true → lacks_nu t X j ≡ true
  lacks_less j e =
      let both = and_parts (is_nu (entry_at t j).parts) (not (Y j)) e in
      and_from (is_nu (entry_at t j).parts) (not (X j)) both.0
      (not_from_false (X j) (false_from_ne_true (X j) (λ there. both_ways (Y j) (not-true (Y j) both.1) (nus j both.0 there))))

  pub nus_lacked-within : nus_lacked t Y ≤ nus_lacked t X
  nus_lacked-within = count_below-within (lacks_nu t Y) (lacks_nu t X) (item_count t) (λ j l. lacks_less j)

  -- and fewer where it has one more
  pub nus_lacked-less : (i : ℕ) → i < item_count t → is_nu (entry_at t i).parts ≡ true → X i ≡ false → Y i ≡ true → nus_lacked t Y < nus_lacked t X
  nus_lacked-less i l nu out there =
      count_below-less (lacks_nu t Y) (lacks_nu t X) (item_count t) i (λ j k. lacks_less j) l
      (and_right (is_nu (entry_at t i).parts) (not (Y i)) (not_from_true (Y i) there))
      (and_from (is_nu (entry_at t i).parts) (not (X i)) nu (not_from_false (X i) out))
