-- What steps keep in the logics with links, S4 and K4: the ν, and with them all that is kept.
use Rattle.std.proofs.Common.{◌≡◌, ℕ, true, ◌&&◌, inl, inr, ap}
use Rattle.std.proofs.lemmas.Bool.{or_cases, or_left, or_right, and_parts, and_from, false≢true}
use Rattle.lw_formula.specs.declared.logic.Logic.{Logic}
use Rattle.lw_formula.specs.declared.logic.Logic.TheVariants.{K, KT, S4, S5, GL, Grz, K4, KD}
use Rattle.lw_proof.specs.System.{Set}
use Rattle.lw_proof.specs.Derivation.{is_nu, kept}
use Rattle.lw_closure.specs.Table.{Table, entry_at, item_count}
use Rattle.lw_closure.specs.Items.{is_nu_to, items}
use Rattle.lw_closure.proofs.ItemNumbers.{any_below_cases, any_below-found, is_nu_to-true}
use Rattle.lw_counter.specs.FragmentPaths.{has_links}

module _ (t : Table) where
  -- the ν of the first label are in the second
  abbrev pub HasNus : Set ℕ → Set ℕ → Type 0
  HasNus X Y = (i : ℕ) → is_nu (entry_at t i).parts ≡ true → X i ≡ true → Y i ≡ true

  pub nu_kept : (L : Logic) → has_links L ≡ true → (X : Set ℕ) → HasNus X (kept (items t) L X)
  nu_kept K links X i nu there = absurd (false≢true links)
  nu_kept KT links X i nu there = absurd (false≢true links)
  nu_kept S4 links X i nu there = and_from (is_nu (entry_at t i).parts) (X i) nu there
  nu_kept S5 links X i nu there = absurd (false≢true links)
  nu_kept GL links X i nu there = absurd (false≢true links)
  nu_kept Grz links X i nu there = absurd (false≢true links)
  nu_kept K4 links X i nu there = or_left (is_nu (entry_at t i).parts && X i) ((items t).under X i) (and_from (is_nu (entry_at t i).parts) (X i) nu there)
  nu_kept KD links X i nu there = absurd (false≢true links)

  module _ (X Y : Set ℕ) (nus : HasNus X Y) (j : ℕ) where
    nu_there : (is_nu (entry_at t j).parts && X j) ≡ true → (is_nu (entry_at t j).parts && Y j) ≡ true
    nu_there e = let both = and_parts (is_nu (entry_at t j).parts) (X j) e in and_from (is_nu (entry_at t j).parts) (Y j) both.0 (nus j both.0 both.1)

    under_there : (items t).under X j ≡ true → (items t).under Y j ≡ true
    under_there e =
        let found = any_below_cases (λ k. X k && is_nu_to j (entry_at t k).parts) (item_count t) e in
        let both = and_parts (X found.0) (is_nu_to j (entry_at t found.0).parts) found.2 in
        let nu : is_nu (entry_at t found.0).parts ≡ true = ap is_nu (is_nu_to-true j (entry_at t found.0).parts both.1) in
        any_below-found (λ k. Y k && is_nu_to j (entry_at t k).parts) (item_count t) found.0 found.1
        (and_from (Y found.0) (is_nu_to j (entry_at t found.0).parts) (nus found.0 nu both.0) both.1)

    -- what is kept of the first label is kept of the second
    pub kept_there : (L : Logic) → has_links L ≡ true → kept (items t) L X j ≡ true → kept (items t) L Y j ≡ true
    kept_there K links e = absurd (false≢true links)
    kept_there KT links e = absurd (false≢true links)
    kept_there S4 links e = nu_there e
    kept_there S5 links e = absurd (false≢true links)
    kept_there GL links e = absurd (false≢true links)
    kept_there Grz links e = absurd (false≢true links)
    kept_there K4 links e = elim (or_cases (is_nu (entry_at t j).parts && X j) ((items t).under X j) e) [
      | inl nu ↦ or_left (is_nu (entry_at t j).parts && Y j) ((items t).under Y j) (nu_there nu)
      | inr inside ↦ or_right (is_nu (entry_at t j).parts && Y j) ((items t).under Y j) (under_there inside)
    ]
    kept_there KD links e = absurd (false≢true links)
