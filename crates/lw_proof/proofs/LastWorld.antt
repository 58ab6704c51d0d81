-- A last world: among those that have a decidable property one from which no other such world is reached.
use Rattle.std.proofs.Common.{◌≡◌, ℕ, ◌<◌, zero, suc, ◌⊎◌, inl, inr, refl, subst, arith}
use Rattle.std.proofs.lemmas.Bool.{cases_lt}

-- v has the property, is w or is reached from it, and reaches no world below k that has the property
abbrev pub IsLast : (ℕ → ℕ → Type 0) → (ℕ → Type 0) → ℕ → ℕ → ℕ → Type 0
IsLast R Q k w v = Q v × ((v ≡ w) ⊎ R w v) × ((u : ℕ) → u < k → R v u → Q u → ⊥)

below_or_at : (u k : ℕ) → u < suc k → (u < k) ⊎ (u ≡ k)
below_or_at u k l = elim (cases_lt u k) [ inl less ↦ inl less | inr more ↦ inr (omega arith) ]

module _
    (R : ℕ → ℕ → Type 0)
    (Q : ℕ → Type 0)
    (transitive : (u v w : ℕ) → R u v → R v w → R u w)
    (irreflexive : (w : ℕ) → R w w → ⊥)
    (decided : (v u : ℕ) → (R v u × Q u) ⊎ (¬ (R v u × Q u)))
  where
    further : (w v k : ℕ) → (v ≡ w) ⊎ R w v → R v k → R w k
    further w v k at r = elim at [ inl e ↦ subst (λ x. R x k) e r | inr q ↦ transitive w v k q r ]

    -- the next world serves in v's place where v reaches it and it has the property
    next : (k w v : ℕ) → IsLast R Q k w v → (R v k × Q k) ⊎ (¬ (R v k × Q k)) → (v : ℕ) × IsLast R Q (suc k) w v
    next k w v h (inl goes) = (k, (goes.1, inr (further w v k h.1 goes.0), none))
      where
        none : (u : ℕ) → u < suc k → R k u → Q u → ⊥
        none u l r q = elim (below_or_at u k l) [
          | inl less ↦ h.2 u less (transitive v k u goes.0 r) q
          | inr e ↦ irreflexive k (subst (R k) e r)
        ]
    next k w v h (inr stops) = (v, (h.0, h.1, none))
      where
        none : (u : ℕ) → u < suc k → R v u → Q u → ⊥
        none u l r q = elim (below_or_at u k l) [
          | inl less ↦ h.2 u less r q
          | inr e ↦ stops (subst (R v) e r, subst Q e q)
        ]

    pub last : (k w : ℕ) → Q w → (v : ℕ) × IsLast R Q k w v
    last zero w q = (w, (q, inl refl, λ u l. let bad : ⊥ = omega arith in absurd bad))
    last (suc k) w q = let found = last k w q in next k w found.0 found.1 (decided found.0 k)
