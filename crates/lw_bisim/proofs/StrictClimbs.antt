-- In a finite model whose relation is transitive and antisymmetric, what a world has wherever all other worlds that it sees
-- have it, every world has.
use Rattle.std.proofs.Common.{◌≡◌, ◌≢◌, ℕ, ◌+◌, ◌<◌, ◌≤◌, suc, zero, Bool, not, List, length, ◌==◌, refl, subst, sym, arith}
use Rattle.std.specs.List.{Contains, filter}
use Rattle.std.proofs.lemmas.Bool.Decides.{Decides-eqb, Decides-not}
use Rattle.std.proofs.lemmas.List.Filters.{length-filter_both}
use Rattle.lw_formula.specs.FiniteModel.{FiniteModel, Sees}
use Rattle.lw_formula.specs.Class.{IsTransitive, IsAntisymmetric}
use Rattle.lw_formula.proofs.ListMembers.{Contains-filter}

-- each other world that w sees is the second of a pair of the list
abbrev Covers : FiniteModel → List (ℕ × ℕ) → ℕ → Type 0
Covers m xs w = (u : ℕ) → Sees m w u → w ≢ u → (v : ℕ) × Contains xs (v, u)

abbrev is_to : ℕ → ℕ × ℕ → Bool
is_to u x = x.1 == u

abbrev is_past : ℕ → ℕ × ℕ → Bool
is_past u x = not (x.1 == u)

-- the pairs to a world taken out, fewer are left
fewer_past : (xs : List (ℕ × ℕ)) (v u n : ℕ) → Contains xs (v, u) → length xs ≤ n + 1 → length (filter (is_past u) xs) ≤ n
fewer_past xs v u n h l =
    let own : Contains (filter (is_to u) xs) (v, u) = Contains-filter (is_to u) xs (v, u) h ((Decides-eqb u u).1 refl) in
    let some : own.0 < length (filter (is_to u) xs) = own.1 in
    let both : length (filter (is_to u) xs) + length (filter (is_past u) xs) ≡ length xs = length-filter_both (is_to u) (is_past u) (λ x. refl) xs in
    omega arith

-- the step of such a climb
abbrev pub IsInherited : FiniteModel → (ℕ → Type 0) → Type 0
IsInherited m P = (v : ℕ) → ((u : ℕ) → Sees m v u → v ≢ u → P u) → P v

climb_within : (m : FiniteModel) → IsTransitive m → IsAntisymmetric m → (P : ℕ → Type 0) → IsInherited m P → (n : ℕ) (xs : List (ℕ × ℕ)) → length xs ≤ n → (w : ℕ) → Covers m xs w → P w
climb_within m up apart P step zero xs l w covers = step w (λ u s ne. let h = (covers u s ne).1 in let bad : ⊥ = omega (arith, h.1) in absurd bad)
climb_within m up apart P step (suc n) xs l w covers =
    step w (λ u s ne.
    let pair = covers u s ne in
    climb_within m up apart P step n (filter (is_past u) xs) (fewer_past xs pair.0 u n pair.1 (omega arith)) u (λ v t other.
    let next = covers v (up w u v s t) (λ e. ne (apart w u s (subst (Sees m u) (sym e) t))) in (
      next.0,
      Contains-filter (is_past u) xs (next.0, v) next.1
          ((Decides-not (v == u) (Decides-eqb v u)).1 (λ e. other (sym e))),
    )))

pub climb : (m : FiniteModel) → IsTransitive m → IsAntisymmetric m → (P : ℕ → Type 0) → IsInherited m P → (w : ℕ) → P w
climb m up apart P step w = climb_within m up apart P step (length m.pairs) m.pairs (omega arith) w (λ u s ne. (w, s))
