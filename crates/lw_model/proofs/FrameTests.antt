-- What a test of each world of a list says of the worlds that a world sees.
use Rattle.std.proofs.Common.{◌≡◌, ℕ, ◌<◌, Bool, true, false, List, [], ◌∷◌, length, not, ◌↔◌, refl, sym, ap, ◌==◌, ◌∙◌, eqb-true, arith}
use Rattle.std.specs.Bool.{MatchBool, IsTrue}
use Rattle.std.specs.List.{AllWithin, HoldsAt, Contains}
use Rattle.std.proofs.lemmas.Bool.{false≢true}
use Rattle.std.proofs.lemmas.List.Elements.{All-from_all_within, All-contains}
use Rattle.lw_formula.specs.FiniteModel.{FiniteModel, Sees}
use Rattle.lw_formula.proofs.ListTests.{member_at}
use Rattle.lw_formula.proofs.ListMembers.{Contains-nil, Contains-head}

-- a test that says yes where all worlds that v sees have a property, and no where one lacks it
pub iff_from_cases : (m : FiniteModel) (v : ℕ) (ws : List ℕ) (P : ℕ → Type 0) (r : Bool) → ((w : ℕ) → Contains ws w ↔ Sees m v w) → MatchBool r (AllWithin P ws 0 (length ws)) ((k : ℕ) × (k < length ws) × HoldsAt (λ w. ¬ P w) ws k) → IsTrue r ↔ ((w : ℕ) → Sees m v w → P w)
iff_from_cases m v ws P true exact h = (λ _ w s. All-contains P ws w (All-from_all_within P ws h) ((exact w).1 s), λ _. refl)
iff_from_cases m v ws P false exact h =
    let some = member_at (λ w. ¬ P w) ws h.0 h.1 h.2 in
    (λ e. absurd (false≢true e), λ all. absurd (some.2 (all some.0 ((exact some.0).0 some.1))))

-- the list of the worlds that a world sees isn't empty exactly where it sees one
pub some_from_list : (m : FiniteModel) (v : ℕ) (ws : List ℕ) (b r : Bool) → ((w : ℕ) → Contains ws w ↔ Sees m v w) → b ≡ (length ws == 0) → r ≡ not b → IsTrue r ↔ ((w : ℕ) × Sees m v w)
some_from_list m v [] b r exact e n = (λ t. absurd (false≢true (sym n_is ∙ t)), λ s. absurd (Contains-nil s.0 ((exact s.0).1 s.1)))
  where
    n_is : r ≡ false
    n_is = n ∙ ap not e
some_from_list m v (w ∷ ws) b r exact e n = (λ t. (w, (exact w).0 (Contains-head w ws)), λ s. n ∙ not_from b (λ t. not_empty (sym e ∙ t)))
  where
    not_from : (b : Bool) → (b ≡ true → ⊥) → not b ≡ true
    not_from true f = absurd (f refl)
    not_from false f = refl

    not_empty : (length (w ∷ ws) == 0) ≡ true → ⊥
    not_empty t = let none : length (w ∷ ws) ≡ 0 = eqb-true (length (w ∷ ws)) 0 t in omega arith
