-- Lists of distinct elements with the same members are equally long.
use Rattle.std.proofs.Common.{◌≡◌, ◌≢◌, ℕ, ◌+◌, ◌≤◌, suc, zero, inl, inr, List, [], ◌∷◌, length, get_or, sym, subst, ◌∙◌, arith, Contains}
use Rattle.std.specs.List.{remove}
use Rattle.std.proofs.lemmas.List.{get_or_default}
use Rattle.std.proofs.lemmas.List.Edits.{length-remove}
use Rattle.lw_formula.specs.FiniteModel.{AreDistinct}
use Rattle.lw_formula.proofs.ListMembers.{Contains-head, Contains-tail, Contains-cons_cases, AreDistinct-head, AreDistinct-tail}

-- what isn't removed stays a member
Contains-remove : {X : Type 0} (ys : List X) (k : ℕ) (z : X) → get_or ys k z ≢ z → Contains ys z → Contains (remove ys k) z
Contains-remove [] k z ne h = absurd (omega (arith, h.1))
Contains-remove (y ∷ ys) zero z ne h = elim (Contains-cons_cases y ys z h) [ inl e ↦ absurd (ne e) | inr t ↦ t ]
Contains-remove (y ∷ ys) (suc k) z ne h =
    elim (Contains-cons_cases y ys z h) [
      | inl e ↦ subst (Contains (y ∷ remove ys k)) e (Contains-head y (remove ys k))
      | inr t ↦ Contains-tail y (remove ys k) z (Contains-remove ys k z ne t)
    ]

-- distinct members of a list are no more than the list is long
pub length-le_from_members : {X : Type 0} (xs ys : List X) → AreDistinct xs → ((x : X) → Contains xs x → Contains ys x) → length xs ≤ length ys
length-le_from_members [] ys d h = omega arith
length-le_from_members {X} (x ∷ xs) ys d h =
    let c = h x (Contains-head x xs) in
    let rest : (z : X) → Contains xs z → Contains (remove ys c.0) z = λ z m.
    Contains-remove ys c.0 z
    (λ e. AreDistinct-head x xs d (subst (Contains xs) (sym e ∙ get_or_default ys c.0 z x c.1 ∙ c.2) m))
    (h z (Contains-tail x xs z m)) in
    let shorter : length (remove ys c.0) + 1 ≡ length ys = length-remove ys c.0 c.1 in
    let below : length xs ≤ length (remove ys c.0) = length-le_from_members xs (remove ys c.0) (AreDistinct-tail x xs d) rest in
    omega arith

pub length-same_members : {X : Type 0} (xs ys : List X) → AreDistinct xs → AreDistinct ys → ((x : X) → Contains xs x → Contains ys x) → ((x : X) → Contains ys x → Contains xs x) →
    length xs ≡ length ys
length-same_members xs ys d e h k = omega (arith, length-le_from_members xs ys d h, length-le_from_members ys xs e k)
