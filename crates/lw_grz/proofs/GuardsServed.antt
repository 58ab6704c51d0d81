-- What a saturated label has where it has a π with its guard.
use Rattle.std.proofs.Common.{◌≡◌, ℕ, true, Option, Some, None, ◌⊎◌, inl, inr, refl, subst}
use Rattle.std.specs.Bool.{⊤}
use Rattle.std.proofs.lemmas.Bool.{false≢true}
use Rattle.lw_formula.specs.declared.logic.Logic.{Logic}
use Rattle.lw_formula.specs.declared.parts.Parts.{Parts}
use Rattle.lw_formula.specs.declared.parts.Parts.TheVariants.{Nothing, One, Two, Nu, Pi}
use Rattle.lw_formula.specs.declared.sign.Sign.TheVariants.{T, F}
use Rattle.lw_formula.specs.Formula.{neg, conj, impl, nec, poss}
use Rattle.lw_formula.specs.Signed.{Signed, flip}
use Rattle.lw_formula.specs.Components.{parts_of, guard_of}
use Rattle.lw_proof.specs.System.{Set}
use Rattle.lw_proof.specs.Derivation.{has_refl, is_pi}
use Rattle.lw_closure.specs.Mapping.{OfBoth, map_both, map_parts}
use Rattle.lw_closure.specs.Unclosed.{IsServed}

-- a π has a guard
pub pi_guard : (x : Signed) → is_pi (parts_of x) ≡ true → (g : Signed) × (guard_of x ≡ Some g)
pi_guard (F, nec a) e = ((T, nec (impl a (nec a))), refl)
pi_guard (T, poss a) e = ((F, poss (conj (neg a) (poss a))), refl)
pi_guard _ e = absurd (false≢true e)

-- what One, Two and Refl could add for these components is there
abbrev pub AreIn : (Signed → Type 0) → Parts Signed → Type 0
AreIn In (One a b) = OfBoth In (a, b)
AreIn In (Two p q) = OfBoth In p ⊎ OfBoth In q
AreIn In (Nu a) = In a
AreIn In _ = ⊤

both_in : (f : ℕ → Signed) (X : Set ℕ) (In : Signed → Type 0) → ((i : ℕ) → X i ≡ true → In (f i)) → (p : ℕ × Option ℕ) → OfBoth (λ c. X c ≡ true) p → OfBoth In (map_both f p)
both_in f X In h (a, None) x = h a x
both_in f X In h (a, Some b) x = (h a x.0, h b x.1)

pub served_in : (f : ℕ → Signed) (X : Set ℕ) (In : Signed → Type 0) → ((i : ℕ) → X i ≡ true → In (f i)) → (L : Logic) → has_refl L ≡ true → (p : Parts ℕ) → IsServed L X p → AreIn In (map_parts f p)
served_in f X In h L r Nothing x = tt
served_in f X In h L r (One a None) x = h a x
served_in f X In h L r (One a (Some b)) x = (h a x.0, h b x.1)
served_in f X In h L r (Two p q) x = elim x [ inl l ↦ inl (both_in f X In h p l) | inr l ↦ inr (both_in f X In h q l) ]
served_in f X In h L r (Nu c) x = h c (x r)
served_in f X In h L r (Pi c) x = tt

-- where a π and its guard are in a saturated set, so is the component of the π
pub guard_serves : (In : Signed → Type 0) → ((x : Signed) → In x → AreIn In (parts_of x)) → ((x : Signed) → In x → In (flip x) → ⊥) →
    (x c g : Signed) → parts_of x ≡ Pi c → guard_of x ≡ Some g → In x → In g → In c
guard_serves In serves clash (F, nec a) c g p q here there =
    let guard : g ≡ (T, nec (impl a (nec a))) = cc in
    let component : (F, a) ≡ c = cc in
    let inside : In (T, impl a (nec a)) = serves (T, nec (impl a (nec a))) (subst In guard there) in
    elim (serves (T, impl a (nec a)) inside) [
      | inl found ↦ subst In component found
      | inr other ↦ absurd (clash (F, nec a) here other)
    ]
guard_serves In serves clash (T, poss a) c g p q here there =
    let guard : g ≡ (F, poss (conj (neg a) (poss a))) = cc in
    let component : (T, a) ≡ c = cc in
    let inside : In (F, conj (neg a) (poss a)) = serves (F, poss (conj (neg a) (poss a))) (subst In guard there) in
    elim (serves (F, conj (neg a) (poss a)) inside) [
      | inl lost ↦ subst In component (serves (F, neg a) lost)
      | inr other ↦ absurd (clash (T, poss a) here other)
    ]
guard_serves In serves clash _ c g p q here there = cc
