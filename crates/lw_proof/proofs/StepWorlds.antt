-- What a step finds: a world that is seen, at which all that the step adds and keeps holds.
use Rattle.std.proofs.Common.{◌≡◌, ℕ, ◌<◌, ◌==◌, true, ◌&&◌, ◌||◌, ◌⊎◌, inl, inr, refl, ap, subst, sym}
use Rattle.std.specs.Bool.{IsTrue}
use Rattle.std.specs.Option.{option_to_list}
use Rattle.std.proofs.lemmas.Bool.{false≢true, or_cases, and_parts, cases_eq}
use Rattle.std.proofs.lemmas.Bool.Decides.{Decides-eqb}
use Rattle.std.proofs.lemmas.List.Elements.{All-contains}
use Rattle.lw_formula.specs.declared.logic.Logic.{Logic}
use Rattle.lw_formula.specs.declared.logic.Logic.TheVariants.{K, KT, S4, S5, GL, Grz, K4, KD}
use Rattle.lw_formula.specs.declared.sign.Sign.TheVariants.{T, F}
use Rattle.lw_formula.specs.declared.parts.Parts.TheVariants.{Pi}
use Rattle.lw_formula.specs.Formula.{nec, poss}
use Rattle.lw_formula.specs.FiniteModel.{FiniteModel, IsWellFormed, Sees}
use Rattle.lw_formula.specs.Class.{Class, IsTransitive, IsSymmetric, IsAntisymmetric, IsIrreflexive}
use Rattle.lw_formula.specs.Signed.{Signed, SignedSet, flip, HoldsSigned, Satisfies}
use Rattle.lw_formula.specs.Components.{parts_of, guard_of}
use Rattle.lw_formula.specs.Truth.{IsTrueAt}
use Rattle.lw_formula.proofs.ListTests.{Decides-either, Decides-pair, list_any-Contains}
use Rattle.lw_proof.specs.System.{nu_of, trees}
use Rattle.lw_proof.specs.Derivation.{has_refl, has_serial, is_nu, is_pi, kept, added}
use Rattle.lw_proof.proofs.SignedMeaning.{decided, holds_either, holds_decided, HoldsAll, Means}
use Rattle.lw_proof.proofs.LastWorld.{IsLast, last}

-- what a world sees is a world
pub seen_within : (m : FiniteModel) → IsWellFormed m → (w v : ℕ) → Sees m w v → v < m.worlds
seen_within m h w v sees = (All-contains (λ p. (p.0 < m.worlds) × (p.1 < m.worlds)) m.pairs (w, v) h.pairs_within sees).1

-- one world sees another or doesn't
sees_either : (m : FiniteModel) (w v : ℕ) → Sees m w v ⊎ (¬ Sees m w v)
sees_either m w v =
    Decides-either _
    (list_any-Contains (λ p. (p.0 == w) && (p.1 == v)) (w, v)
    (λ p. Decides-pair p (w, v) (p.0 == w) (p.1 == v) (Decides-eqb p.0 w) (Decides-eqb p.1 v))
    m.pairs)

both_either : {P Q : Type 0} → P ⊎ (¬ P) → Q ⊎ (¬ Q) → (P × Q) ⊎ (¬ (P × Q))
both_either (inl p) (inl q) = inl (p, q)
both_either (inl p) (inr n) = inr (λ h. n h.1)
both_either (inr n) q = inr (λ h. n h.0)

not_either : {P : Type 0} → P ⊎ (¬ P) → (¬ P) ⊎ (¬ (¬ P))
not_either (inl p) = inr (λ n. n p)
not_either (inr n) = inl n

-- where the logic has Refl each world sees itself
pub sees_itself : (L : Logic) (m : FiniteModel) → Class L m → IsTrue (has_refl L) → (w : ℕ) → w < m.worlds → Sees m w w
sees_itself K m c e w l = absurd (false≢true e)
sees_itself KT m c e w l = c.frame w l
sees_itself S4 m c e w l = c.frame.0 w l
sees_itself S5 m c e w l = c.frame.0 w l
sees_itself GL m c e w l = absurd (false≢true e)
sees_itself Grz m c e w l = c.frame.0 w l
sees_itself K4 m c e w l = absurd (false≢true e)
sees_itself KD m c e w l = absurd (false≢true e)

-- where the logic has Serial each world sees one
pub sees_one : (L : Logic) (m : FiniteModel) → Class L m → IsTrue (has_serial L) → (w : ℕ) → w < m.worlds → (v : ℕ) × Sees m w v
sees_one K m c e w l = absurd (false≢true e)
sees_one KT m c e w l = absurd (false≢true e)
sees_one S4 m c e w l = absurd (false≢true e)
sees_one S5 m c e w l = absurd (false≢true e)
sees_one GL m c e w l = absurd (false≢true e)
sees_one Grz m c e w l = absurd (false≢true e)
sees_one K4 m c e w l = absurd (false≢true e)
sees_one KD m c e w l = c.frame w l

module _ (m : FiniteModel) where
  -- the component of a ν holds at each world that is seen
  pub under_holds : (w v : ℕ) → Sees m w v → (s : Signed) → HoldsSigned m w (nu_of s) → HoldsSigned m v s
  under_holds w v sees (T, a) h = h v sees
  under_holds w v sees (F, a) h = λ x. h (v, sees, x)

  -- a ν goes on to hold where seeing is transitive
  pub nu_stays : IsTransitive m → (w v : ℕ) → Sees m w v → (s : Signed) → IsTrue (is_nu (parts_of s)) → HoldsSigned m w s → HoldsSigned m v s
  nu_stays joins w v sees (T, nec a) e h = λ u on. h u (joins w v u sees on)
  nu_stays joins w v sees (F, poss a) e h = λ some. h (some.0, joins w v some.0 sees some.1, some.2)
  nu_stays joins w v sees _ e h = absurd (false≢true e)

  -- a π goes on to hold where moreover what is seen sees back
  pub pi_stays : IsSymmetric m → IsTransitive m → (w v : ℕ) → Sees m w v → (s : Signed) → IsTrue (is_pi (parts_of s)) → HoldsSigned m w s → HoldsSigned m v s
  pi_stays back joins w v sees (F, nec a) e h = λ all. h (λ u on. all u (joins v w u (back w v sees) on))
  pi_stays back joins w v sees (T, poss a) e h = (h.0, joins v w h.0 (back w v sees) h.1, h.2)
  pi_stays back joins w v sees _ e h = absurd (false≢true e)

  nus_hold : IsTransitive m → (w v : ℕ) → Sees m w v → (X : SignedSet) → Satisfies m w X → (s : Signed) → (is_nu (parts_of s) && X s) ≡ true → HoldsSigned m v s
  nus_hold joins w v sees X sat s e =
      let both = and_parts (is_nu (parts_of s)) (X s) e in
      nu_stays joins w v sees s both.0 (sat s both.1)

  -- what a step keeps of a set that holds holds at each world that is seen
  pub kept_holds : (L : Logic) → Class L m → (w v : ℕ) → Sees m w v → (X : SignedSet) → Satisfies m w X → Satisfies m v (kept trees L X)
  kept_holds K c w v sees X sat = λ s e. under_holds w v sees s (sat (nu_of s) e)
  kept_holds KT c w v sees X sat = λ s e. under_holds w v sees s (sat (nu_of s) e)
  kept_holds S4 c w v sees X sat = nus_hold c.frame.1 w v sees X sat
  kept_holds S5 c w v sees X sat = λ s e.
      let both = and_parts (is_nu (parts_of s) || is_pi (parts_of s)) (X s) e in
      elim (or_cases (is_nu (parts_of s)) (is_pi (parts_of s)) both.0) [
        | inl nu ↦ nu_stays c.frame.2 w v sees s nu (sat s both.1)
        | inr pi ↦ pi_stays c.frame.1 c.frame.2 w v sees s pi (sat s both.1)
      ]
  kept_holds GL c w v sees X sat = λ s e.
      elim (or_cases (is_nu (parts_of s) && X s) (X (nu_of s)) e) [
        | inl old ↦ nus_hold c.frame.0 w v sees X sat s old
        | inr below ↦ under_holds w v sees s (sat (nu_of s) below)
      ]
  kept_holds Grz c w v sees X sat = nus_hold c.frame.1 w v sees X sat
  kept_holds K4 c w v sees X sat = λ s e.
      elim (or_cases (is_nu (parts_of s) && X s) (X (nu_of s)) e) [
        | inl old ↦ nus_hold c.frame w v sees X sat s old
        | inr below ↦ under_holds w v sees s (sat (nu_of s) below)
      ]
  kept_holds KD c w v sees X sat = λ s e. under_holds w v sees s (sat (nu_of s) e)

  -- in a transitive and irreflexive model: a world at which c holds and that sees no such world
  last_strict : IsWellFormed m → IsTransitive m → IsIrreflexive m → (w : ℕ) (c : Signed) → Means m w (Pi c) →
      (v : ℕ) × Sees m w v × HoldsSigned m v c × ((u : ℕ) → Sees m v u → HoldsSigned m u (flip c))
  last_strict formed joins strict w c h = (found.0, on, found.1.0, none)
    where
      found : (v : ℕ) × IsLast (Sees m) (λ u. HoldsSigned m u c) m.worlds h.0 v
      found = last (Sees m) (λ u. HoldsSigned m u c) joins strict (λ v u. both_either (sees_either m v u) (holds_decided m u c)) m.worlds h.0 h.2

      on : Sees m w found.0
      on = elim found.1.1 [ inl e ↦ subst (Sees m w) (sym e) h.1 | inr r ↦ joins w h.0 found.0 h.1 r ]

      none : (u : ℕ) → Sees m found.0 u → HoldsSigned m u (flip c)
      none u sees = elim (holds_either m u c) [ inl x ↦ absurd (found.1.2 u (seen_within m formed found.0 u sees) sees x) | inr y ↦ y ]

  -- in a transitive and antisymmetric model: a world at which c holds and that sees no other such world
  last_other : IsWellFormed m → IsTransitive m → IsAntisymmetric m → (w : ℕ) (c : Signed) → Means m w (Pi c) →
      (v : ℕ) × Sees m w v × HoldsSigned m v c × ((u : ℕ) → Sees m v u → HoldsSigned m u c → u ≡ v)
  last_other formed joins anti w c h = (found.0, on, found.1.0, none)
    where
      found : (v : ℕ) × IsLast (λ v u. Sees m v u × (¬ (v ≡ u))) (λ u. HoldsSigned m u c) m.worlds h.0 v
      found =
          last (λ v u. Sees m v u × (¬ (v ≡ u))) (λ u. HoldsSigned m u c)
          (λ u v z r q. (joins u v z r.0 q.0, λ e. r.1 (anti u v r.0 (subst (Sees m v) (sym e) q.0))))
          (λ v r. r.1 refl)
          (λ v u. both_either (both_either (sees_either m v u) (not_either (cases_eq v u))) (holds_decided m u c))
          m.worlds h.0 h.2

      on : Sees m w found.0
      on = elim found.1.1 [ inl e ↦ subst (Sees m w) (sym e) h.1 | inr r ↦ joins w h.0 found.0 h.1 r.0 ]

      none : (u : ℕ) → Sees m found.0 u → HoldsSigned m u c → u ≡ found.0
      none u sees x = elim (cases_eq found.0 u) [
        | inl e ↦ sym e
        | inr n ↦ absurd (found.1.2 u (seen_within m formed found.0 u sees) (sees, n) x)
      ]

-- s is a π with the component c
abbrev pub IsPiOf : Signed → Signed → Type 0
IsPiOf (F, nec a) c = c ≡ (F, a)
IsPiOf (T, poss a) c = c ≡ (T, a)
IsPiOf _ c = ⊥

module _ (m : FiniteModel) where
  -- in GL: at a last world the π fails
  flip_holds : (v : ℕ) (s c : Signed) → IsPiOf s c → ((u : ℕ) → Sees m v u → HoldsSigned m u (flip c)) → HoldsSigned m v (flip s)
  flip_holds v (F, nec a) c e none = λ u sees. subst (HoldsSigned m u) (ap flip e) (none u sees)
  flip_holds v (T, poss a) c e none = λ some. subst (HoldsSigned m some.0) (ap flip e) (none some.0 some.1) some.2
  flip_holds v _ c e none = absurd e

  -- in Grz: at a last world the guard of the π holds
  guard_holds : IsTransitive m → IsAntisymmetric m → (v : ℕ) (s c : Signed) → IsPiOf s c → HoldsSigned m v c →
      ((u : ℕ) → Sees m v u → HoldsSigned m u c → u ≡ v) → HoldsAll m v (option_to_list (guard_of s))
  guard_holds joins anti v (F, nec a) c e here none = (all, tt)
    where
      all : (u : ℕ) → Sees m v u → IsTrueAt m u a → (z : ℕ) → Sees m u z → IsTrueAt m z a
      all u sees x z on = elim (decided m z a) [
        | inl y ↦ y
        | inr n ↦
            let z_is_v : z ≡ v = none z (joins v u z sees on) (subst (HoldsSigned m z) (sym e) n) in
            let u_is_v : u ≡ v = anti u v (subst (Sees m u) z_is_v on) sees in
            absurd (subst (HoldsSigned m v) e here (subst (λ k. IsTrueAt m k a) u_is_v x))
      ]
  guard_holds joins anti v (T, poss a) c e here none = (fails, tt)
    where
      fails : ((u : ℕ) × Sees m v u × (¬ IsTrueAt m u a × ((z : ℕ) × Sees m u z × IsTrueAt m z a))) → ⊥
      fails some =
          let u = some.0 in
          let z = some.2.1.0 in
          let z_is_v : z ≡ v = none z (joins v u z some.1 some.2.1.1) (subst (HoldsSigned m z) (sym e) some.2.1.2) in
          let u_is_v : u ≡ v = anti u v (subst (Sees m u) z_is_v some.2.1.1) some.1 in
          some.2.0 (subst (λ k. IsTrueAt m k a) (sym u_is_v) (subst (HoldsSigned m v) e here))
  guard_holds joins anti v _ c e here none = absurd e

  -- where a π holds, all that its step adds holds at a world that is seen
  pub target : (L : Logic) → Class L m → (w : ℕ) (s c : Signed) → IsPiOf s c → Means m w (Pi c) → (v : ℕ) × Sees m w v × HoldsAll m v (added trees L s c)
  target GL k w s c e h =
      let found = last_strict m k.well_formed k.frame.0 k.frame.1 w c h in
      (found.0, found.1, (found.2, (flip_holds found.0 s c e found.3, tt)))
  target Grz k w s c e h =
      let found = last_other m k.well_formed k.frame.1 k.frame.2 w c h in
      (found.0, found.1, (found.2, guard_holds k.frame.1 k.frame.2 found.0 s c e found.2 found.3))
  target K k w s c e h = (h.0, h.1, (h.2, tt))
  target KT k w s c e h = (h.0, h.1, (h.2, tt))
  target S4 k w s c e h = (h.0, h.1, (h.2, tt))
  target S5 k w s c e h = (h.0, h.1, (h.2, tt))
  target K4 k w s c e h = (h.0, h.1, (h.2, tt))
  target KD k w s c e h = (h.0, h.1, (h.2, tt))
