-- The interpolant of each last step, from those of its premises.
use Rattle.std.proofs.Common.{◌≡◌, ℕ, ◌+◌, ◌*◌, ◌<◌, ◌≤◌, Bool, true, false, ◌||◌, ◌⊎◌, inl, inr, List, refl, sym, ap, arith}
use Rattle.std.specs.Bool.{IsTrue}
use Rattle.std.proofs.lemmas.Bool.{false≢true}
use Rattle.lw_formula.specs.declared.logic.Logic.{Logic}
use Rattle.lw_formula.specs.declared.sign.Sign.TheVariants.{T, F}
use Rattle.lw_formula.specs.Formula.{Formula, impl, nodes}
use Rattle.lw_formula.specs.FiniteModel.{FiniteModel, Sees}
use Rattle.lw_formula.specs.Class.{Class}
use Rattle.lw_formula.specs.Truth.{IsTrueAt}
use Rattle.lw_formula.specs.Variables.{Occurs}
use Rattle.lw_formula.specs.Signed.{Signed, SignedSet, HoldsSigned, Satisfies}
use Rattle.lw_formula.specs.Components.{is_absurd}
use Rattle.lw_proof.specs.System.{trees}
use Rattle.lw_proof.specs.Derivation.{kept}
use Rattle.lw_proof.proofs.SignedMeaning.{HoldsAll, satisfies_plus, never_both, absurd_fails}
use Rattle.lw_proof.proofs.StepWorlds.{seen_within, kept_holds}
use Rattle.lw_interp.specs.Maehara.{Sides, put, kept_sides, closing, absurdity, of_two, of_step}
use Rattle.lw_interp.proofs.SidePieces.{Piece, Split, IsPlaced, too_large_left, too_large_right, on_side}

module _ (L : Logic) (a b : Formula) where
  -- i is an interpolant for the two sides: true where all of the left holds, false where all of the right holds; it has few nodes
  pub record Between (n : ℕ) (W : Sides) (i : Formula) : Type 0 where
    pub in_left : (p : List ℕ) → Occurs p i → Occurs p a
    pub in_right : (p : List ℕ) → Occurs p i → Occurs p b
    pub true_left : (m : FiniteModel) → Class L m → (w : ℕ) → w < m.worlds → Satisfies m w W.left → IsTrueAt m w i
    pub false_right : (m : FiniteModel) → Class L m → (w : ℕ) → w < m.worlds → Satisfies m w W.right → ¬ IsTrueAt m w i
    pub few : nodes i ≤ n * (nodes (impl a b) + 1)

  -- where s holds, all of these hold
  abbrev pub Yields : Signed → List Signed → Type 0
  Yields s cs = (m : FiniteModel) → Class L m → (w : ℕ) → w < m.worlds → HoldsSigned m w s → HoldsAll m w cs

  -- where s holds, all of the first hold, or all of the second
  abbrev pub YieldsEither : Signed → List Signed → List Signed → Type 0
  YieldsEither s cs ds = (m : FiniteModel) → Class L m → (w : ℕ) → w < m.worlds → HoldsSigned m w s → HoldsAll m w cs ⊎ HoldsAll m w ds

  -- where s holds, a world is seen at which all of these hold
  abbrev pub Reaches : Signed → List Signed → Type 0
  Reaches s cs = (m : FiniteModel) → Class L m → (w : ℕ) → w < m.worlds → HoldsSigned m w s → (v : ℕ) × Sees m w v × HoldsAll m v cs

  module _ (s : Signed) (W : Sides) where
    -- One and Refl
    pub put_between : (l r : Bool) → W.left s ≡ l → W.right s ≡ r → (cs : List Signed) (n : ℕ) (i : Formula) → Yields s cs →
        Between n (put l r cs W) i → Between (n + 0 + 1) W i
    put_between true r el er cs n i y h = record {
      in_left = h.in_left;
      in_right = h.in_right;
      true_left = λ m c w o sat. h.true_left m c w o (satisfies_plus m w cs W.left (y m c w o (sat s el)) sat);
      false_right = h.false_right;
      few = let k = h.few in omega (arith, k);
    }
    put_between false true el er cs n i y h = record {
      in_left = h.in_left;
      in_right = h.in_right;
      true_left = h.true_left;
      false_right = λ m c w o sat. h.false_right m c w o (satisfies_plus m w cs W.right (y m c w o (sat s er)) sat);
      few = let k = h.few in omega (arith, k);
    }
    put_between false false el er cs n i y h = record {
      in_left = h.in_left;
      in_right = h.in_right;
      true_left = h.true_left;
      false_right = h.false_right;
      few = let k = h.few in omega (arith, k);
    }

    -- Two
    pub two_between : (l r : Bool) → W.left s ≡ l → W.right s ≡ r → (l || r) ≡ true → (cs ds : List Signed) (n k : ℕ) (i j : Formula) → YieldsEither s cs ds →
        Between n (put l r cs W) i → Between k (put l r ds W) j → Between (n + (k + 0) + 1) W (of_two l i j)
    two_between true r el er on cs ds n k i j y h g = record {
      in_left = λ p o. elim o [ inl x ↦ h.in_left p x | inr x ↦ g.in_left p x ];
      in_right = λ p o. elim o [ inl x ↦ h.in_right p x | inr x ↦ g.in_right p x ];
      true_left = λ m c w o sat. elim (y m c w o (sat s el)) [
        | inl x ↦ inl (h.true_left m c w o (satisfies_plus m w cs W.left x sat))
        | inr x ↦ inr (g.true_left m c w o (satisfies_plus m w ds W.left x sat))
      ];
      false_right = λ m c w o sat e. elim e [ inl x ↦ h.false_right m c w o sat x | inr x ↦ g.false_right m c w o sat x ];
      few = let p = h.few in let q = g.few in omega (arith, p, q);
    }
    two_between false true el er on cs ds n k i j y h g = record {
      in_left = λ p o. elim o [ inl x ↦ h.in_left p x | inr x ↦ g.in_left p x ];
      in_right = λ p o. elim o [ inl x ↦ h.in_right p x | inr x ↦ g.in_right p x ];
      true_left = λ m c w o sat. (h.true_left m c w o sat, g.true_left m c w o sat);
      false_right = λ m c w o sat e. elim (y m c w o (sat s er)) [
        | inl x ↦ h.false_right m c w o (satisfies_plus m w cs W.right x sat) e.0
        | inr x ↦ g.false_right m c w o (satisfies_plus m w ds W.right x sat) e.1
      ];
      few = let p = h.few in let q = g.few in omega (arith, p, q);
    }
    two_between false false el er on cs ds n k i j y h g = absurd (false≢true on)

    -- Step
    pub step_between : (l r : Bool) → W.left s ≡ l → W.right s ≡ r → (l || r) ≡ true → (cs : List Signed) (n : ℕ) (j : Formula) → Reaches s cs →
        Between n (put l r cs (kept_sides L W)) j → Between (n + 0 + 1) W (of_step l j)
    step_between true r el er on cs n j y h = record {
      in_left = h.in_left;
      in_right = h.in_right;
      true_left = λ m c w o sat.
          let f = y m c w o (sat s el) in
          (f.0, f.1, h.true_left m c f.0 (seen_within m c.well_formed w f.0 f.1) (satisfies_plus m f.0 cs (kept trees L W.left) f.2 (kept_holds m L c w f.0 f.1 W.left sat)));
      false_right = λ m c w o sat some. h.false_right m c some.0 (seen_within m c.well_formed w some.0 some.1) (kept_holds m L c w some.0 some.1 W.right sat) some.2;
      few = let p = h.few in omega (arith, p);
    }
    step_between false true el er on cs n j y h = record {
      in_left = h.in_left;
      in_right = h.in_right;
      true_left = λ m c w o sat v sees. h.true_left m c v (seen_within m c.well_formed w v sees) (kept_holds m L c w v sees W.left sat);
      false_right = λ m c w o sat all.
          let f = y m c w o (sat s er) in
          h.false_right m c f.0 (seen_within m c.well_formed w f.0 f.1) (satisfies_plus m f.0 cs (kept trees L W.right) f.2 (kept_holds m L c w f.0 f.1 W.right sat)) (all f.0 f.1);
      few = let p = h.few in omega (arith, p);
    }
    step_between false false el er on cs n j y h = absurd (false≢true on)

    -- Absurd
    pub absurd_between : (l r : Bool) → W.left s ≡ l → W.right s ≡ r → (l || r) ≡ true → IsTrue (is_absurd s) → Between 1 W (absurdity l)
    absurd_between true r el er on e = record {
      in_left = λ p o. absurd o;
      in_right = λ p o. absurd o;
      true_left = λ m c w o sat. absurd (absurd_fails m w s e (sat s el));
      false_right = λ m c w o sat x. x;
      few = omega arith;
    }
    absurd_between false true el er on e = record {
      in_left = λ p o. absurd o;
      in_right = λ p o. absurd o;
      true_left = λ m c w o sat. tt;
      false_right = λ m c w o sat x. absurd_fails m w s e (sat s er);
      few = omega arith;
    }
    absurd_between false false el er on e = absurd (false≢true on)

  either_on : (x y : Bool) → x ≡ false → (x || y) ≡ true → y ≡ true
  either_on true y e on = absurd (false≢true (sym e))
  either_on false y e on = on

  -- Close: where one of the two is on a side, neither is the root
  module _ (c : Formula) (X : SignedSet) (W : Sides) (h : Split a b X W) (one : IsPlaced a b W (T, c)) (other : IsPlaced a b W (F, c)) where
    t_side : (W.left (T, c) || W.right (T, c)) ≡ true
    t_side = on_side a b W (T, c) one (λ e. sign_clash (ap (λ (s : Signed). s.0) e))
      where
        sign_clash : T ≡ F → ⊥
        sign_clash e = cc

    f_side : (W.left (F, c) || W.right (F, c)) ≡ true
    f_side = on_side a b W (F, c) other (λ e. large (ap (λ (s : Signed). s.1) e) (W.left (T, c)) (W.right (T, c)) refl refl t_side)
      where
        large : c ≡ impl a b → (l r : Bool) → W.left (T, c) ≡ l → W.right (T, c) ≡ r → (l || r) ≡ true → ⊥
        large e true r el er on = too_large_left a b (T, c) e (h.of_left (T, c) el)
        large e false true el er on = too_large_right a b (T, c) e (h.of_right (T, c) er)
        large e false false el er on = false≢true on

    pub close_between : (l k : Bool) → W.left (T, c) ≡ l → W.left (F, c) ≡ k → Between 1 W (closing l k c)
    close_between true true el ek = record {
      in_left = λ p o. absurd o;
      in_right = λ p o. absurd o;
      true_left = λ m d w o sat. absurd (never_both m w (T, c) (sat (T, c) el) (sat (F, c) ek));
      false_right = λ m d w o sat x. x;
      few = omega arith;
    }
    close_between true false el ek =
        let er : W.right (F, c) ≡ true = either_on (W.left (F, c)) (W.right (F, c)) ek f_side in
        let left : Piece a (T, c) = h.of_left (T, c) el in
        let right : Piece b (F, c) = h.of_right (F, c) er in
        record {
          in_left = left.variables;
          in_right = right.variables;
          true_left = λ m d w o sat. sat (T, c) el;
          false_right = λ m d w o sat x. sat (F, c) er x;
          few = let k = left.small in omega (arith, k);
        }
    close_between false true el ek =
        let er : W.right (T, c) ≡ true = either_on (W.left (T, c)) (W.right (T, c)) el t_side in
        let left : Piece a (F, c) = h.of_left (F, c) ek in
        let right : Piece b (T, c) = h.of_right (T, c) er in
        record {
          in_left = left.variables;
          in_right = right.variables;
          true_left = λ m d w o sat. sat (F, c) ek;
          false_right = λ m d w o sat x. x (sat (T, c) er);
          few = let k = left.small in omega (arith, k);
        }
    close_between false false el ek =
        let tr : W.right (T, c) ≡ true = either_on (W.left (T, c)) (W.right (T, c)) el t_side in
        let fr : W.right (F, c) ≡ true = either_on (W.left (F, c)) (W.right (F, c)) ek f_side in
        record {
          in_left = λ p o. absurd o;
          in_right = λ p o. absurd o;
          true_left = λ m d w o sat. tt;
          false_right = λ m d w o sat x. never_both m w (T, c) (sat (T, c) tr) (sat (F, c) fr);
          few = omega arith;
        }
