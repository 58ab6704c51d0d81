-- The construction gives the fixed point, and there is one alone.
use Rattle.std.proofs.Common.{◌≡◌, ℕ, ◌<◌, ◌≤◌, suc, zero, Bool, true, false, List, length, ◌⊎◌, if◌then◌else◌, inl, inr, ⊎_elim, refl, ap, sym, subst, ◌∙◌, arith}
use Rattle.std.specs.Bool.{Decides}
use Rattle.std.proofs.lemmas.Bool.{false≢true}
use Rattle.lw_formula.specs.declared.logic.Logic.TheVariants.{GL}
use Rattle.lw_formula.specs.Formula.{Formula, letter, equi, nec, poss, same_formula}
use Rattle.lw_formula.specs.FiniteModel.{FiniteModel, Sees}
use Rattle.lw_formula.specs.Class.{Class, IsTransitive, IsIrreflexive}
use Rattle.lw_formula.specs.Truth.{IsTrueAt, true_at}
use Rattle.lw_formula.specs.Validity.{Valid}
use Rattle.lw_formula.specs.Variables.{Occurs, replace}
use Rattle.lw_formula.proofs.RevaluedModels.{seen_below}
use Rattle.lw_formula.proofs.SameFormulas.{same_formula-Decides}
use Rattle.lw_formula.proofs.TruthTest.{true_at-IsTrueAt}
use Rattle.lw_fix.specs.Outermost.{Modalised, IsOutermost, has_letter, outermost}
use Rattle.lw_fix.specs.FixedPoint.{IsFixedPoint, default_of, without, fix_within, fix}
use Rattle.lw_fix.proofs.WorldInduction.{climb}
use Rattle.lw_fix.proofs.OutermostFormulas.{has_letter-Decides, outermost_is, IsOutermost-Modalised, replace_at, replace_outer, replace_none, replace_self}
use Rattle.lw_fix.proofs.AlikeFormulas.{bool_same, equi_from, equi_to, modalised_alike, at_alike}
use Rattle.lw_fix.proofs.ConstructedFormulas.{replace_default, Modalised-with_defaults, fewer_without, none_left, Occurs-none, fix_within-free, fix_within-variables}

-- of two truth values that differ one is z
either_is : (x y z : Bool) → (x ≡ z → x ≡ y) → (y ≡ z → x ≡ y) → x ≡ y
either_is true true z f g = refl
either_is false false z f g = refl
either_is true false true f g = f refl
either_is true false false f g = g refl
either_is false true true f g = g refl
either_is false true false f g = f refl

-- a modal formula that has its default at a world keeps it at the worlds seen
default_lasts : (m : FiniteModel) → IsTransitive m → (p : List ℕ) (e a x : Formula) (w v : ℕ) → IsOutermost x a → Sees m w v →
    true_at m w (replace p e x) ≡ true_at m w (default_of x) → true_at m v (replace p e x) ≡ true_at m v (default_of x)
default_lasts m up p e a x w v o s =
    outermost_is (λ y. true_at m w (replace p e y) ≡ true_at m w (default_of y) → true_at m v (replace p e y) ≡ true_at m v (default_of y)) a x o
    (λ c h. (true_at-IsTrueAt m v (nec (replace p e c))).1 (λ u t. (true_at-IsTrueAt m w (nec (replace p e c))).0 h u (up w v u s t)))
    (λ c h.
    bool_same (true_at m v (poss (replace p e c))) false
    (λ t.
    let some = (true_at-IsTrueAt m v (poss (replace p e c))).0 t in
    sym h ∙ (true_at-IsTrueAt m w (poss (replace p e c))).1 (some.0, up w v some.0 s some.1, some.2))
    (λ t. absurd (false≢true t)))

-- where x has its default, the formula without x agrees with the formula
without_alike : (m : FiniteModel) (p : List ℕ) (e a x : Formula) (v : ℕ) → Modalised p a → true_at m v (replace p e x) ≡ true_at m v (default_of x) →
    true_at m v (replace p e (without x a)) ≡ true_at m v (replace p e a)
without_alike m p e a x v h lost =
    ap (true_at m v) (replace_at p e (λ y. if same_formula y x then default_of y else y) a h)
    ∙ at_alike m (λ y. replace p e (if same_formula y x then default_of y else y)) (replace p e) a v
    (λ y o. by_test y o (same_formula y x) (same_formula-Decides y x))
    ∙ ap (true_at m v) (sym (replace_outer p e a h))
  where
    by_test : (y : Formula) → IsOutermost y a → (t : Bool) → Decides t (y ≡ x) → true_at m v (replace p e (if t then default_of y else y)) ≡ true_at m v (replace p e y)
    by_test y o true d = ap (true_at m v) (replace_default p e a y o) ∙ subst (λ z. true_at m v (default_of z) ≡ true_at m v (replace p e z)) (sym (d.0 refl)) (sym lost)
    by_test y o false d = refl

-- d is the fixed point at the worlds that w sees, e that of the formula without x, and x has its default there
alike_above : (m : FiniteModel) → IsTransitive m → IsIrreflexive m → (p : List ℕ) (a d e x : Formula) (w : ℕ) → Modalised p a → IsOutermost x a →
    ((v : ℕ) → Sees m w v → true_at m v d ≡ true_at m v (replace p d a)) →
    ((v : ℕ) → true_at m v e ≡ true_at m v (replace p e (without x a))) →
    ((v : ℕ) → Sees m w v → (true_at m v (replace p e x) ≡ true_at m v (default_of x)) ⊎ (true_at m v (replace p d x) ≡ true_at m v (default_of x))) →
    (v : ℕ) → Sees m w v → true_at m v e ≡ true_at m v d
alike_above m up apart p a d e x w h o whole part lost =
    climb m up apart (λ v. Sees m w v → true_at m v e ≡ true_at m v d)
    (λ v above s.
    let further : (u : ℕ) → Sees m v u → true_at m u e ≡ true_at m u d = λ u t. above u t (up w v u s t) in
    let pieces : true_at m v (replace p e x) ≡ true_at m v (replace p d x) = modalised_alike m up p e d x v (IsOutermost-Modalised p a x o) further in
    part v
    ∙ without_alike m p e a x v h (⊎_elim (λ l. l) (λ r. pieces ∙ r) (lost v s))
    ∙ modalised_alike m up p e d a v h further
    ∙ sym (whole v s))

-- so x agrees with e and with d for p
alike_here : (m : FiniteModel) → IsTransitive m → IsIrreflexive m → (p : List ℕ) (a d e x : Formula) (w : ℕ) → Modalised p a → IsOutermost x a →
    ((v : ℕ) → Sees m w v → true_at m v d ≡ true_at m v (replace p d a)) →
    ((v : ℕ) → true_at m v e ≡ true_at m v (replace p e (without x a))) →
    true_at m w (replace p e x) ≡ true_at m w (replace p d x)
alike_here m up apart p a d e x w h o whole part =
    let from : ((v : ℕ) → Sees m w v → true_at m v e ≡ true_at m v d) → true_at m w (replace p e x) ≡ true_at m w (replace p d x) =
    modalised_alike m up p e d x w (IsOutermost-Modalised p a x o) in
    either_is (true_at m w (replace p e x)) (true_at m w (replace p d x)) (true_at m w (default_of x))
    (λ same. from (alike_above m up apart p a d e x w h o whole part (λ v s. inl (default_lasts m up p e a x w v o s same))))
    (λ same. from (alike_above m up apart p a d e x w h o whole part (λ v s. inr (default_lasts m up p d a x w v o s same))))

-- the construction says what the formula says of it
fix_within-fixed : (m : FiniteModel) → IsTransitive m → IsIrreflexive m → (n : ℕ) (p : List ℕ) (a : Formula) → length (outermost p a) ≤ n → Modalised p a →
    (w : ℕ) → true_at m w (fix_within n p a) ≡ true_at m w (replace p (fix_within n p a) a)
fix_within-fixed m up apart zero p a l h w = ap (true_at m w) (sym (replace_none p a a (Occurs-none p a h (λ x. none_left p a x l))))
fix_within-fixed m up apart (suc n) p a l h w =
    climb m up apart (λ v. true_at m v (fix_within (suc n) p a) ≡ true_at m v (replace p (fix_within (suc n) p a) a))
    (λ v above.
    at_alike m (λ x. if has_letter p x then replace p (fix_within n p (without x a)) x else x) (replace p (fix_within (suc n) p a)) a v
    (λ x o. by_test v above x o (has_letter p x) (has_letter-Decides p x)
    (λ occurs. fix_within-fixed m up apart n p (without x a) (fewer_without p a x n o occurs (omega arith)) (Modalised-with_defaults p (λ y. same_formula y x) a h)))
    ∙ ap (true_at m v) (sym (replace_outer p (fix_within (suc n) p a) a h)))
    w
  where
    by_test : (v : ℕ) → ((u : ℕ) → Sees m v u → true_at m u (fix_within (suc n) p a) ≡ true_at m u (replace p (fix_within (suc n) p a) a)) →
        (x : Formula) → IsOutermost x a → (t : Bool) → Decides t (Occurs p x) →
        (Occurs p x → (u : ℕ) → true_at m u (fix_within n p (without x a)) ≡ true_at m u (replace p (fix_within n p (without x a)) (without x a))) →
        true_at m v (if t then replace p (fix_within n p (without x a)) x else x) ≡ true_at m v (replace p (fix_within (suc n) p a) x)
    by_test v above x o true d part = alike_here m up apart p a (fix_within (suc n) p a) (fix_within n p (without x a)) x v h o above (part (d.0 refl))
    by_test v above x o false d part = ap (true_at m v) (sym (replace_none p (fix_within (suc n) p a) x (λ occurs. false≢true (d.1 occurs))))

-- what says of itself what the formula says, at a world and at all that it sees, agrees with it there
unique_at : (m : FiniteModel) → IsTransitive m → IsIrreflexive m → (p : List ℕ) (a d e : Formula) → Modalised p a →
    ((v : ℕ) → true_at m v d ≡ true_at m v (replace p d a)) →
    (w : ℕ) → ((v : ℕ) → (v ≡ w) ⊎ Sees m w v → true_at m v e ≡ true_at m v (replace p e a)) → true_at m w e ≡ true_at m w d
unique_at m up apart p a d e h fixed =
    climb m up apart (λ w. ((v : ℕ) → (v ≡ w) ⊎ Sees m w v → true_at m v e ≡ true_at m v (replace p e a)) → true_at m w e ≡ true_at m w d)
    (λ w above own.
    own w (inl refl)
    ∙ modalised_alike m up p e d a w h (λ u s. above u s (λ v q. own v (inr (⊎_elim (λ same. subst (Sees m w) (sym same) s) (λ t. up w u v s t) q))))
    ∙ sym (fixed w))

fix-fixed : (m : FiniteModel) → Class GL m → (p : List ℕ) (a : Formula) → Modalised p a → (w : ℕ) → true_at m w (fix p a) ≡ true_at m w (replace p (fix p a) a)
fix-fixed m class p a h = fix_within-fixed m class.frame.0 class.frame.1 (length (outermost p a)) p a (omega arith) h

pub fix-IsFixedPoint : (p : List ℕ) (a : Formula) → Modalised p a → IsFixedPoint p a (fix p a)
fix-IsFixedPoint p a h = record {
  free = fix_within-free (length (outermost p a)) p a (omega arith) h;
  variables = fix_within-variables (length (outermost p a)) p a;
  fixed = λ m class w l. equi_to m w (fix p a) (replace p (fix p a) a) (fix-fixed m class p a h w);
  forced = λ m class w l both.
      equi_to m w (letter p) (fix p a)
      (unique_at m class.frame.0 class.frame.1 p a (fix p a) (letter p) h (fix-fixed m class p a h) w
      (λ v q.
      equi_from m v (letter p) a (⊎_elim (λ same. subst (λ u. IsTrueAt m u (equi (letter p) a)) (sym same) both.0) (both.1 v) q)
      ∙ ap (true_at m v) (sym (replace_self p a))));
}

pub fix-unique : (p : List ℕ) (a e : Formula) → Modalised p a → Valid GL (equi e (replace p e a)) → Valid GL (equi e (fix p a))
fix-unique p a e h valid m class w l =
    equi_to m w e (fix p a)
    (unique_at m class.frame.0 class.frame.1 p a (fix p a) e h (fix-fixed m class p a h) w
    (λ v q. equi_from m v e (replace p e a) (valid m class v (⊎_elim (λ same. subst (λ u. u < m.worlds) (sym same) l) (seen_below m class.well_formed w v) q))))
