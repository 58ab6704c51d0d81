-- Truth of formulas that differ in what stands for p, in a model of GL.
use Rattle.std.proofs.Common.{◌≡◌, ℕ, Bool, true, false, not, ◌&&◌, ◌||◌, List, if◌then◌else◌, inl, inr, refl, ap, sym, ◌∙◌}
use Rattle.std.specs.Bool.{beq}
use Rattle.std.specs.Str.{bytes_eq}
use Rattle.lw_formula.specs.Formula.{Formula, letter, falsum, verum, neg, conj, disj, impl, equi, nec, poss}
use Rattle.lw_formula.specs.FiniteModel.{FiniteModel, Sees}
use Rattle.lw_formula.specs.Class.{IsTransitive}
use Rattle.lw_formula.specs.Truth.{IsTrueAt, true_at}
use Rattle.lw_formula.specs.Variables.{replace}
use Rattle.lw_formula.proofs.TruthTest.{true_at-IsTrueAt}
use Rattle.lw_fix.specs.Outermost.{Modalised, IsOutermost, at_outermost}
use Rattle.lw_fix.proofs.OutermostFormulas.{letter_other}

-- two truth values that follow from each other are one
pub bool_same : (x y : Bool) → (x ≡ true → y ≡ true) → (y ≡ true → x ≡ true) → x ≡ y
bool_same true true f g = refl
bool_same true false f g = sym (f refl)
bool_same false true f g = g refl
bool_same false false f g = refl

pub equi_from : (m : FiniteModel) (w : ℕ) (a b : Formula) → IsTrueAt m w (equi a b) → true_at m w a ≡ true_at m w b
equi_from m w a b h =
    bool_same (true_at m w a) (true_at m w b)
    (λ t. (true_at-IsTrueAt m w b).1 (h.0 ((true_at-IsTrueAt m w a).0 t)))
    (λ t. (true_at-IsTrueAt m w a).1 (h.1 ((true_at-IsTrueAt m w b).0 t)))

pub equi_to : (m : FiniteModel) (w : ℕ) (a b : Formula) → true_at m w a ≡ true_at m w b → IsTrueAt m w (equi a b)
equi_to m w a b e = (
  λ h. (true_at-IsTrueAt m w b).0 (sym e ∙ (true_at-IsTrueAt m w a).1 h),
  λ h. (true_at-IsTrueAt m w a).0 (e ∙ (true_at-IsTrueAt m w b).1 h),
)

-- a box and a dia depend on the worlds seen alone
pub nec_alike : (m : FiniteModel) (w : ℕ) (a b : Formula) → ((v : ℕ) → Sees m w v → true_at m v a ≡ true_at m v b) → true_at m w (nec a) ≡ true_at m w (nec b)
nec_alike m w a b same =
    equi_from m w (nec a) (nec b) (
      λ all v s. (equi_to m v a b (same v s)).0 (all v s),
      λ all v s. (equi_to m v a b (same v s)).1 (all v s),
    )

pub poss_alike : (m : FiniteModel) (w : ℕ) (a b : Formula) → ((v : ℕ) → Sees m w v → true_at m v a ≡ true_at m v b) → true_at m w (poss a) ≡ true_at m w (poss b)
poss_alike m w a b same =
    equi_from m w (poss a) (poss b) (
      λ some. (some.0, some.1, (equi_to m some.0 a b (same some.0 some.1)).0 some.2),
      λ some. (some.0, some.1, (equi_to m some.0 a b (same some.0 some.1)).1 some.2),
    )

letter_alike : (m : FiniteModel) (w : ℕ) (q : List ℕ) (d e : Formula) (t : Bool) → true_at m w d ≡ true_at m w e → true_at m w (if t then d else letter q) ≡ true_at m w (if t then e else letter q)
letter_alike m w q d e true same = same
letter_alike m w q d e false same = refl

-- formulas that agree at a world and at all that it sees may be put for p
pub replace_alike : (m : FiniteModel) → IsTransitive m → (p : List ℕ) (d e a : Formula) (w : ℕ) → true_at m w d ≡ true_at m w e →
    ((v : ℕ) → Sees m w v → true_at m v d ≡ true_at m v e) → true_at m w (replace p d a) ≡ true_at m w (replace p e a)
replace_alike m up p d e (letter q) w here above = letter_alike m w q d e (bytes_eq p q) here
replace_alike m up p d e falsum w here above = refl
replace_alike m up p d e verum w here above = refl
replace_alike m up p d e (neg a) w here above = ap not (replace_alike m up p d e a w here above)
replace_alike m up p d e (conj a b) w here above = λ i. replace_alike m up p d e a w here above i && replace_alike m up p d e b w here above i
replace_alike m up p d e (disj a b) w here above = λ i. replace_alike m up p d e a w here above i || replace_alike m up p d e b w here above i
replace_alike m up p d e (impl a b) w here above = λ i. not (replace_alike m up p d e a w here above i) || replace_alike m up p d e b w here above i
replace_alike m up p d e (equi a b) w here above = λ i. beq (replace_alike m up p d e a w here above i) (replace_alike m up p d e b w here above i)
replace_alike m up p d e (nec a) w here above =
    nec_alike m w (replace p d a) (replace p e a)
    (λ v s. replace_alike m up p d e a v (above v s) (λ u t. above u (up w v u s t)))
replace_alike m up p d e (poss a) w here above =
    poss_alike m w (replace p d a) (replace p e a)
    (λ v s. replace_alike m up p d e a v (above v s) (λ u t. above u (up w v u s t)))

-- where p is modalised, they need agree at the worlds seen alone
pub modalised_alike : (m : FiniteModel) → IsTransitive m → (p : List ℕ) (d e a : Formula) (w : ℕ) → Modalised p a →
    ((v : ℕ) → Sees m w v → true_at m v d ≡ true_at m v e) → true_at m w (replace p d a) ≡ true_at m w (replace p e a)
modalised_alike m up p d e (letter q) w h above = ap (true_at m w) (letter_other p q d h ∙ sym (letter_other p q e h))
modalised_alike m up p d e falsum w h above = refl
modalised_alike m up p d e verum w h above = refl
modalised_alike m up p d e (neg a) w h above = ap not (modalised_alike m up p d e a w h above)
modalised_alike m up p d e (conj a b) w h above = λ i. modalised_alike m up p d e a w (λ l. h (inl l)) above i && modalised_alike m up p d e b w (λ r. h (inr r)) above i
modalised_alike m up p d e (disj a b) w h above = λ i. modalised_alike m up p d e a w (λ l. h (inl l)) above i || modalised_alike m up p d e b w (λ r. h (inr r)) above i
modalised_alike m up p d e (impl a b) w h above = λ i. not (modalised_alike m up p d e a w (λ l. h (inl l)) above i) || modalised_alike m up p d e b w (λ r. h (inr r)) above i
modalised_alike m up p d e (equi a b) w h above = λ i. beq (modalised_alike m up p d e a w (λ l. h (inl l)) above i) (modalised_alike m up p d e b w (λ r. h (inr r)) above i)
modalised_alike m up p d e (nec a) w h above =
    nec_alike m w (replace p d a) (replace p e a)
    (λ v s. replace_alike m up p d e a v (above v s) (λ u t. above u (up w v u s t)))
modalised_alike m up p d e (poss a) w h above =
    poss_alike m w (replace p d a) (replace p e a)
    (λ v s. replace_alike m up p d e a v (above v s) (λ u t. above u (up w v u s t)))

-- functions whose values at the outermost modal subformulas agree at a world give formulas that agree there
pub at_alike : (m : FiniteModel) (f g : Formula → Formula) (a : Formula) (w : ℕ) → ((x : Formula) → IsOutermost x a → true_at m w (f x) ≡ true_at m w (g x)) →
    true_at m w (at_outermost f a) ≡ true_at m w (at_outermost g a)
at_alike m f g (letter q) w same = refl
at_alike m f g falsum w same = refl
at_alike m f g verum w same = refl
at_alike m f g (neg a) w same = ap not (at_alike m f g a w same)
at_alike m f g (conj a b) w same = λ i. at_alike m f g a w (λ x h. same x (inl h)) i && at_alike m f g b w (λ x h. same x (inr h)) i
at_alike m f g (disj a b) w same = λ i. at_alike m f g a w (λ x h. same x (inl h)) i || at_alike m f g b w (λ x h. same x (inr h)) i
at_alike m f g (impl a b) w same = λ i. not (at_alike m f g a w (λ x h. same x (inl h)) i) || at_alike m f g b w (λ x h. same x (inr h)) i
at_alike m f g (equi a b) w same = λ i. beq (at_alike m f g a w (λ x h. same x (inl h)) i) (at_alike m f g b w (λ x h. same x (inr h)) i)
at_alike m f g (nec a) w same = same (nec a) refl
at_alike m f g (poss a) w same = same (poss a) refl
