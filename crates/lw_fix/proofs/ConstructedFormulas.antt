-- The construction of the fixed point: what it takes away, its variables, and that its bound says nothing.
use Rattle.std.proofs.Common.{◌≡◌, ℕ, ◌+◌, ◌≤◌, suc, zero, Bool, true, false, ◌||◌, List, [], ◌∷◌, length, ◌⊎◌, ◌↔◌, if◌then◌else◌, inl, inr, ⊎_elim, refl, ap, sym, subst, ◌∙◌, arith}
use Rattle.std.specs.Bool.{Decides}
use Rattle.std.specs.List.{Contains, list_any}
use Rattle.std.proofs.lemmas.Bool.{false≢true}
use Rattle.lw_formula.specs.Formula.{Formula, same_formula}
use Rattle.lw_formula.specs.Variables.{Occurs, replace}
use Rattle.lw_formula.proofs.ListMembers.{Contains-cons_cases, AreDistinct-cons}
use Rattle.lw_formula.proofs.SameFormulas.{same_formula-Decides}
use Rattle.lw_formula.proofs.SubformulaLists.{is_member-Decides}
use Rattle.lw_pool.proofs.EqualLengths.{length-le_from_members}
use Rattle.lw_fix.specs.Outermost.{StandsBare, Modalised, IsOutermost, has_letter, outermost, at_outermost}
use Rattle.lw_fix.specs.FixedPoint.{default_of, with_defaults, without, solved, fix_within, fix}
use Rattle.lw_fix.specs.Laws.{without_each}
use Rattle.lw_fix.proofs.OutermostFormulas.{has_letter-Decides, outermost-Contains, outermost-AreDistinct, outermost_is, IsOutermost-own, StandsBare-Occurs, IsOutermost-Occurs, at_equal, at_twice, at_self, at_occurs, at_bare, at_pieces, replace-Occurs, replace_free}
use Rattle.lw_fix.proofs.AlikeFormulas.{bool_same}

-- a default is a constant
pub default-free : (q : List ℕ) (a m : Formula) → IsOutermost m a → ¬ Occurs q (default_of m)
default-free q a m o = outermost_is (λ x. ¬ Occurs q (default_of x)) a m o (λ c h. h) (λ c h. h)

default-pieces : (k a m : Formula) → IsOutermost m a → ¬ IsOutermost k (default_of m)
default-pieces k a m o = outermost_is (λ x. ¬ IsOutermost k (default_of x)) a m o (λ c h. h) (λ c h. h)

pub at_default : (f : Formula → Formula) (a m : Formula) → IsOutermost m a → at_outermost f (default_of m) ≡ default_of m
at_default f a m o = outermost_is (λ x. at_outermost f (default_of x) ≡ default_of x) a m o (λ c. refl) (λ c. refl)

pub replace_default : (p : List ℕ) (e a m : Formula) → IsOutermost m a → replace p e (default_of m) ≡ default_of m
replace_default p e a m o = outermost_is (λ x. replace p e (default_of x) ≡ default_of x) a m o (λ c. refl) (λ c. refl)

-- what holds of a formula picked by a test
pub picked : (P : Formula → Type 0) (t : Bool) (x y : Formula) → P (if t then x else y) → ((t ≡ true) × P x) ⊎ ((t ≡ false) × P y)
picked P true x y h = inl (refl, h)
picked P false x y h = inr (refl, h)

pub Modalised-with_defaults : (p : List ℕ) (test : Formula → Bool) (a : Formula) → Modalised p a → Modalised p (with_defaults test a)
Modalised-with_defaults p test a h s =
    ⊎_elim h
    (λ t.
    ⊎_elim
    (λ l. default-free p a t.0 t.1 (StandsBare-Occurs p (default_of t.0) l.1))
    (λ r. outermost_is (λ x. ¬ StandsBare p x) a t.0 t.1 (λ c b. b) (λ c b. b) r.1)
    (picked (StandsBare p) (test t.0) (default_of t.0) t.0 t.2))
    (at_bare p (λ x. if test x then default_of x else x) a s)

Occurs-with_defaults : (q : List ℕ) (test : Formula → Bool) (a : Formula) → Occurs q (with_defaults test a) → Occurs q a
Occurs-with_defaults q test a h =
    ⊎_elim (StandsBare-Occurs q a)
    (λ t.
    ⊎_elim
    (λ l. absurd (default-free q a t.0 t.1 l.1))
    (λ r. IsOutermost-Occurs q a t.0 t.1 r.1)
    (picked (Occurs q) (test t.0) (default_of t.0) t.0 t.2))
    (at_occurs q (λ x. if test x then default_of x else x) a h)

-- what is outermost without m is outermost, and isn't m
without-pieces : (a m k : Formula) → IsOutermost k (without m a) → IsOutermost k a × (¬ (k ≡ m))
without-pieces a m k h =
    let t = at_pieces (λ x. if same_formula x m then default_of x else x) a k h in
    ⊎_elim
    (λ l. absurd (default-pieces k a t.0 t.1 l.1))
    (λ r.
    let same : k ≡ t.0 = IsOutermost-own a t.0 k t.1 r.1 in
    (subst (λ x. IsOutermost x a) (sym same) t.1, λ e. false≢true (sym r.0 ∙ (same_formula-Decides t.0 m).1 (sym same ∙ e))))
    (picked (IsOutermost k) (same_formula t.0 m) (default_of t.0) t.0 t.2)

-- an outermost modal subformula with p less
pub fewer_without : (p : List ℕ) (a m : Formula) (n : ℕ) → IsOutermost m a → Occurs p m → length (outermost p a) ≤ n + 1 → length (outermost p (without m a)) ≤ n
fewer_without p a m n o h l =
    let new : ¬ Contains (outermost p (without m a)) m =
    λ c. (without-pieces a m m ((outermost-Contains p (without m a) m).0 c).0).1 refl in
    let all : (k : Formula) → Contains (m ∷ outermost p (without m a)) k → Contains (outermost p a) k =
    λ k c. ⊎_elim
    (λ e. subst (Contains (outermost p a)) e ((outermost-Contains p a m).1 (o, h)))
    (λ rest. let r = (outermost-Contains p (without m a) k).0 rest in (outermost-Contains p a k).1 ((without-pieces a m k r.0).0, r.1))
    (Contains-cons_cases m (outermost p (without m a)) k c) in
    let less : length (m ∷ outermost p (without m a)) ≤ length (outermost p a) =
    length-le_from_members (m ∷ outermost p (without m a)) (outermost p a)
    (AreDistinct-cons m (outermost p (without m a)) new (outermost-AreDistinct p (without m a))) all in
    omega arith

-- where none are counted, p is in none
pub none_left : (p : List ℕ) (a m : Formula) → length (outermost p a) ≤ 0 → IsOutermost m a → ¬ Occurs p m
none_left p a m l o h = let c = (outermost-Contains p a m).1 (o, h) in let bad : ⊥ = omega (arith, c.1) in bad

pub Occurs-none : (p : List ℕ) (a : Formula) → Modalised p a → ((m : Formula) → IsOutermost m a → ¬ Occurs p m) → ¬ Occurs p a
Occurs-none p a h none o = ⊎_elim h (λ t. none t.0 t.1 t.2) (at_occurs p (λ x. x) a (subst (Occurs p) (sym (at_self a)) o))

-- the fixed point has no p
pub fix_within-free : (n : ℕ) (p : List ℕ) (a : Formula) → length (outermost p a) ≤ n → Modalised p a → ¬ Occurs p (fix_within n p a)
fix_within-free zero p a l h o = Occurs-none p a h (λ m. none_left p a m l) o
fix_within-free (suc n) p a l h o =
    ⊎_elim h
    (λ t.
    let d : Decides (has_letter p t.0) (Occurs p t.0) = has_letter-Decides p t.0 in
    ⊎_elim
    (λ y.
    replace_free p (fix_within n p (without t.0 a)) t.0
    (fix_within-free n p (without t.0 a) (fewer_without p a t.0 n t.1 (d.0 y.0) (omega arith)) (Modalised-with_defaults p (λ x. same_formula x t.0) a h)) y.1)
    (λ no. false≢true (sym no.0 ∙ d.1 no.1))
    (picked (Occurs p) (has_letter p t.0) (replace p (fix_within n p (without t.0 a)) t.0) t.0 t.2))
    (at_occurs p (λ m. if has_letter p m then replace p (fix_within n p (without m a)) m else m) a o)

-- and only variables of the formula
pub fix_within-variables : (n : ℕ) (p : List ℕ) (a : Formula) (q : List ℕ) → Occurs q (fix_within n p a) → Occurs q a
fix_within-variables zero p a q o = o
fix_within-variables (suc n) p a q o =
    ⊎_elim (StandsBare-Occurs q a)
    (λ t.
    ⊎_elim
    (λ y.
    ⊎_elim
    (IsOutermost-Occurs q a t.0 t.1)
    (λ e. Occurs-with_defaults q (λ x. same_formula x t.0) a (fix_within-variables n p (without t.0 a) q e))
    (replace-Occurs p q (fix_within n p (without t.0 a)) t.0 y.1))
    (λ no. IsOutermost-Occurs q a t.0 t.1 no.1)
    (picked (Occurs q) (has_letter p t.0) (replace p (fix_within n p (without t.0 a)) t.0) t.0 t.2))
    (at_occurs q (λ m. if has_letter p m then replace p (fix_within n p (without m a)) m else m) a o)

-- points that agree where p is in the outermost modal subformula give one formula
pub solved-same : (p : List ℕ) (f g : Formula → Formula) (a : Formula) → ((m : Formula) → IsOutermost m a → Occurs p m → f m ≡ g m) → solved p f a ≡ solved p g a
solved-same p f g a same =
    at_equal (λ m. if has_letter p m then replace p (f m) m else m) (λ m. if has_letter p m then replace p (g m) m else m) a
    (λ m o. by_test m (has_letter p m) (λ t. same m o ((has_letter-Decides p m).0 t)))
  where
    by_test : (m : Formula) (t : Bool) → (t ≡ true → f m ≡ g m) → (if t then replace p (f m) m else m) ≡ (if t then replace p (g m) m else m)
    by_test m true s = ap (λ x. replace p x m) (s refl)
    by_test m false s = refl

-- where p is in none, nothing changes
solved-none : (p : List ℕ) (f : Formula → Formula) (a : Formula) → ((m : Formula) → IsOutermost m a → ¬ Occurs p m) → solved p f a ≡ a
solved-none p f a none =
    at_equal (λ m. if has_letter p m then replace p (f m) m else m) (λ x. x) a
    (λ m o. by_test m (has_letter p m) (λ t. none m o ((has_letter-Decides p m).0 t)))
    ∙ at_self a
  where
    by_test : (m : Formula) (t : Bool) → (t ≡ true → ⊥) → (if t then replace p (f m) m else m) ≡ m
    by_test m true s = absurd (s refl)
    by_test m false s = refl

-- every bound that is great enough gives the same
pub fix_within-enough : (n k : ℕ) (p : List ℕ) (a : Formula) → length (outermost p a) ≤ n → length (outermost p a) ≤ k → fix_within n p a ≡ fix_within k p a
fix_within-enough zero zero p a l r = refl
fix_within-enough zero (suc k) p a l r = sym (solved-none p (λ m. fix_within k p (without m a)) a (λ m. none_left p a m l))
fix_within-enough (suc n) zero p a l r = solved-none p (λ m. fix_within n p (without m a)) a (λ m. none_left p a m r)
fix_within-enough (suc n) (suc k) p a l r =
    solved-same p (λ m. fix_within n p (without m a)) (λ m. fix_within k p (without m a)) a
    (λ m o h. fix_within-enough n k p (without m a) (fewer_without p a m n o h (omega arith)) (fewer_without p a m k o h (omega arith)))

pub fix-unfolded : (p : List ℕ) (a : Formula) → fix p a ≡ solved p (λ m. fix p (without m a)) a
fix-unfolded p a =
    let n = length (outermost p a) in
    fix_within-enough n (suc n) p a (omega arith) (omega arith)
    ∙ solved-same p (λ m. fix_within n p (without m a)) (λ m. fix p (without m a)) a
    (λ m o h.
    fix_within-enough n (length (outermost p (without m a))) p (without m a)
    (fewer_without p a m n o h (omega arith)) (omega arith))

-- one set of defaults after another is the union of both
pub with_defaults-twice : (s t : Formula → Bool) (a : Formula) → with_defaults t (with_defaults s a) ≡ with_defaults (λ x. s x || t x) a
with_defaults-twice s t a =
    at_twice (λ x. if t x then default_of x else x) (λ x. if s x then default_of x else x) a
    ∙ at_equal (λ x. at_outermost (λ y. if t y then default_of y else y) (if s x then default_of x else x)) (λ x. if s x || t x then default_of x else x) a
    (λ x o. by_tests x (s x) (t x) (at_default (λ y. if t y then default_of y else y) a x o)
    (outermost_is (λ z. at_outermost (λ y. if t y then default_of y else y) z ≡ (if t z then default_of z else z)) a x o (λ c. refl) (λ c. refl)))
  where
    by_tests : (x : Formula) (u v : Bool) → at_outermost (λ y. if t y then default_of y else y) (default_of x) ≡ default_of x →
        at_outermost (λ y. if t y then default_of y else y) x ≡ (if v then default_of x else x) →
        at_outermost (λ y. if t y then default_of y else y) (if u then default_of x else x) ≡ (if u || v then default_of x else x)
    by_tests x true v d e = d
    by_tests x false v d e = e

pub with_defaults-same : (s t : Formula → Bool) (a : Formula) → ((x : Formula) → s x ≡ t x) → with_defaults s a ≡ with_defaults t a
with_defaults-same s t a same =
    at_equal (λ x. if s x then default_of x else x) (λ x. if t x then default_of x else x) a (λ x o. ap (λ u. if u then default_of x else x) (same x))

without_each-set : (ms : List Formula) (a : Formula) → without_each ms a ≡ with_defaults (λ x. list_any (same_formula x) ms) a
without_each-set [] a = sym (at_self a)
without_each-set (m ∷ ms) a = without_each-set ms (without m a) ∙ with_defaults-twice (λ x. same_formula x m) (λ x. list_any (same_formula x) ms) a

pub without_each-same : (a : Formula) (ms ks : List Formula) → ((m : Formula) → Contains ms m ↔ Contains ks m) → without_each ms a ≡ without_each ks a
without_each-same a ms ks same =
    without_each-set ms a
    ∙ with_defaults-same (λ x. list_any (same_formula x) ms) (λ x. list_any (same_formula x) ks) a
    (λ x.
    bool_same (list_any (same_formula x) ms) (list_any (same_formula x) ks)
    (λ t. (is_member-Decides ks x).1 ((same x).0 ((is_member-Decides ms x).0 t)))
    (λ t. (is_member-Decides ms x).1 ((same x).1 ((is_member-Decides ks x).0 t))))
    ∙ sym (without_each-set ks a)
