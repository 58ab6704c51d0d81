-- The outermost modal subformulas of a formula, and functions at them.
use Rattle.std.proofs.Common.{◌≡◌, ℕ, Bool, true, false, List, [], ◌∷◌, ◌⊎◌, ◌↔◌, if◌then◌else◌, inl, inr, ⊎_elim, refl, ap, sym, subst, ◌∙◌}
use Rattle.std.specs.Bool.{Decides}
use Rattle.std.specs.List.{Contains}
use Rattle.std.specs.Str.{bytes_eq}
use Rattle.std.proofs.lemmas.Bool.{false≢true}
use Rattle.std.proofs.lemmas.Bool.Decides.{Decides-or}
use Rattle.std.proofs.lemmas.Slice.Eq.{bytes_eq-Decides}
use Rattle.lw_formula.specs.Formula.{Formula, letter, falsum, verum, neg, conj, disj, impl, equi, nec, poss, union}
use Rattle.lw_formula.specs.FiniteModel.{AreDistinct}
use Rattle.lw_formula.specs.Variables.{Occurs, replace}
use Rattle.lw_formula.proofs.ListMembers.{Contains-nil, Contains-head, Contains-cons_cases, AreDistinct-nil, AreDistinct-cons}
use Rattle.lw_formula.proofs.SubformulaLists.{union-Contains, union-AreDistinct}
use Rattle.lw_fix.specs.Outermost.{StandsBare, Modalised, IsOutermost, has_letter, outermost, at_outermost}

pub has_letter-Decides : (p : List ℕ) (a : Formula) → Decides (has_letter p a) (Occurs p a)
has_letter-Decides p (letter q) = bytes_eq-Decides p q
has_letter-Decides p falsum = (λ e. false≢true e, λ h. absurd h)
has_letter-Decides p verum = (λ e. false≢true e, λ h. absurd h)
has_letter-Decides p (neg a) = has_letter-Decides p a
has_letter-Decides p (conj a b) = Decides-or (has_letter p a) (has_letter p b) (has_letter-Decides p a) (has_letter-Decides p b)
has_letter-Decides p (disj a b) = Decides-or (has_letter p a) (has_letter p b) (has_letter-Decides p a) (has_letter-Decides p b)
has_letter-Decides p (impl a b) = Decides-or (has_letter p a) (has_letter p b) (has_letter-Decides p a) (has_letter-Decides p b)
has_letter-Decides p (equi a b) = Decides-or (has_letter p a) (has_letter p b) (has_letter-Decides p a) (has_letter-Decides p b)
has_letter-Decides p (nec a) = has_letter-Decides p a
has_letter-Decides p (poss a) = has_letter-Decides p a

-- the formula alone is the list's member where it has the letter
if_with-Contains : (p : List ℕ) (x m : Formula) (t : Bool) → Decides t (Occurs p x) → Contains (if t then x ∷ [] else []) m ↔ ((m ≡ x) × Occurs p m)
if_with-Contains p x m true d = (
  λ h. ⊎_elim (λ e. (sym e, subst (Occurs p) e (d.0 refl))) (λ none. absurd (Contains-nil m none)) (Contains-cons_cases x [] m h),
  λ h. subst (Contains (x ∷ [])) (sym h.0) (Contains-head x []),
)
if_with-Contains p x m false d = (λ h. absurd (Contains-nil m h), λ h. absurd (false≢true (d.1 (subst (Occurs p) h.0 h.1))))

none-Contains : (P : Type 0) (m : Formula) → Contains [] m ↔ (⊥ × P)
none-Contains P m = (λ h. absurd (Contains-nil m h), λ h. absurd h.0)

either-Contains : (P Q R : Type 0) (xs ys : List Formula) (m : Formula) → Contains xs m ↔ (P × R) → Contains ys m ↔ (Q × R) → Contains (union xs ys) m ↔ ((P ⊎ Q) × R)
either-Contains P Q R xs ys m x y = (
  λ h. ⊎_elim (λ l. (inl (x.0 l).0, (x.0 l).1)) (λ r. (inr (y.0 r).0, (y.0 r).1)) ((union-Contains xs ys m).0 h),
  λ h. (union-Contains xs ys m).1 (⊎_elim (λ l. inl (x.1 (l, h.1))) (λ r. inr (y.1 (r, h.1))) h.0),
)

-- the list has the outermost modal subformulas with the letter
pub outermost-Contains : (p : List ℕ) (a m : Formula) → Contains (outermost p a) m ↔ (IsOutermost m a × Occurs p m)
outermost-Contains p (letter q) m = none-Contains (Occurs p m) m
outermost-Contains p falsum m = none-Contains (Occurs p m) m
outermost-Contains p verum m = none-Contains (Occurs p m) m
outermost-Contains p (neg a) m = outermost-Contains p a m
outermost-Contains p (conj a b) m = either-Contains (IsOutermost m a) (IsOutermost m b) (Occurs p m) (outermost p a) (outermost p b) m (outermost-Contains p a m) (outermost-Contains p b m)
outermost-Contains p (disj a b) m = either-Contains (IsOutermost m a) (IsOutermost m b) (Occurs p m) (outermost p a) (outermost p b) m (outermost-Contains p a m) (outermost-Contains p b m)
outermost-Contains p (impl a b) m = either-Contains (IsOutermost m a) (IsOutermost m b) (Occurs p m) (outermost p a) (outermost p b) m (outermost-Contains p a m) (outermost-Contains p b m)
outermost-Contains p (equi a b) m = either-Contains (IsOutermost m a) (IsOutermost m b) (Occurs p m) (outermost p a) (outermost p b) m (outermost-Contains p a m) (outermost-Contains p b m)
outermost-Contains p (nec a) m = if_with-Contains p (nec a) m (has_letter p a) (has_letter-Decides p (nec a))
outermost-Contains p (poss a) m = if_with-Contains p (poss a) m (has_letter p a) (has_letter-Decides p (poss a))

if_with-AreDistinct : (x : Formula) (t : Bool) → AreDistinct (if t then x ∷ [] else [])
if_with-AreDistinct x true = AreDistinct-cons x [] (Contains-nil x) AreDistinct-nil
if_with-AreDistinct x false = AreDistinct-nil

pub outermost-AreDistinct : (p : List ℕ) (a : Formula) → AreDistinct (outermost p a)
outermost-AreDistinct p (letter q) = AreDistinct-nil
outermost-AreDistinct p falsum = AreDistinct-nil
outermost-AreDistinct p verum = AreDistinct-nil
outermost-AreDistinct p (neg a) = outermost-AreDistinct p a
outermost-AreDistinct p (conj a b) = union-AreDistinct (outermost p a) (outermost p b) (outermost-AreDistinct p a) (outermost-AreDistinct p b)
outermost-AreDistinct p (disj a b) = union-AreDistinct (outermost p a) (outermost p b) (outermost-AreDistinct p a) (outermost-AreDistinct p b)
outermost-AreDistinct p (impl a b) = union-AreDistinct (outermost p a) (outermost p b) (outermost-AreDistinct p a) (outermost-AreDistinct p b)
outermost-AreDistinct p (equi a b) = union-AreDistinct (outermost p a) (outermost p b) (outermost-AreDistinct p a) (outermost-AreDistinct p b)
outermost-AreDistinct p (nec a) = if_with-AreDistinct (nec a) (has_letter p a)
outermost-AreDistinct p (poss a) = if_with-AreDistinct (poss a) (has_letter p a)

-- an outermost modal subformula is a box or a dia
pub outermost_is : (P : Formula → Type 0) (a m : Formula) → IsOutermost m a → ((c : Formula) → P (nec c)) → ((c : Formula) → P (poss c)) → P m
outermost_is P (letter q) m h box dia = absurd h
outermost_is P falsum m h box dia = absurd h
outermost_is P verum m h box dia = absurd h
outermost_is P (neg a) m h box dia = outermost_is P a m h box dia
outermost_is P (conj a b) m h box dia = ⊎_elim (λ l. outermost_is P a m l box dia) (λ r. outermost_is P b m r box dia) h
outermost_is P (disj a b) m h box dia = ⊎_elim (λ l. outermost_is P a m l box dia) (λ r. outermost_is P b m r box dia) h
outermost_is P (impl a b) m h box dia = ⊎_elim (λ l. outermost_is P a m l box dia) (λ r. outermost_is P b m r box dia) h
outermost_is P (equi a b) m h box dia = ⊎_elim (λ l. outermost_is P a m l box dia) (λ r. outermost_is P b m r box dia) h
outermost_is P (nec a) m h box dia = subst P (sym h) (box a)
outermost_is P (poss a) m h box dia = subst P (sym h) (dia a)

-- so its own outermost modal subformula is itself
pub IsOutermost-own : (a m k : Formula) → IsOutermost m a → IsOutermost k m → k ≡ m
IsOutermost-own a m k h = outermost_is (λ x. IsOutermost k x → k ≡ x) a m h (λ c e. e) (λ c e. e)

pub IsOutermost-Modalised : (p : List ℕ) (a m : Formula) → IsOutermost m a → Modalised p m
IsOutermost-Modalised p a m h = outermost_is (λ x. Modalised p x) a m h (λ c e. e) (λ c e. e)

pub StandsBare-Occurs : (p : List ℕ) (a : Formula) → StandsBare p a → Occurs p a
StandsBare-Occurs p (letter q) h = h
StandsBare-Occurs p falsum h = h
StandsBare-Occurs p verum h = h
StandsBare-Occurs p (neg a) h = StandsBare-Occurs p a h
StandsBare-Occurs p (conj a b) h = ⊎_elim (λ l. inl (StandsBare-Occurs p a l)) (λ r. inr (StandsBare-Occurs p b r)) h
StandsBare-Occurs p (disj a b) h = ⊎_elim (λ l. inl (StandsBare-Occurs p a l)) (λ r. inr (StandsBare-Occurs p b r)) h
StandsBare-Occurs p (impl a b) h = ⊎_elim (λ l. inl (StandsBare-Occurs p a l)) (λ r. inr (StandsBare-Occurs p b r)) h
StandsBare-Occurs p (equi a b) h = ⊎_elim (λ l. inl (StandsBare-Occurs p a l)) (λ r. inr (StandsBare-Occurs p b r)) h
StandsBare-Occurs p (nec a) h = absurd h
StandsBare-Occurs p (poss a) h = absurd h

pub IsOutermost-Occurs : (p : List ℕ) (a m : Formula) → IsOutermost m a → Occurs p m → Occurs p a
IsOutermost-Occurs p (letter q) m h o = absurd h
IsOutermost-Occurs p falsum m h o = absurd h
IsOutermost-Occurs p verum m h o = absurd h
IsOutermost-Occurs p (neg a) m h o = IsOutermost-Occurs p a m h o
IsOutermost-Occurs p (conj a b) m h o = ⊎_elim (λ l. inl (IsOutermost-Occurs p a m l o)) (λ r. inr (IsOutermost-Occurs p b m r o)) h
IsOutermost-Occurs p (disj a b) m h o = ⊎_elim (λ l. inl (IsOutermost-Occurs p a m l o)) (λ r. inr (IsOutermost-Occurs p b m r o)) h
IsOutermost-Occurs p (impl a b) m h o = ⊎_elim (λ l. inl (IsOutermost-Occurs p a m l o)) (λ r. inr (IsOutermost-Occurs p b m r o)) h
IsOutermost-Occurs p (equi a b) m h o = ⊎_elim (λ l. inl (IsOutermost-Occurs p a m l o)) (λ r. inr (IsOutermost-Occurs p b m r o)) h
IsOutermost-Occurs p (nec a) m h o = subst (Occurs p) h o
IsOutermost-Occurs p (poss a) m h o = subst (Occurs p) h o

-- functions that agree at the outermost modal subformulas give one formula
pub at_equal : (f g : Formula → Formula) (a : Formula) → ((m : Formula) → IsOutermost m a → f m ≡ g m) → at_outermost f a ≡ at_outermost g a
at_equal f g (letter q) same = refl
at_equal f g falsum same = refl
at_equal f g verum same = refl
at_equal f g (neg a) same = ap neg (at_equal f g a same)
at_equal f g (conj a b) same = λ i. conj (at_equal f g a (λ m h. same m (inl h)) i) (at_equal f g b (λ m h. same m (inr h)) i)
at_equal f g (disj a b) same = λ i. disj (at_equal f g a (λ m h. same m (inl h)) i) (at_equal f g b (λ m h. same m (inr h)) i)
at_equal f g (impl a b) same = λ i. impl (at_equal f g a (λ m h. same m (inl h)) i) (at_equal f g b (λ m h. same m (inr h)) i)
at_equal f g (equi a b) same = λ i. equi (at_equal f g a (λ m h. same m (inl h)) i) (at_equal f g b (λ m h. same m (inr h)) i)
at_equal f g (nec a) same = same (nec a) refl
at_equal f g (poss a) same = same (poss a) refl

pub at_twice : (f g : Formula → Formula) (a : Formula) → at_outermost f (at_outermost g a) ≡ at_outermost (λ x. at_outermost f (g x)) a
at_twice f g (letter q) = refl
at_twice f g falsum = refl
at_twice f g verum = refl
at_twice f g (neg a) = ap neg (at_twice f g a)
at_twice f g (conj a b) = λ i. conj (at_twice f g a i) (at_twice f g b i)
at_twice f g (disj a b) = λ i. disj (at_twice f g a i) (at_twice f g b i)
at_twice f g (impl a b) = λ i. impl (at_twice f g a i) (at_twice f g b i)
at_twice f g (equi a b) = λ i. equi (at_twice f g a i) (at_twice f g b i)
at_twice f g (nec a) = refl
at_twice f g (poss a) = refl

pub at_self : (a : Formula) → at_outermost (λ x. x) a ≡ a
at_self (letter q) = refl
at_self falsum = refl
at_self verum = refl
at_self (neg a) = ap neg (at_self a)
at_self (conj a b) = λ i. conj (at_self a i) (at_self b i)
at_self (disj a b) = λ i. disj (at_self a i) (at_self b i)
at_self (impl a b) = λ i. impl (at_self a i) (at_self b i)
at_self (equi a b) = λ i. equi (at_self a i) (at_self b i)
at_self (nec a) = refl
at_self (poss a) = refl

-- what stands in the result stands in the formula under no modality, or in what f gives
pub at_occurs : (p : List ℕ) (f : Formula → Formula) (a : Formula) → Occurs p (at_outermost f a) → StandsBare p a ⊎ ((m : Formula) × IsOutermost m a × Occurs p (f m))
at_occurs p f (letter q) h = inl h
at_occurs p f falsum h = absurd h
at_occurs p f verum h = absurd h
at_occurs p f (neg a) h = at_occurs p f a h
at_occurs p f (conj a b) h = ⊎_elim
    (λ l. ⊎_elim (λ s. inl (inl s)) (λ t. inr (t.0, inl t.1, t.2)) (at_occurs p f a l))
    (λ r. ⊎_elim (λ s. inl (inr s)) (λ t. inr (t.0, inr t.1, t.2)) (at_occurs p f b r))
    h
at_occurs p f (disj a b) h = ⊎_elim
    (λ l. ⊎_elim (λ s. inl (inl s)) (λ t. inr (t.0, inl t.1, t.2)) (at_occurs p f a l))
    (λ r. ⊎_elim (λ s. inl (inr s)) (λ t. inr (t.0, inr t.1, t.2)) (at_occurs p f b r))
    h
at_occurs p f (impl a b) h = ⊎_elim
    (λ l. ⊎_elim (λ s. inl (inl s)) (λ t. inr (t.0, inl t.1, t.2)) (at_occurs p f a l))
    (λ r. ⊎_elim (λ s. inl (inr s)) (λ t. inr (t.0, inr t.1, t.2)) (at_occurs p f b r))
    h
at_occurs p f (equi a b) h = ⊎_elim
    (λ l. ⊎_elim (λ s. inl (inl s)) (λ t. inr (t.0, inl t.1, t.2)) (at_occurs p f a l))
    (λ r. ⊎_elim (λ s. inl (inr s)) (λ t. inr (t.0, inr t.1, t.2)) (at_occurs p f b r))
    h
at_occurs p f (nec a) h = inr (nec a, refl, h)
at_occurs p f (poss a) h = inr (poss a, refl, h)

pub at_bare : (p : List ℕ) (f : Formula → Formula) (a : Formula) → StandsBare p (at_outermost f a) → StandsBare p a ⊎ ((m : Formula) × IsOutermost m a × StandsBare p (f m))
at_bare p f (letter q) h = inl h
at_bare p f falsum h = absurd h
at_bare p f verum h = absurd h
at_bare p f (neg a) h = at_bare p f a h
at_bare p f (conj a b) h = ⊎_elim
    (λ l. ⊎_elim (λ s. inl (inl s)) (λ t. inr (t.0, inl t.1, t.2)) (at_bare p f a l))
    (λ r. ⊎_elim (λ s. inl (inr s)) (λ t. inr (t.0, inr t.1, t.2)) (at_bare p f b r))
    h
at_bare p f (disj a b) h = ⊎_elim
    (λ l. ⊎_elim (λ s. inl (inl s)) (λ t. inr (t.0, inl t.1, t.2)) (at_bare p f a l))
    (λ r. ⊎_elim (λ s. inl (inr s)) (λ t. inr (t.0, inr t.1, t.2)) (at_bare p f b r))
    h
at_bare p f (impl a b) h = ⊎_elim
    (λ l. ⊎_elim (λ s. inl (inl s)) (λ t. inr (t.0, inl t.1, t.2)) (at_bare p f a l))
    (λ r. ⊎_elim (λ s. inl (inr s)) (λ t. inr (t.0, inr t.1, t.2)) (at_bare p f b r))
    h
at_bare p f (equi a b) h = ⊎_elim
    (λ l. ⊎_elim (λ s. inl (inl s)) (λ t. inr (t.0, inl t.1, t.2)) (at_bare p f a l))
    (λ r. ⊎_elim (λ s. inl (inr s)) (λ t. inr (t.0, inr t.1, t.2)) (at_bare p f b r))
    h
at_bare p f (nec a) h = inr (nec a, refl, h)
at_bare p f (poss a) h = inr (poss a, refl, h)

pub at_pieces : (f : Formula → Formula) (a k : Formula) → IsOutermost k (at_outermost f a) → (m : Formula) × IsOutermost m a × IsOutermost k (f m)
at_pieces f (letter q) k h = absurd h
at_pieces f falsum k h = absurd h
at_pieces f verum k h = absurd h
at_pieces f (neg a) k h = at_pieces f a k h
at_pieces f (conj a b) k h = ⊎_elim
    (λ l. let t = at_pieces f a k l in (t.0, inl t.1, t.2))
    (λ r. let t = at_pieces f b k r in (t.0, inr t.1, t.2))
    h
at_pieces f (disj a b) k h = ⊎_elim
    (λ l. let t = at_pieces f a k l in (t.0, inl t.1, t.2))
    (λ r. let t = at_pieces f b k r in (t.0, inr t.1, t.2))
    h
at_pieces f (impl a b) k h = ⊎_elim
    (λ l. let t = at_pieces f a k l in (t.0, inl t.1, t.2))
    (λ r. let t = at_pieces f b k r in (t.0, inr t.1, t.2))
    h
at_pieces f (equi a b) k h = ⊎_elim
    (λ l. let t = at_pieces f a k l in (t.0, inl t.1, t.2))
    (λ r. let t = at_pieces f b k r in (t.0, inr t.1, t.2))
    h
at_pieces f (nec a) k h = (nec a, refl, h)
at_pieces f (poss a) k h = (poss a, refl, h)

-- another letter is left as it is
pub letter_other : (p q : List ℕ) (e : Formula) → ¬ (p ≡ q) → (if bytes_eq p q then e else letter q) ≡ letter q
letter_other p q e apart = other (bytes_eq p q) (bytes_eq-Decides p q)
  where
    other : (t : Bool) → Decides t (p ≡ q) → (if t then e else letter q) ≡ letter q
    other true d = absurd (apart (d.0 refl))
    other false d = refl

-- in a formula in which p is modalised it is replaced within the outermost modal subformulas
pub replace_at : (p : List ℕ) (e : Formula) (f : Formula → Formula) (a : Formula) → Modalised p a → replace p e (at_outermost f a) ≡ at_outermost (λ x. replace p e (f x)) a
replace_at p e f (letter q) h = letter_other p q e h
replace_at p e f falsum h = refl
replace_at p e f verum h = refl
replace_at p e f (neg a) h = ap neg (replace_at p e f a h)
replace_at p e f (conj a b) h = λ i. conj (replace_at p e f a (λ l. h (inl l)) i) (replace_at p e f b (λ r. h (inr r)) i)
replace_at p e f (disj a b) h = λ i. disj (replace_at p e f a (λ l. h (inl l)) i) (replace_at p e f b (λ r. h (inr r)) i)
replace_at p e f (impl a b) h = λ i. impl (replace_at p e f a (λ l. h (inl l)) i) (replace_at p e f b (λ r. h (inr r)) i)
replace_at p e f (equi a b) h = λ i. equi (replace_at p e f a (λ l. h (inl l)) i) (replace_at p e f b (λ r. h (inr r)) i)
replace_at p e f (nec a) h = refl
replace_at p e f (poss a) h = refl

pub replace_outer : (p : List ℕ) (e a : Formula) → Modalised p a → replace p e a ≡ at_outermost (replace p e) a
replace_outer p e a h = ap (replace p e) (sym (at_self a)) ∙ replace_at p e (λ x. x) a h

pub replace_none : (p : List ℕ) (e a : Formula) → ¬ Occurs p a → replace p e a ≡ a
replace_none p e (letter q) h = letter_other p q e h
replace_none p e falsum h = refl
replace_none p e verum h = refl
replace_none p e (neg a) h = ap neg (replace_none p e a h)
replace_none p e (conj a b) h = λ i. conj (replace_none p e a (λ l. h (inl l)) i) (replace_none p e b (λ r. h (inr r)) i)
replace_none p e (disj a b) h = λ i. disj (replace_none p e a (λ l. h (inl l)) i) (replace_none p e b (λ r. h (inr r)) i)
replace_none p e (impl a b) h = λ i. impl (replace_none p e a (λ l. h (inl l)) i) (replace_none p e b (λ r. h (inr r)) i)
replace_none p e (equi a b) h = λ i. equi (replace_none p e a (λ l. h (inl l)) i) (replace_none p e b (λ r. h (inr r)) i)
replace_none p e (nec a) h = ap nec (replace_none p e a h)
replace_none p e (poss a) h = ap poss (replace_none p e a h)

own_letter : (p q : List ℕ) (t : Bool) → Decides t (p ≡ q) → (if t then letter p else letter q) ≡ letter q
own_letter p q true d = ap letter (d.0 refl)
own_letter p q false d = refl

pub replace_self : (p : List ℕ) (a : Formula) → replace p (letter p) a ≡ a
replace_self p (letter q) = own_letter p q (bytes_eq p q) (bytes_eq-Decides p q)
replace_self p falsum = refl
replace_self p verum = refl
replace_self p (neg a) = ap neg (replace_self p a)
replace_self p (conj a b) = λ i. conj (replace_self p a i) (replace_self p b i)
replace_self p (disj a b) = λ i. disj (replace_self p a i) (replace_self p b i)
replace_self p (impl a b) = λ i. impl (replace_self p a i) (replace_self p b i)
replace_self p (equi a b) = λ i. equi (replace_self p a i) (replace_self p b i)
replace_self p (nec a) = ap nec (replace_self p a)
replace_self p (poss a) = ap poss (replace_self p a)

from_letter : (q q' : List ℕ) (e : Formula) (t : Bool) → Occurs q' (if t then e else letter q) → (q' ≡ q) ⊎ Occurs q' e
from_letter q q' e true h = inr h
from_letter q q' e false h = inl h

-- what stands in the formula with e for p stands in the formula, or in e
pub replace-Occurs : (p q' : List ℕ) (e a : Formula) → Occurs q' (replace p e a) → Occurs q' a ⊎ Occurs q' e
replace-Occurs p q' e (letter q) h = from_letter q q' e (bytes_eq p q) h
replace-Occurs p q' e falsum h = absurd h
replace-Occurs p q' e verum h = absurd h
replace-Occurs p q' e (neg a) h = replace-Occurs p q' e a h
replace-Occurs p q' e (conj a b) h = ⊎_elim
    (λ l. ⊎_elim (λ s. inl (inl s)) (λ t. inr t) (replace-Occurs p q' e a l))
    (λ r. ⊎_elim (λ s. inl (inr s)) (λ t. inr t) (replace-Occurs p q' e b r))
    h
replace-Occurs p q' e (disj a b) h = ⊎_elim
    (λ l. ⊎_elim (λ s. inl (inl s)) (λ t. inr t) (replace-Occurs p q' e a l))
    (λ r. ⊎_elim (λ s. inl (inr s)) (λ t. inr t) (replace-Occurs p q' e b r))
    h
replace-Occurs p q' e (impl a b) h = ⊎_elim
    (λ l. ⊎_elim (λ s. inl (inl s)) (λ t. inr t) (replace-Occurs p q' e a l))
    (λ r. ⊎_elim (λ s. inl (inr s)) (λ t. inr t) (replace-Occurs p q' e b r))
    h
replace-Occurs p q' e (equi a b) h = ⊎_elim
    (λ l. ⊎_elim (λ s. inl (inl s)) (λ t. inr t) (replace-Occurs p q' e a l))
    (λ r. ⊎_elim (λ s. inl (inr s)) (λ t. inr t) (replace-Occurs p q' e b r))
    h
replace-Occurs p q' e (nec a) h = replace-Occurs p q' e a h
replace-Occurs p q' e (poss a) h = replace-Occurs p q' e a h

free_letter : (p q : List ℕ) (e : Formula) (t : Bool) → Decides t (p ≡ q) → ¬ Occurs p e → Occurs p (if t then e else letter q) → ⊥
free_letter p q e true d free h = free h
free_letter p q e false d free h = false≢true (d.1 h)

-- where e has no p, nor has the formula with e for p
pub replace_free : (p : List ℕ) (e a : Formula) → ¬ Occurs p e → ¬ Occurs p (replace p e a)
replace_free p e (letter q) free h = free_letter p q e (bytes_eq p q) (bytes_eq-Decides p q) free h
replace_free p e falsum free h = absurd h
replace_free p e verum free h = absurd h
replace_free p e (neg a) free h = replace_free p e a free h
replace_free p e (conj a b) free h = ⊎_elim (λ l. replace_free p e a free l) (λ r. replace_free p e b free r) h
replace_free p e (disj a b) free h = ⊎_elim (λ l. replace_free p e a free l) (λ r. replace_free p e b free r) h
replace_free p e (impl a b) free h = ⊎_elim (λ l. replace_free p e a free l) (λ r. replace_free p e b free r) h
replace_free p e (equi a b) free h = ⊎_elim (λ l. replace_free p e a free l) (λ r. replace_free p e b free r) h
replace_free p e (nec a) free h = replace_free p e a free h
replace_free p e (poss a) free h = replace_free p e a free h
