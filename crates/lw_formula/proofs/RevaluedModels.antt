-- A model with other facts for one letter, and what that does to truth.
use Rattle.std.proofs.Common.{◌≡◌, ◌≢◌, ℕ, ◌<◌, suc, zero, Bool, true, false, cond, not, List, [], ◌∷◌, ◌++◌, ◌⊎◌, ◌↔◌, if◌then◌else◌, inl, inr, ⊎_elim, refl, ap, subst, sym, ◌∙◌, arith}
use Rattle.std.specs.List.{Contains, filter}
use Rattle.std.specs.Str.{bytes_eq}
use Rattle.std.proofs.lemmas.Bool.{false≢true, cases_eq}
use Rattle.std.proofs.lemmas.List.Elements.{Contains-append_cases, Contains-append_left, Contains-append_right, All-append, All-filter, All-contains}
use Rattle.std.proofs.lemmas.Slice.Eq.{bytes_eq-Decides}
use Rattle.lw_formula.specs.declared.logic.Logic.{Logic}
use Rattle.lw_formula.specs.declared.logic.Logic.TheVariants.{K, KT, S4, S5, GL, Grz, K4, KD}
use Rattle.lw_formula.specs.Formula.{Formula, letter, falsum, verum, neg, conj, disj, impl, equi, nec, poss}
use Rattle.lw_formula.specs.Variables.{replace}
use Rattle.lw_formula.specs.FiniteModel.{FiniteModel, IsWellFormed, Sees, HasFact, AreDistinct}
use Rattle.lw_formula.specs.Class.{Class, HasFrame}
use Rattle.lw_formula.specs.Truth.{IsTrueAt, true_at}
use Rattle.lw_formula.specs.Validity.{Valid}
use Rattle.lw_formula.specs.Laws.{AgreeOn}
use Rattle.lw_formula.proofs.ListMembers.{Contains-nil, Contains-head, Contains-tail, Contains-cons_cases, Contains-filter, Contains-filter_cases, All-members, AreDistinct-nil, AreDistinct-cons, AreDistinct-filter, AreDistinct-append}
use Rattle.lw_formula.proofs.TruthTest.{true_at-IsTrueAt}

-- two pairs of facts that go both ways, under each connective
iff_not : {P Q : Type 0} → P ↔ Q → (¬ P) ↔ (¬ Q)
iff_not h = (λ n q. n (h.1 q), λ n p. n (h.0 p))

iff_and : {P Q R S : Type 0} → P ↔ Q → R ↔ S → (P × R) ↔ (Q × S)
iff_and h k = (λ p. (h.0 p.0, k.0 p.1), λ q. (h.1 q.0, k.1 q.1))

iff_or : {P Q R S : Type 0} → P ↔ Q → R ↔ S → (P ⊎ R) ↔ (Q ⊎ S)
iff_or h k = (λ p. ⊎_elim (λ l. inl (h.0 l)) (λ r. inr (k.0 r)) p, λ q. ⊎_elim (λ l. inl (h.1 l)) (λ r. inr (k.1 r)) q)

iff_implies : {P Q R S : Type 0} → P ↔ Q → R ↔ S → (P → R) ↔ (Q → S)
iff_implies h k = (λ f q. k.0 (f (h.1 q)), λ g p. k.1 (g (h.0 p)))

iff_iff : {P Q R S : Type 0} → P ↔ Q → R ↔ S → (P ↔ R) ↔ (Q ↔ S)
iff_iff h k = (λ f. (λ q. k.0 (f.0 (h.1 q)), λ s. h.0 (f.1 (k.1 s))), λ g. (λ p. k.1 (g.0 (h.0 p)), λ r. h.1 (g.1 (k.0 r))))

-- models that agree on a formula agree on each operand
left : (a b : Formula) {m n : FiniteModel} → AgreeOn (conj a b) m n → AgreeOn a m n
left a b h = record { relation = h.relation; facts = λ p o. h.facts p (inl o) }

right : (a b : Formula) {m n : FiniteModel} → AgreeOn (conj a b) m n → AgreeOn b m n
right a b h = record { relation = h.relation; facts = λ p o. h.facts p (inr o) }

-- models that agree on a formula's variables give it the same truth
pub IsTrueAt-agree : (a : Formula) (m n : FiniteModel) → AgreeOn a m n → (w : ℕ) → IsTrueAt m w a ↔ IsTrueAt n w a
IsTrueAt-agree (letter p) m n h w = h.facts p refl w
IsTrueAt-agree falsum m n h w = (λ x. x, λ x. x)
IsTrueAt-agree verum m n h w = (λ x. x, λ x. x)
IsTrueAt-agree (neg a) m n h w = iff_not (IsTrueAt-agree a m n (record { relation = h.relation; facts = h.facts }) w)
IsTrueAt-agree (conj a b) m n h w = iff_and (IsTrueAt-agree a m n (left a b h) w) (IsTrueAt-agree b m n (right a b h) w)
IsTrueAt-agree (disj a b) m n h w = iff_or (IsTrueAt-agree a m n (left a b (record { relation = h.relation; facts = h.facts })) w) (IsTrueAt-agree b m n (right a b (record { relation = h.relation; facts = h.facts })) w)
IsTrueAt-agree (impl a b) m n h w = iff_implies (IsTrueAt-agree a m n (left a b (record { relation = h.relation; facts = h.facts })) w) (IsTrueAt-agree b m n (right a b (record { relation = h.relation; facts = h.facts })) w)
IsTrueAt-agree (equi a b) m n h w = iff_iff (IsTrueAt-agree a m n (left a b (record { relation = h.relation; facts = h.facts })) w) (IsTrueAt-agree b m n (right a b (record { relation = h.relation; facts = h.facts })) w)
IsTrueAt-agree (nec a) m n h w = (
  λ all v s. (IsTrueAt-agree a m n (record { relation = h.relation; facts = h.facts }) v).0 (all v ((h.relation w v).1 s)),
  λ all v s. (IsTrueAt-agree a m n (record { relation = h.relation; facts = h.facts }) v).1 (all v ((h.relation w v).0 s)),
)
IsTrueAt-agree (poss a) m n h w = (
  λ some. (some.0, (h.relation w some.0).0 some.1, (IsTrueAt-agree a m n (record { relation = h.relation; facts = h.facts }) some.0).0 some.2),
  λ some. (some.0, (h.relation w some.0).1 some.1, (IsTrueAt-agree a m n (record { relation = h.relation; facts = h.facts }) some.0).1 some.2),
)

-- the letter's facts: at each world below n that passes the test
abbrev pub facts_where : ℕ → (ℕ → Bool) → List ℕ → List (ℕ × List ℕ)
facts_where zero test p = []
facts_where (suc n) test p = cond (test n) ((n, p) ∷ facts_where n test p) (facts_where n test p)

-- whether a fact is of another letter
abbrev pub is_other : List ℕ → ℕ × List ℕ → Bool
is_other p f = not (bytes_eq f.1 p)

-- the model with the letter true at the worlds that pass the test, and all else as before
abbrev pub revalued : FiniteModel → List ℕ → (ℕ → Bool) → FiniteModel
revalued m p test = record {
  worlds = m.worlds;
  pairs = m.pairs;
  facts = filter (is_other p) m.facts ++ facts_where m.worlds test p;
}

-- at the next number the list is longer by one fact or is as it was
next_cases : (b : Bool) (f g : ℕ × List ℕ) (fs : List (ℕ × List ℕ)) → Contains (cond b (f ∷ fs) fs) g → ((b ≡ true) × (f ≡ g)) ⊎ Contains fs g
next_cases true f g fs h = ⊎_elim (λ e. inl (refl, e)) (λ r. inr r) (Contains-cons_cases f fs g h)
next_cases false f g fs h = inr h

next_keeps : (b : Bool) (f g : ℕ × List ℕ) (fs : List (ℕ × List ℕ)) → Contains fs g → Contains (cond b (f ∷ fs) fs) g
next_keeps true f g fs h = Contains-tail f fs g h
next_keeps false f g fs h = h

next_has : (b : Bool) (f : ℕ × List ℕ) (fs : List (ℕ × List ℕ)) → b ≡ true → Contains (cond b (f ∷ fs) fs) f
next_has true f fs e = Contains-head f fs
next_has false f fs e = absurd (false≢true e)

-- what the letter's facts are
pub record IsWhere (n : ℕ) (test : ℕ → Bool) (p : List ℕ) (f : ℕ × List ℕ) : Type 0 where
  pub below : f.0 < n
  pub passes : test f.0 ≡ true
  pub own : p ≡ f.1

pub facts_where-cases : (n : ℕ) (test : ℕ → Bool) (p : List ℕ) (f : ℕ × List ℕ) → Contains (facts_where n test p) f → IsWhere n test p f
facts_where-cases zero test p f h = absurd (Contains-nil f h)
facts_where-cases (suc n) test p f h =
    ⊎_elim
    (λ e. let at : n ≡ f.0 = ap (λ g. g.0) e.1 in record { below = omega arith; passes = subst (λ w. test w ≡ true) at e.0; own = ap (λ g. g.1) e.1 })
    (λ r. let before : IsWhere n test p f = facts_where-cases n test p f r in record { below = omega arith; passes = before.passes; own = before.own })
    (next_cases (test n) (n, p) f (facts_where n test p) h)

pub facts_where-Contains : (n : ℕ) (test : ℕ → Bool) (p : List ℕ) (w : ℕ) → w < n → test w ≡ true → Contains (facts_where n test p) (w, p)
facts_where-Contains zero test p w l e = let bad : ⊥ = omega arith in absurd bad
facts_where-Contains (suc n) test p w l e =
    ⊎_elim
    (λ at. subst (λ v. Contains (facts_where (suc n) test p) (v, p)) (sym at) (next_has (test n) (n, p) (facts_where n test p) (subst (λ v. test v ≡ true) at e)))
    (λ other. next_keeps (test n) (n, p) (w, p) (facts_where n test p) (facts_where-Contains n test p w (omega arith) e))
    (cases_eq w n)

-- each world has the fact once
facts_where-AreDistinct : (n : ℕ) (test : ℕ → Bool) (p : List ℕ) → AreDistinct (facts_where n test p)
facts_where-AreDistinct zero test p = AreDistinct-nil
facts_where-AreDistinct (suc n) test p = next (test n) (facts_where-AreDistinct n test p)
  where
    next : (b : Bool) → AreDistinct (facts_where n test p) → AreDistinct (cond b ((n, p) ∷ facts_where n test p) (facts_where n test p))
    next true before =
        AreDistinct-cons (n, p) (facts_where n test p)
        (λ h. let f : IsWhere n test p (n, p) = facts_where-cases n test p (n, p) h in let bad : n < n = f.below in omega arith)
        before
    next false before = before

-- what is of another letter is so by its name
is_other-true : (p : List ℕ) (f : ℕ × List ℕ) → is_other p f ≡ true → p ≢ f.1
is_other-true p f e own = is_not (bytes_eq f.1 p) ((bytes_eq-Decides f.1 p).1 (sym own)) e
  where
    is_not : (b : Bool) → b ≡ true → not b ≡ true → ⊥
    is_not true t n = false≢true n
    is_not false t n = false≢true t

is_other-from : (p : List ℕ) (f : ℕ × List ℕ) → p ≢ f.1 → is_other p f ≡ true
is_other-from p f apart = is_not (bytes_eq f.1 p) (λ t. apart (sym ((bytes_eq-Decides f.1 p).0 t)))
  where
    is_not : (b : Bool) → (b ≡ true → ⊥) → not b ≡ true
    is_not true n = absurd (n refl)
    is_not false n = refl

-- the letter's own facts in the new model
pub HasFact-own : (m : FiniteModel) (p : List ℕ) (test : ℕ → Bool) (w : ℕ) → w < m.worlds → HasFact (revalued m p test) w p ↔ (test w ≡ true)
HasFact-own m p test w l = (
  λ h. ⊎_elim
      (λ old. absurd (is_other-true p (w, p) (Contains-filter_cases (is_other p) m.facts (w, p) old).1 refl))
      (λ new. (facts_where-cases m.worlds test p (w, p) new).passes)
      (Contains-append_cases (filter (is_other p) m.facts) (facts_where m.worlds test p) (w, p) h),
  λ e. Contains-append_right (filter (is_other p) m.facts) (facts_where m.worlds test p) (w, p) (facts_where-Contains m.worlds test p w l e),
)

-- the facts of other letters stay
pub HasFact-other : (m : FiniteModel) (p : List ℕ) (test : ℕ → Bool) (w : ℕ) (q : List ℕ) → p ≢ q → HasFact (revalued m p test) w q ↔ HasFact m w q
HasFact-other m p test w q apart = (
  λ h. ⊎_elim
      (λ old. (Contains-filter_cases (is_other p) m.facts (w, q) old).0)
      (λ new. absurd (apart (facts_where-cases m.worlds test p (w, q) new).own))
      (Contains-append_cases (filter (is_other p) m.facts) (facts_where m.worlds test p) (w, q) h),
  λ h. Contains-append_left (filter (is_other p) m.facts) (facts_where m.worlds test p) (w, q) (Contains-filter (is_other p) m.facts (w, q) h (is_other-from p (w, q) apart)),
)

-- the new model is as good as the old one
pub IsWellFormed-revalued : (m : FiniteModel) (p : List ℕ) (test : ℕ → Bool) → IsWellFormed m → IsWellFormed (revalued m p test)
IsWellFormed-revalued m p test h = record {
  inhabited = h.inhabited;
  pairs_within = h.pairs_within;
  pairs_distinct = h.pairs_distinct;
  facts_within =
      All-append (λ f. f.0 < m.worlds) (filter (is_other p) m.facts) (facts_where m.worlds test p)
      (All-filter (is_other p) (λ f. f.0 < m.worlds) m.facts h.facts_within)
      (All-members (λ f. f.0 < m.worlds) (facts_where m.worlds test p) (λ f k. (facts_where-cases m.worlds test p f k).below));
  facts_distinct =
      AreDistinct-append (filter (is_other p) m.facts) (facts_where m.worlds test p)
      (AreDistinct-filter (is_other p) m.facts h.facts_distinct)
      (facts_where-AreDistinct m.worlds test p)
      (λ f old new. is_other-true p f (Contains-filter_cases (is_other p) m.facts f old).1 (facts_where-cases m.worlds test p f new).own);
}

-- and of the same class
HasFrame-revalued : (logic : Logic) (m : FiniteModel) (p : List ℕ) (test : ℕ → Bool) → HasFrame logic m → HasFrame logic (revalued m p test)
HasFrame-revalued K m p test h = h
HasFrame-revalued KT m p test h = h
HasFrame-revalued S4 m p test h = h
HasFrame-revalued S5 m p test h = h
HasFrame-revalued GL m p test h = h
HasFrame-revalued Grz m p test h = h
HasFrame-revalued K4 m p test h = h
HasFrame-revalued KD m p test h = h

pub Class-revalued : (logic : Logic) (m : FiniteModel) (p : List ℕ) (test : ℕ → Bool) → Class logic m → Class logic (revalued m p test)
Class-revalued logic m p test h = record {
  well_formed = IsWellFormed-revalued m p test h.well_formed;
  frame = HasFrame-revalued logic m p test h.frame;
}

-- a world that is seen is one of the worlds
pub seen_below : (m : FiniteModel) → IsWellFormed m → (w v : ℕ) → Sees m w v → v < m.worlds
seen_below m ok w v s = (All-contains (λ p. (p.0 < m.worlds) × (p.1 < m.worlds)) m.pairs (w, v) ok.pairs_within s).1

-- with p true where b is, a formula is true where it is true with b for p
pub IsTrueAt-replace : (m : FiniteModel) → IsWellFormed m → (p : List ℕ) (b a : Formula) (w : ℕ) → w < m.worlds → IsTrueAt (revalued m p (λ v. true_at m v b)) w a ↔ IsTrueAt m w (replace p b a)
IsTrueAt-replace m ok p b (letter q) w l = at_letter m p b q w l (bytes_eq p q) refl
  where
    at_letter : (m : FiniteModel) (p : List ℕ) (b : Formula) (q : List ℕ) (w : ℕ) → w < m.worlds → (t : Bool) → bytes_eq p q ≡ t → HasFact (revalued m p (λ v. true_at m v b)) w q ↔ IsTrueAt m w (if t then b else letter q)
    at_letter m p b q w l true e =
        let own : p ≡ q = (bytes_eq-Decides p q).0 e in
        let mine : HasFact (revalued m p (λ v. true_at m v b)) w q ↔ (true_at m w b ≡ true) = subst (λ r. HasFact (revalued m p (λ v. true_at m v b)) w r ↔ (true_at m w b ≡ true)) own (HasFact-own m p (λ v. true_at m v b) w l) in
        (λ h. (true_at-IsTrueAt m w b).0 (mine.0 h), λ h. mine.1 ((true_at-IsTrueAt m w b).1 h))
    at_letter m p b q w l false e =
        HasFact-other m p (λ v. true_at m v b) w q (λ own. let yes : bytes_eq p q ≡ true = (bytes_eq-Decides p q).1 own in false≢true (sym e ∙ yes))
IsTrueAt-replace m ok p b falsum w l = (λ x. x, λ x. x)
IsTrueAt-replace m ok p b verum w l = (λ x. x, λ x. x)
IsTrueAt-replace m ok p b (neg a) w l = iff_not (IsTrueAt-replace m ok p b a w l)
IsTrueAt-replace m ok p b (conj a c) w l = iff_and (IsTrueAt-replace m ok p b a w l) (IsTrueAt-replace m ok p b c w l)
IsTrueAt-replace m ok p b (disj a c) w l = iff_or (IsTrueAt-replace m ok p b a w l) (IsTrueAt-replace m ok p b c w l)
IsTrueAt-replace m ok p b (impl a c) w l = iff_implies (IsTrueAt-replace m ok p b a w l) (IsTrueAt-replace m ok p b c w l)
IsTrueAt-replace m ok p b (equi a c) w l = iff_iff (IsTrueAt-replace m ok p b a w l) (IsTrueAt-replace m ok p b c w l)
IsTrueAt-replace m ok p b (nec a) w l = (
  λ all v s. (IsTrueAt-replace m ok p b a v (seen_below m ok w v s)).0 (all v s),
  λ all v s. (IsTrueAt-replace m ok p b a v (seen_below m ok w v s)).1 (all v s),
)
IsTrueAt-replace m ok p b (poss a) w l = (
  λ some. (some.0, some.1, (IsTrueAt-replace m ok p b a some.0 (seen_below m ok w some.0 some.1)).0 some.2),
  λ some. (some.0, some.1, (IsTrueAt-replace m ok p b a some.0 (seen_below m ok w some.0 some.1)).1 some.2),
)

pub Valid-replace : (logic : Logic) (p : List ℕ) (a b : Formula) → Valid logic a → Valid logic (replace p b a)
Valid-replace logic p a b valid m h w l =
    (IsTrueAt-replace m h.well_formed p b a w l).0 (valid (revalued m p (λ v. true_at m v b)) (Class-revalued logic m p (λ v. true_at m v b) h) w l)
