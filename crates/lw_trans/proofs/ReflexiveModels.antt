-- Truth in the reflexive closure of a model is truth of the translation in the model.
use Rattle.std.proofs.Common.{◌≡◌, ℕ, zero, suc, ◌<◌, Bool, true, false, not, ◌==◌, List, [], ◌∷◌, ◌++◌, ◌⊎◌, ◌↔◌, inl, inr, ⊎_elim, refl, sym, ap, subst, ◌∙◌, arith}
use Rattle.std.specs.Prelude.{Contains}
use Rattle.std.specs.List.{filter}
use Rattle.std.proofs.lemmas.Bool.{false≢true, cases_lt}
use Rattle.std.proofs.lemmas.Bool.Decides.{Decides-eqb, Decides-not}
use Rattle.std.proofs.lemmas.List.Elements.{All-append, All-filter, Contains-append_left, Contains-append_right, Contains-append_cases}
use Rattle.lw_formula.specs.declared.logic.Logic.TheVariants.{GL, Grz}
use Rattle.lw_formula.specs.Formula.{Formula, letter, falsum, verum, neg, conj, disj, impl, equi, nec, poss}
use Rattle.lw_formula.specs.FiniteModel.{FiniteModel, AreDistinct, IsWellFormed, Sees, HasFact}
use Rattle.lw_formula.specs.Class.{Class}
use Rattle.lw_formula.specs.Truth.{IsTrueAt}
use Rattle.lw_formula.specs.Validity.{Valid}
use Rattle.lw_formula.proofs.ListMembers.{All-members, Contains-nil, Contains-head, Contains-tail, Contains-cons_cases, Contains-filter, Contains-filter_cases, AreDistinct-nil, AreDistinct-cons, AreDistinct-append, AreDistinct-filter}
use Rattle.lw_formula.proofs.RevaluedModels.{seen_below}
use Rattle.lw_trans.specs.Translations.{boxdot}

-- n has m's facts, and each world sees there what it sees in m, and itself
record IsReflexiveClosure (n m : FiniteModel) : Type 0 where
  relation : (w v : ℕ) → w < n.worlds → Sees n w v ↔ ((w ≡ v) ⊎ Sees m w v)
  within : (w v : ℕ) → Sees n w v → v < n.worlds
  facts : (w : ℕ) (p : List ℕ) → HasFact n w p ↔ HasFact m w p

IsTrueAt-boxdot : (n m : FiniteModel) → IsReflexiveClosure n m → (a : Formula) (w : ℕ) → w < n.worlds → IsTrueAt n w a ↔ IsTrueAt m w (boxdot a)
IsTrueAt-boxdot n m of (letter p) w l = of.facts w p
IsTrueAt-boxdot n m of falsum w l = (λ h. h, λ h. h)
IsTrueAt-boxdot n m of verum w l = (λ h. h, λ h. h)
IsTrueAt-boxdot n m of (neg a) w l =
    let x = IsTrueAt-boxdot n m of a w l in
    (λ none h. none (x.1 h), λ none h. none (x.0 h))
IsTrueAt-boxdot n m of (conj a b) w l =
    let x = IsTrueAt-boxdot n m of a w l in
    let y = IsTrueAt-boxdot n m of b w l in
    (λ h. (x.0 h.0, y.0 h.1), λ h. (x.1 h.0, y.1 h.1))
IsTrueAt-boxdot n m of (disj a b) w l =
    let x = IsTrueAt-boxdot n m of a w l in
    let y = IsTrueAt-boxdot n m of b w l in
    (λ h. ⊎_elim (λ s. inl (x.0 s)) (λ t. inr (y.0 t)) h, λ h. ⊎_elim (λ s. inl (x.1 s)) (λ t. inr (y.1 t)) h)
IsTrueAt-boxdot n m of (impl a b) w l =
    let x = IsTrueAt-boxdot n m of a w l in
    let y = IsTrueAt-boxdot n m of b w l in
    (λ f h. y.0 (f (x.1 h)), λ f h. y.1 (f (x.0 h)))
IsTrueAt-boxdot n m of (equi a b) w l =
    let x = IsTrueAt-boxdot n m of a w l in
    let y = IsTrueAt-boxdot n m of b w l in
    (λ f. (λ h. y.0 (f.0 (x.1 h)), λ h. x.0 (f.1 (y.1 h))), λ f. (λ h. y.1 (f.0 (x.0 h)), λ h. x.1 (f.1 (y.0 h))))
IsTrueAt-boxdot n m of (nec a) w l = (
  λ all. (
    λ v sees. let s = (of.relation w v l).1 (inr sees) in (IsTrueAt-boxdot n m of a v (of.within w v s)).0 (all v s),
    (IsTrueAt-boxdot n m of a w l).0 (all w ((of.relation w w l).1 (inl refl))),
  ),
  λ both v sees.
      let k = of.within w v sees in
      (IsTrueAt-boxdot n m of a v k).1
      (⊎_elim (λ same. subst (λ u. IsTrueAt m u (boxdot a)) same both.1) (λ s. both.0 v s) ((of.relation w v l).0 sees)),
)
IsTrueAt-boxdot n m of (poss a) w l = (
  λ some.
      let h = (IsTrueAt-boxdot n m of a some.0 (of.within w some.0 some.1)).0 some.2 in
      ⊎_elim (λ same. inr (subst (λ u. IsTrueAt m u (boxdot a)) (sym same) h)) (λ s. inl (some.0, s, h)) ((of.relation w some.0 l).0 some.1),
  λ either.
      ⊎_elim
      (λ some. let s = (of.relation w some.0 l).1 (inr some.1) in (some.0, s, (IsTrueAt-boxdot n m of a some.0 (of.within w some.0 s)).1 some.2))
      (λ h. (w, (of.relation w w l).1 (inl refl), (IsTrueAt-boxdot n m of a w l).1 h))
      either,
)

-- each of the first n worlds with itself
abbrev diagonal : ℕ → List (ℕ × ℕ)
diagonal zero = []
diagonal (suc n) = (n, n) ∷ diagonal n

diagonal-cases : (n : ℕ) (p : ℕ × ℕ) → Contains (diagonal n) p → (p.0 ≡ p.1) × (p.0 < n) × (p.1 < n)
diagonal-cases zero p h = absurd (Contains-nil p h)
diagonal-cases (suc n) p h =
    ⊎_elim
    (λ e. let left = ap (λ (q : ℕ × ℕ). q.0) e in let right = ap (λ (q : ℕ × ℕ). q.1) e in (sym left ∙ right, omega (arith, left), omega (arith, right)))
    (λ rest. let r = diagonal-cases n p rest in (r.0, omega (arith, r.1), omega (arith, r.2)))
    (Contains-cons_cases (n, n) (diagonal n) p h)

diagonal-Contains : (n w : ℕ) → w < n → Contains (diagonal n) (w, w)
diagonal-Contains zero w l = let bad : ⊥ = omega arith in absurd bad
diagonal-Contains (suc n) w l =
    ⊎_elim
    (λ less. Contains-tail (n, n) (diagonal n) (w, w) (diagonal-Contains n w less))
    (λ most.
    let same : n ≡ w = omega (arith, most) in
    subst (λ v. Contains (diagonal (suc n)) (v, v)) same (Contains-head (n, n) (diagonal n)))
    (cases_lt w n)

diagonal-AreDistinct : (n : ℕ) → AreDistinct (diagonal n)
diagonal-AreDistinct zero = AreDistinct-nil
diagonal-AreDistinct (suc n) =
    AreDistinct-cons (n, n) (diagonal n) (λ h. let r = diagonal-cases n (n, n) h in let bad : ⊥ = omega (arith, r.1) in bad) (diagonal-AreDistinct n)

-- the model in which each world sees itself too
abbrev reflexive : FiniteModel → FiniteModel
reflexive m = record { worlds = m.worlds; pairs = diagonal m.worlds ++ m.pairs; facts = m.facts }

reflexive-cases : (m : FiniteModel) (w v : ℕ) → Sees (reflexive m) w v → (w ≡ v) ⊎ Sees m w v
reflexive-cases m w v h =
    ⊎_elim (λ own. inl (diagonal-cases m.worlds (w, v) own).0) (λ s. inr s) (Contains-append_cases (diagonal m.worlds) m.pairs (w, v) h)

reflexive-own : (m : FiniteModel) (w : ℕ) → w < m.worlds → Sees (reflexive m) w w
reflexive-own m w l = Contains-append_left (diagonal m.worlds) m.pairs (w, w) (diagonal-Contains m.worlds w l)

reflexive-old : (m : FiniteModel) (w v : ℕ) → Sees m w v → Sees (reflexive m) w v
reflexive-old m w v s = Contains-append_right (diagonal m.worlds) m.pairs (w, v) s

reflexive-IsWellFormed : (m : FiniteModel) → Class GL m → IsWellFormed (reflexive m)
reflexive-IsWellFormed m class = record {
  inhabited = class.well_formed.inhabited;
  pairs_within =
      All-append (λ p. (p.0 < m.worlds) × (p.1 < m.worlds)) (diagonal m.worlds) m.pairs
      (All-members (λ p. (p.0 < m.worlds) × (p.1 < m.worlds)) (diagonal m.worlds) (λ p h. let r = diagonal-cases m.worlds p h in (r.1, r.2)))
      class.well_formed.pairs_within;
  pairs_distinct =
      AreDistinct-append (diagonal m.worlds) m.pairs (diagonal-AreDistinct m.worlds) class.well_formed.pairs_distinct
      (λ p own old. class.frame.1 p.0 (subst (λ v. Sees m p.0 v) (sym (diagonal-cases m.worlds p own).0) old));
  facts_within = class.well_formed.facts_within;
  facts_distinct = class.well_formed.facts_distinct;
}

-- the reflexive closure of a model of GL is one of Grz
reflexive-Class : (m : FiniteModel) → Class GL m → Class Grz (reflexive m)
reflexive-Class m class = record {
  well_formed = reflexive-IsWellFormed m class;
  frame = (
    λ w l. reflexive-own m w l,
    λ u v w first second.
        ⊎_elim
        (λ same. subst (λ x. Sees (reflexive m) x w) (sym same) second)
        (λ s.
        ⊎_elim
        (λ same. subst (λ x. Sees (reflexive m) u x) same first)
        (λ t. reflexive-old m u w (class.frame.0 u v w s t))
        (reflexive-cases m v w second))
        (reflexive-cases m u v first),
    λ v w first second.
        ⊎_elim
        (λ same. same)
        (λ s.
        ⊎_elim
        (λ same. sym same)
        (λ t. absurd (class.frame.1 v (class.frame.0 v w v s t)))
        (reflexive-cases m w v second))
        (reflexive-cases m v w first),
  );
}

reflexive-IsReflexiveClosure : (m : FiniteModel) → Class GL m → IsReflexiveClosure (reflexive m) m
reflexive-IsReflexiveClosure m class = record {
  relation = λ w v l. (
    reflexive-cases m w v,
    λ h. ⊎_elim (λ same. subst (λ x. Sees (reflexive m) w x) same (reflexive-own m w l)) (λ s. reflexive-old m w v s) h,
  );
  within = λ w v s. seen_below (reflexive m) (reflexive-IsWellFormed m class) w v s;
  facts = λ w p. (λ h. h, λ h. h);
}

-- whether the pair is of different worlds
abbrev is_strict : ℕ × ℕ → Bool
is_strict p = not (p.0 == p.1)

-- the model in which no world sees itself
abbrev strict : FiniteModel → FiniteModel
strict n = record { worlds = n.worlds; pairs = filter is_strict n.pairs; facts = n.facts }

strict-cases : (n : FiniteModel) (w v : ℕ) → Sees (strict n) w v → Sees n w v × (¬ (w ≡ v))
strict-cases n w v h =
    let r = Contains-filter_cases is_strict n.pairs (w, v) h in
    (r.0, (Decides-not (w == v) (Decides-eqb w v)).0 r.1)

strict-Sees : (n : FiniteModel) (w v : ℕ) → Sees n w v → ¬ (w ≡ v) → Sees (strict n) w v
strict-Sees n w v s apart = Contains-filter is_strict n.pairs (w, v) s ((Decides-not (w == v) (Decides-eqb w v)).1 apart)

-- the part of a model of Grz between different worlds is a model of GL
strict-Class : (n : FiniteModel) → Class Grz n → Class GL (strict n)
strict-Class n class = record {
  well_formed = record {
    inhabited = class.well_formed.inhabited;
    pairs_within = All-filter is_strict (λ p. (p.0 < n.worlds) × (p.1 < n.worlds)) n.pairs class.well_formed.pairs_within;
    pairs_distinct = AreDistinct-filter is_strict n.pairs class.well_formed.pairs_distinct;
    facts_within = class.well_formed.facts_within;
    facts_distinct = class.well_formed.facts_distinct;
  };
  frame = (
    λ u v w first second.
        let s = strict-cases n u v first in
        let t = strict-cases n v w second in
        strict-Sees n u w (class.frame.1 u v w s.0 t.0)
        (λ same. s.1 (class.frame.2 u v s.0 (subst (λ x. Sees n v x) (sym same) t.0))),
    λ w own. (strict-cases n w w own).1 refl,
  );
}

strict-IsReflexiveClosure : (n : FiniteModel) → Class Grz n → IsReflexiveClosure n (strict n)
strict-IsReflexiveClosure n class = record {
  relation = λ w v l. (
    λ s. apart_or_same w v s (w == v) refl,
    λ h. ⊎_elim (λ same. subst (λ x. Sees n w x) same (class.frame.0 w l)) (λ s. (strict-cases n w v s).0) h,
  );
  within = λ w v s. seen_below n class.well_formed w v s;
  facts = λ w p. (λ h. h, λ h. h);
}
  where
    apart_or_same : (w v : ℕ) → Sees n w v → (t : Bool) → (w == v) ≡ t → (w ≡ v) ⊎ Sees (strict n) w v
    apart_or_same w v s true e = inl ((Decides-eqb w v).0 e)
    apart_or_same w v s false e = inr (strict-Sees n w v s (λ same. false≢true (sym e ∙ (Decides-eqb w v).1 same)))

pub Valid-boxdot : (a : Formula) → Valid Grz a ↔ Valid GL (boxdot a)
Valid-boxdot a = (
  λ valid m class w l. (IsTrueAt-boxdot (reflexive m) m (reflexive-IsReflexiveClosure m class) a w l).0 (valid (reflexive m) (reflexive-Class m class) w l),
  λ valid n class w l. (IsTrueAt-boxdot n (strict n) (strict-IsReflexiveClosure n class) a w l).1 (valid (strict n) (strict-Class n class) w l),
)
