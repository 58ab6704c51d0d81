-- Formulas that tell worlds apart which aren't alike (Hennessy and Milner; Blackburn, de Rijke and Venema, section 2.2).
use Rattle.std.proofs.Common.{◌≡◌, ℕ, zero, suc, Bool, true, false, ◌==◌, ◌&&◌, ◌||◌, not, List, [], ◌∷◌, ◌⊎◌, inl, inr, ⊎_elim, refl, ap, subst, sym, ◌∙◌}
use Rattle.std.proofs.lemmas.Bool.{false≢true}
use Rattle.std.specs.Bool.{Decides}
use Rattle.std.specs.List.{Contains, list_all}
use Rattle.std.proofs.lemmas.Bool.Decides.{Decides-eqb}
use Rattle.lw_formula.specs.Formula.{Formula, letter, verum, neg, conj, poss}
use Rattle.lw_formula.specs.FiniteModel.{FiniteModel}
use Rattle.lw_formula.specs.Truth.{IsTrueAt, has_fact}
use Rattle.lw_formula.proofs.ListMembers.{Contains-nil, Contains-head, Contains-tail, Contains-cons_cases}
use Rattle.lw_formula.proofs.TruthTest.{has_fact-Contains}
use Rattle.lw_bisim.specs.Laws.{Tells}
use Rattle.lw_bisim.proofs.RoundTests.{has_letters_of, sees_like, follows, alike}

-- some formula is true at v and false at u
abbrev pub Differ : FiniteModel → ℕ → ℕ → Type 0
Differ m v u = (a : Formula) × Tells m a v u

flip : (m : FiniteModel) (v u : ℕ) → Differ m u v → Differ m v u
flip m v u d = (neg d.0, (d.1.1, λ n. n d.1.0))

and_false : (x y : Bool) → x && y ≡ false → (x ≡ false) ⊎ (y ≡ false)
and_false true y e = inr e
and_false false y e = inl refl

or_false : (x y : Bool) → x || y ≡ false → (x ≡ false) × (y ≡ false)
or_false true y e = absurd (false≢true (sym e))
or_false false y e = (refl, e)

implies_false : (x y : Bool) → not x || y ≡ false → (x ≡ true) × (y ≡ false)
implies_false true y e = (refl, e)
implies_false false y e = absurd (false≢true (sym e))

is_false : {P : Type 0} (x : Bool) → Decides x P → x ≡ false → ¬ P
is_false x d e p = false≢true (sym e ∙ d.1 p)

-- where not all pass a test, some member fails
some_fails : {X : Type 0} (f : X → Bool) (xs : List X) → list_all f xs ≡ false → (x : X) × Contains xs x × (f x ≡ false)
some_fails f [] e = absurd (false≢true (sym e))
some_fails f (x ∷ xs) e =
    ⊎_elim
    (λ first. (x, Contains-head x xs, first))
    (λ rest. let r = some_fails f xs rest in (r.0, Contains-tail x xs r.0 r.1, r.2))
    (and_false (f x) (list_all f xs) e)

letters_differ : (m : FiniteModel) (v u : ℕ) → has_letters_of m v u ≡ false → Differ m v u
letters_differ m v u e =
    let f = some_fails (λ f. not (f.0 == v) || has_fact m.facts u f.1) m.facts e in
    let b = implies_false (f.0.0 == v) (has_fact m.facts u f.0.1) f.2 in (
      letter f.0.1,
      (
        subst (λ w. Contains m.facts (w, f.0.1)) ((Decides-eqb f.0.0 v).0 b.0) f.1,
        is_false (has_fact m.facts u f.0.1) (has_fact-Contains m.facts u f.0.1) b.1,
      ),
    )

-- the formula is true at w and at none of the worlds that u sees
abbrev FailsAtSeen : FiniteModel → List (ℕ × ℕ) → ℕ → ℕ → Formula → Type 0
FailsAtSeen m ps u w a = IsTrueAt m w a × ((x : ℕ) → Contains ps (u, x) → ¬ IsTrueAt m x a)

fails_at_seen : (m : FiniteModel) (test : ℕ → ℕ → Bool) → ((w x : ℕ) → test w x ≡ false → Differ m w x) → (u w : ℕ) (ps : List (ℕ × ℕ)) → sees_like m test u ps w ≡ false → (a : Formula) × FailsAtSeen m ps u w a
fails_at_seen m test apart u w [] e = (verum, (tt, λ x h. absurd (Contains-nil (u, x) h)))
fails_at_seen m test apart u w (q ∷ qs) e =
    let b = or_false ((q.0 == u) && test w q.1) (sees_like m test u qs w) e in
    let rest = fails_at_seen m test apart u w qs b.1 in
    ⊎_elim
    (λ other. (
      rest.0,
      (
        rest.1.0,
        λ x h. ⊎_elim
            (λ same. absurd (is_false (q.0 == u) (Decides-eqb q.0 u) other (ap (λ r. r.0) same)))
            (λ later. rest.1.1 x later)
            (Contains-cons_cases q qs (u, x) h),
      ),
    ))
    (λ unlike. let d = apart w q.1 unlike in (
      conj d.0 rest.0,
      (
        (d.1.0, rest.1.0),
        λ x h t. ⊎_elim
            (λ same. d.1.1 (subst (λ y. IsTrueAt m y d.0) (sym (ap (λ r. r.1) same)) t.0))
            (λ later. rest.1.1 x later t.1)
            (Contains-cons_cases q qs (u, x) h),
      ),
    ))
    (and_false (q.0 == u) (test w q.1) b.0)

steps_differ : (m : FiniteModel) (test : ℕ → ℕ → Bool) → ((w x : ℕ) → test w x ≡ false → Differ m w x) → (v u : ℕ) → follows m test v u ≡ false → Differ m v u
steps_differ m test apart v u e =
    let p = some_fails (λ p. not (p.0 == v) || sees_like m test u m.pairs p.1) m.pairs e in
    let b = implies_false (p.0.0 == v) (sees_like m test u m.pairs p.0.1) p.2 in
    let a = fails_at_seen m test apart u p.0.1 m.pairs b.1 in (
      poss a.0,
      (
        (p.0.1, subst (λ w. Contains m.pairs (w, p.0.1)) ((Decides-eqb p.0.0 v).0 b.0) p.1, a.1.0),
        λ some. a.1.1 some.0 some.1 some.2,
      ),
    )

-- of worlds that aren't alike some formula is true at the first and false at the second
pub alike-Differ : (m : FiniteModel) (k v u : ℕ) → alike m k v u ≡ false → Differ m v u
alike-Differ m zero v u e =
    ⊎_elim (letters_differ m v u) (λ f. flip m v u (letters_differ m u v f)) (and_false (has_letters_of m v u) (has_letters_of m u v) e)
alike-Differ m (suc k) v u e =
    ⊎_elim
    (alike-Differ m k v u)
    (λ f. ⊎_elim
    (steps_differ m (alike m k) (alike-Differ m k) v u)
    (λ g. flip m v u (steps_differ m (alike m k) (alike-Differ m k) u v g))
    (and_false (follows m (alike m k) v u) (follows m (alike m k) u v) f))
    (and_false (alike m k v u) (follows m (alike m k) v u && follows m (alike m k) u v) e)
