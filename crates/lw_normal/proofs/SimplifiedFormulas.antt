-- Each row of simplification gives a formula that is true where the row's form is, with no more nodes.
use Rattle.std.proofs.Common.{◌≡◌, ℕ, ◌≤◌, true, not, ◌&&◌, ◌||◌, ◌==◌, [], ◌↔◌, refl, sym, ap, ◌∙◌, arith}
use Rattle.std.specs.Bool.{beq}
use Rattle.std.specs.List.{list_all, list_any}
use Rattle.std.proofs.lemmas.Bool.{cond_both}
use Rattle.lw_formula.specs.Formula.{Formula, letter, falsum, verum, neg, conj, disj, impl, equi, nec, poss, nodes, same_formula}
use Rattle.lw_formula.specs.FiniteModel.{FiniteModel}
use Rattle.lw_formula.specs.Truth.{IsTrueAt, true_at}
use Rattle.lw_formula.proofs.SameFormulas.{same_formula-Decides}
use Rattle.lw_normal.specs.Simplification.{not_of, and_of, or_of, imp_of, iff_of, box_of, dia_of, simplify}
use Rattle.lw_normal.proofs.TruthTables as table
use Rattle.lw_normal.proofs.NormalFormTruth.{true_alike}

-- the result is true where the form is, and has no more nodes
record IsFair (m : FiniteModel) (form result : Formula) : Type 0 where
  truth : (w : ℕ) → true_at m w result ≡ true_at m w form
  few : nodes result ≤ nodes form

-- the same formula
IsFair-refl : (m : FiniteModel) (a : Formula) → IsFair m a a
IsFair-refl m a = record { truth = λ w. refl; few = omega arith }

-- a test that says yes makes the truth values equal
value_of : (m : FiniteModel) (a b : Formula) → same_formula a b ≡ true → (w : ℕ) → true_at m w a ≡ true_at m w b
value_of m a b fits w = ap (true_at m w) ((same_formula-Decides a b).0 fits)

not_of-IsFair : (m : FiniteModel) (a : Formula) → IsFair m (neg a) (not_of a)
not_of-IsFair m (letter p) = IsFair-refl m (neg (letter p))
not_of-IsFair m falsum = record { truth = λ w. refl; few = omega arith }
not_of-IsFair m verum = record { truth = λ w. refl; few = omega arith }
not_of-IsFair m (neg a) = record { truth = λ w. sym (table.not_not (true_at m w a)); few = omega arith }
not_of-IsFair m (conj a b) = IsFair-refl m (neg (conj a b))
not_of-IsFair m (disj a b) = IsFair-refl m (neg (disj a b))
not_of-IsFair m (impl a b) = IsFair-refl m (neg (impl a b))
not_of-IsFair m (equi a b) = IsFair-refl m (neg (equi a b))
not_of-IsFair m (nec a) = IsFair-refl m (neg (nec a))
not_of-IsFair m (poss a) = IsFair-refl m (neg (poss a))

and_of-IsFair : (m : FiniteModel) (x y : Formula) → IsFair m (conj x y) (and_of x y)
and_of-IsFair m x y =
    let P : Formula → Type 0 = IsFair m (conj x y) in
    cond_both (same_formula x falsum) falsum _ P
    (λ fits. record { truth = λ w. sym (ap (λ a. a && true_at m w y) (value_of m x falsum fits w)); few = omega arith })
    (λ _. cond_both (same_formula y falsum) falsum _ P
    (λ fits. record { truth = λ w. table.and_false (true_at m w x) ∙ ap (λ b. true_at m w x && b) (sym (value_of m y falsum fits w)); few = omega arith })
    (λ _. cond_both (same_formula x verum) y _ P
    (λ fits. record { truth = λ w. sym (ap (λ a. a && true_at m w y) (value_of m x verum fits w)); few = omega arith })
    (λ _. cond_both (same_formula y verum) x _ P
    (λ fits. record { truth = λ w. table.and_true (true_at m w x) ∙ ap (λ b. true_at m w x && b) (sym (value_of m y verum fits w)); few = omega arith })
    (λ _. cond_both (same_formula x y) x _ P
    (λ fits. record { truth = λ w. table.and_same (true_at m w x) ∙ ap (λ b. true_at m w x && b) (value_of m x y fits w); few = omega arith })
    (λ _. cond_both (same_formula x (neg y)) falsum _ P
    (λ fits. record { truth = λ w. table.not_and_same (true_at m w y) ∙ ap (λ a. a && true_at m w y) (sym (value_of m x (neg y) fits w)); few = omega arith })
    (λ _. cond_both (same_formula y (neg x)) falsum (conj x y) P
    (λ fits. record { truth = λ w. table.and_not (true_at m w x) ∙ ap (λ b. true_at m w x && b) (sym (value_of m y (neg x) fits w)); few = omega arith })
    (λ _. IsFair-refl m (conj x y))))))))

or_of-IsFair : (m : FiniteModel) (x y : Formula) → IsFair m (disj x y) (or_of x y)
or_of-IsFair m x y =
    let P : Formula → Type 0 = IsFair m (disj x y) in
    cond_both (same_formula x verum) verum _ P
    (λ fits. record { truth = λ w. sym (ap (λ a. a || true_at m w y) (value_of m x verum fits w)); few = omega arith })
    (λ _. cond_both (same_formula y verum) verum _ P
    (λ fits. record { truth = λ w. table.or_true (true_at m w x) ∙ ap (λ b. true_at m w x || b) (sym (value_of m y verum fits w)); few = omega arith })
    (λ _. cond_both (same_formula x falsum) y _ P
    (λ fits. record { truth = λ w. sym (ap (λ a. a || true_at m w y) (value_of m x falsum fits w)); few = omega arith })
    (λ _. cond_both (same_formula y falsum) x _ P
    (λ fits. record { truth = λ w. table.or_false (true_at m w x) ∙ ap (λ b. true_at m w x || b) (sym (value_of m y falsum fits w)); few = omega arith })
    (λ _. cond_both (same_formula x y) x _ P
    (λ fits. record { truth = λ w. table.or_same (true_at m w x) ∙ ap (λ b. true_at m w x || b) (value_of m x y fits w); few = omega arith })
    (λ _. cond_both (same_formula x (neg y)) verum _ P
    (λ fits. record { truth = λ w. table.not_or_same (true_at m w y) ∙ ap (λ a. a || true_at m w y) (sym (value_of m x (neg y) fits w)); few = omega arith })
    (λ _. cond_both (same_formula y (neg x)) verum (disj x y) P
    (λ fits. record { truth = λ w. table.or_not (true_at m w x) ∙ ap (λ b. true_at m w x || b) (sym (value_of m y (neg x) fits w)); few = omega arith })
    (λ _. IsFair-refl m (disj x y))))))))

imp_of-IsFair : (m : FiniteModel) (x y : Formula) → IsFair m (impl x y) (imp_of x y)
imp_of-IsFair m x y =
    let P : Formula → Type 0 = IsFair m (impl x y) in
    let negated = not_of-IsFair m x in
    cond_both (same_formula x falsum) verum _ P
    (λ fits. record { truth = λ w. sym (ap (λ a. not a || true_at m w y) (value_of m x falsum fits w)); few = omega arith })
    (λ _. cond_both (same_formula y verum) verum _ P
    (λ fits. record { truth = λ w. table.or_true (not (true_at m w x)) ∙ ap (λ b. not (true_at m w x) || b) (sym (value_of m y verum fits w)); few = omega arith })
    (λ _. cond_both (same_formula x y) verum _ P
    (λ fits. record { truth = λ w. table.not_or_same (true_at m w x) ∙ ap (λ b. not (true_at m w x) || b) (value_of m x y fits w); few = omega arith })
    (λ _. cond_both (same_formula x verum) y _ P
    (λ fits. record { truth = λ w. sym (ap (λ a. not a || true_at m w y) (value_of m x verum fits w)); few = omega arith })
    (λ _. cond_both (same_formula y falsum) (not_of x) (impl x y) P
    (λ fits. record {
      truth = λ w. negated.truth w ∙ table.or_false (not (true_at m w x)) ∙ ap (λ b. not (true_at m w x) || b) (sym (value_of m y falsum fits w));
      few = omega (arith, negated.few);
    })
    (λ _. IsFair-refl m (impl x y))))))

iff_of-IsFair : (m : FiniteModel) (x y : Formula) → IsFair m (equi x y) (iff_of x y)
iff_of-IsFair m x y =
    let P : Formula → Type 0 = IsFair m (equi x y) in
    let left = not_of-IsFair m x in
    let right = not_of-IsFair m y in
    cond_both (same_formula x y) verum _ P
    (λ fits. record { truth = λ w. table.beq_same (true_at m w x) ∙ ap (λ b. beq (true_at m w x) b) (value_of m x y fits w); few = omega arith })
    (λ _. cond_both (same_formula x verum) y _ P
    (λ fits. record { truth = λ w. table.true_beq (true_at m w y) ∙ ap (λ a. beq a (true_at m w y)) (sym (value_of m x verum fits w)); few = omega arith })
    (λ _. cond_both (same_formula y verum) x _ P
    (λ fits. record { truth = λ w. table.beq_true (true_at m w x) ∙ ap (λ b. beq (true_at m w x) b) (sym (value_of m y verum fits w)); few = omega arith })
    (λ _. cond_both (same_formula x falsum) (not_of y) _ P
    (λ fits. record {
      truth = λ w. right.truth w ∙ table.false_beq (true_at m w y) ∙ ap (λ a. beq a (true_at m w y)) (sym (value_of m x falsum fits w));
      few = omega (arith, right.few);
    })
    (λ _. cond_both (same_formula y falsum) (not_of x) (equi x y) P
    (λ fits. record {
      truth = λ w. left.truth w ∙ table.beq_false (true_at m w x) ∙ ap (λ b. beq (true_at m w x) b) (sym (value_of m y falsum fits w));
      few = omega (arith, left.few);
    })
    (λ _. IsFair-refl m (equi x y))))))

box_of-IsFair : (m : FiniteModel) (x : Formula) → IsFair m (nec x) (box_of x)
box_of-IsFair m x =
    cond_both (same_formula x verum) verum (nec x) (IsFair m (nec x))
    (λ fits. record {
      truth = λ w. table.list_all_true (λ p. not (p.0 == w) || true_at m p.1 x) (λ p. table.or_true (not (p.0 == w)) ∙ ap (λ b. not (p.0 == w) || b) (sym (value_of m x verum fits p.1))) m.pairs;
      few = omega arith;
    })
    (λ _. IsFair-refl m (nec x))

dia_of-IsFair : (m : FiniteModel) (x : Formula) → IsFair m (poss x) (dia_of x)
dia_of-IsFair m x =
    cond_both (same_formula x falsum) falsum (poss x) (IsFair m (poss x))
    (λ fits. record {
      truth = λ w. table.list_any_false (λ p. (p.0 == w) && true_at m p.1 x) (λ p. table.and_false (p.0 == w) ∙ ap (λ b. (p.0 == w) && b) (sym (value_of m x falsum fits p.1))) m.pairs;
      few = omega arith;
    })
    (λ _. IsFair-refl m (poss x))

-- the operands may be simplified first
after : (m : FiniteModel) (form inner result : Formula) → ((w : ℕ) → true_at m w inner ≡ true_at m w form) → nodes inner ≤ nodes form → IsFair m inner result → IsFair m form result
after m form inner result truth few fair = record { truth = λ w. fair.truth w ∙ truth w; few = omega (arith, few, fair.few) }

simplify-IsFair : (m : FiniteModel) (a : Formula) → IsFair m a (simplify a)
simplify-IsFair m (letter p) = IsFair-refl m (letter p)
simplify-IsFair m falsum = IsFair-refl m falsum
simplify-IsFair m verum = IsFair-refl m verum
simplify-IsFair m (neg a) =
    let x = simplify-IsFair m a in
    after m (neg a) (neg (simplify a)) (not_of (simplify a)) (λ w. ap not (x.truth w)) (omega (arith, x.few)) (not_of-IsFair m (simplify a))
simplify-IsFair m (conj a b) =
    let x = simplify-IsFair m a in
    let y = simplify-IsFair m b in
    after m (conj a b) (conj (simplify a) (simplify b)) (and_of (simplify a) (simplify b)) (λ w i. x.truth w i && y.truth w i) (omega (arith, x.few, y.few)) (and_of-IsFair m (simplify a) (simplify b))
simplify-IsFair m (disj a b) =
    let x = simplify-IsFair m a in
    let y = simplify-IsFair m b in
    after m (disj a b) (disj (simplify a) (simplify b)) (or_of (simplify a) (simplify b)) (λ w i. x.truth w i || y.truth w i) (omega (arith, x.few, y.few)) (or_of-IsFair m (simplify a) (simplify b))
simplify-IsFair m (impl a b) =
    let x = simplify-IsFair m a in
    let y = simplify-IsFair m b in
    after m (impl a b) (impl (simplify a) (simplify b)) (imp_of (simplify a) (simplify b)) (λ w i. not (x.truth w i) || y.truth w i) (omega (arith, x.few, y.few)) (imp_of-IsFair m (simplify a) (simplify b))
simplify-IsFair m (equi a b) =
    let x = simplify-IsFair m a in
    let y = simplify-IsFair m b in
    after m (equi a b) (equi (simplify a) (simplify b)) (iff_of (simplify a) (simplify b)) (λ w i. beq (x.truth w i) (y.truth w i)) (omega (arith, x.few, y.few)) (iff_of-IsFair m (simplify a) (simplify b))
simplify-IsFair m (nec a) =
    let x = simplify-IsFair m a in
    after m (nec a) (nec (simplify a)) (box_of (simplify a)) (λ w i. list_all (λ p. not (p.0 == w) || x.truth p.1 i) m.pairs) (omega (arith, x.few)) (box_of-IsFair m (simplify a))
simplify-IsFair m (poss a) =
    let x = simplify-IsFair m a in
    after m (poss a) (poss (simplify a)) (dia_of (simplify a)) (λ w i. list_any (λ p. (p.0 == w) && x.truth p.1 i) m.pairs) (omega (arith, x.few)) (dia_of-IsFair m (simplify a))

pub simplify-IsTrueAt : (m : FiniteModel) (w : ℕ) (a : Formula) → IsTrueAt m w (simplify a) ↔ IsTrueAt m w a
simplify-IsTrueAt m w a = true_alike m w (simplify a) a ((simplify-IsFair m a).truth w)

-- of the nodes the model says nothing: one with no world will do
pub nodes-simplify : (a : Formula) → nodes (simplify a) ≤ nodes a
nodes-simplify a = (simplify-IsFair (record { worlds = 0; pairs = []; facts = [] }) a).few
