-- The test of sameness decides equality of formulas.
use Rattle.std.proofs.Common.{◌≡◌, Bool, true, false, ◌&&◌, refl, ap, subst}
use Rattle.std.proofs.lemmas.Bool.{false≢true}
use Rattle.std.proofs.lemmas.Slice.Eq.{bytes_eq-Decides}
use Rattle.std.specs.Bool.{Decides}
use Rattle.lw_formula.specs.Formula.{Formula, letter, falsum, verum, neg, conj, disj, impl, equi, nec, poss, same_formula}

-- both parts of a test say yes
and_true : (x y : Bool) → x ≡ true → y ≡ true → (x && y) ≡ true
and_true true true p q = refl
and_true true false p q = q
and_true false y p q = p

-- two formulas of one connective are equal where both operands are
both : (f : Formula → Formula → Formula) {a b c d : Formula} → (x y : Bool) → (x ≡ true → a ≡ c) → (y ≡ true → b ≡ d) → (x && y) ≡ true → f a b ≡ f c d
both f true true p q e = λ i. f (p refl i) (q refl i)
both f true false p q e = absurd (false≢true e)
both f false y p q e = absurd (false≢true e)

-- where the test says yes, the formulas are equal
same_formula-true : (a b : Formula) → same_formula a b ≡ true → a ≡ b
same_formula-true (letter p) (letter q) e = ap letter ((bytes_eq-Decides p q).0 e)
same_formula-true falsum falsum e = refl
same_formula-true verum verum e = refl
same_formula-true (neg a) (neg c) e = ap neg (same_formula-true a c e)
same_formula-true (conj a b) (conj c d) e = both conj (same_formula a c) (same_formula b d) (same_formula-true a c) (same_formula-true b d) e
same_formula-true (disj a b) (disj c d) e = both disj (same_formula a c) (same_formula b d) (same_formula-true a c) (same_formula-true b d) e
same_formula-true (impl a b) (impl c d) e = both impl (same_formula a c) (same_formula b d) (same_formula-true a c) (same_formula-true b d) e
same_formula-true (equi a b) (equi c d) e = both equi (same_formula a c) (same_formula b d) (same_formula-true a c) (same_formula-true b d) e
same_formula-true (nec a) (nec c) e = ap nec (same_formula-true a c e)
same_formula-true (poss a) (poss c) e = ap poss (same_formula-true a c e)
same_formula-true _ _ e = absurd (false≢true e)

-- a formula is the same as itself
same_formula-refl : (a : Formula) → same_formula a a ≡ true
same_formula-refl (letter p) = (bytes_eq-Decides p p).1 refl
same_formula-refl falsum = refl
same_formula-refl verum = refl
same_formula-refl (neg a) = same_formula-refl a
same_formula-refl (conj a b) = and_true _ _ (same_formula-refl a) (same_formula-refl b)
same_formula-refl (disj a b) = and_true _ _ (same_formula-refl a) (same_formula-refl b)
same_formula-refl (impl a b) = and_true _ _ (same_formula-refl a) (same_formula-refl b)
same_formula-refl (equi a b) = and_true _ _ (same_formula-refl a) (same_formula-refl b)
same_formula-refl (nec a) = same_formula-refl a
same_formula-refl (poss a) = same_formula-refl a

pub same_formula-Decides : (a b : Formula) → Decides (same_formula a b) (a ≡ b)
same_formula-Decides a b = (same_formula-true a b, λ e. subst (λ c. same_formula a c ≡ true) e (same_formula-refl a))
