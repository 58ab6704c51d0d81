-- No formula of a pool is deeper than the place at which it stands.
use Rattle.std.proofs.Common.{◌≡◌, refl, ap, ℕ, suc, zero, ◌+◌, ◌≤◌, inl, inr, min, List, arith}
use Rattle.lw_formula.specs.Formula.{Formula, letter, falsum, verum, neg, conj, disj, impl, equi, nec, poss, depth, IsOperand}
use Rattle.lw_pool.specs.declared.id.FormId.{FormId}
use Rattle.lw_pool.specs.Region.{tree_at, IsLive, AreOperandsBelow}

-- each operand is no deeper than n
abbrev AreShallow : ℕ → Formula → Type 0
AreShallow n t = (c : Formula) → IsOperand c t → depth c ≤ n

shallow : (n : ℕ) (t : Formula) → AreShallow n t → depth t ≤ n + 1
shallow n (letter p) h = omega arith
shallow n falsum h = omega arith
shallow n verum h = omega arith
shallow n (neg a) h = omega (arith, h a refl)
shallow n (conj a b) h = omega (arith, h a (inl refl), h b (inr refl))
shallow n (disj a b) h = omega (arith, h a (inl refl), h b (inr refl))
shallow n (impl a b) h = omega (arith, h a (inl refl), h b (inr refl))
shallow n (equi a b) h = omega (arith, h a (inl refl), h b (inr refl))
shallow n (nec a) h = omega (arith, h a refl)
shallow n (poss a) h = omega (arith, h a refl)

without_operands : (t : Formula) → ((c : Formula) → IsOperand c t → ⊥) → depth t ≡ 0
without_operands (letter p) h = refl
without_operands falsum h = refl
without_operands verum h = refl
without_operands (neg a) h = absurd (h a refl)
without_operands (conj a b) h = absurd (h a (inl refl))
without_operands (disj a b) h = absurd (h a (inl refl))
without_operands (impl a b) h = absurd (h a (inl refl))
without_operands (equi a b) h = absurd (h a (inl refl))
without_operands (nec a) h = absurd (h a refl)
without_operands (poss a) h = absurd (h a refl)

module _ (ts : List Formula) (operands : AreOperandsBelow ts) where
  below : (n : ℕ) (a : FormId) → a.0 ≤ n → IsLive ts a → depth (tree_at ts a) ≤ n
  below zero a h live =
      let none : depth (tree_at ts a) ≡ 0 = without_operands (tree_at ts a) (λ c is. let o = operands a live c is in absurd (omega (arith, h, o.1))) in
      omega (arith, none)
  below (suc n) a h live =
      let within : depth (tree_at ts a) ≤ n + 1 = shallow n (tree_at ts a) (λ c is. let o = operands a live c is in
      let d : depth (tree_at ts o.0) ≤ n = below n o.0 (omega (arith, h, o.1)) (omega (arith, o.1, live)) in
      let e : depth (tree_at ts o.0) ≡ depth c = ap depth o.2 in
      omega (arith, d, e)) in
      omega (arith, within)

pub depth_fits : (ts : List Formula) (a : FormId) (greatest : ℕ) → AreOperandsBelow ts → IsLive ts a → a.0 ≤ greatest → min (depth (tree_at ts a)) greatest ≡ depth (tree_at ts a)
depth_fits ts a greatest operands live h = let d : depth (tree_at ts a) ≤ a.0 = below ts operands a.0 a (omega arith) live in omega (arith, d, h)
