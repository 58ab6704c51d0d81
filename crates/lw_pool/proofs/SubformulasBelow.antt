-- What stands below a formula of a region: its subformulas.
use Rattle.std.proofs.Common.{◌≡◌, ℕ, ◌+◌, ◌<◌, ◌≤◌, suc, zero, ◌⊎◌, inl, inr, List, refl, sym, ap, subst, arith}
use Rattle.lw_formula.specs.Formula.{Formula, letter, falsum, verum, neg, conj, disj, impl, equi, nec, poss, IsOperand, IsSubformula}
use Rattle.lw_formula.proofs.SubformulaLists.{IsSubformula-refl}
use Rattle.lw_pool.specs.declared.id.FormId.{FormId}
use Rattle.lw_pool.specs.Region.{tree_at, IsLive, AreIdsExact, AreOperandsBelow}

-- a subformula is the formula or a subformula of an operand
abbrev pub Within : Formula → Formula → Type 0
Within c a = (c ≡ a) ⊎ ((d : Formula) × IsOperand d a × IsSubformula c d)

pub subformula_cases : (c a : Formula) → IsSubformula c a → Within c a
subformula_cases c (letter p) s = inl s
subformula_cases c falsum s = inl s
subformula_cases c verum s = inl s
subformula_cases c (neg a) s = elim s [ inl e ↦ inl e | inr t ↦ inr (a, refl, t) ]
subformula_cases c (conj a b) s = elim s [ inl e ↦ inl e | inr t ↦ elim t [ inl u ↦ inr (a, inl refl, u) | inr u ↦ inr (b, inr refl, u) ] ]
subformula_cases c (disj a b) s = elim s [ inl e ↦ inl e | inr t ↦ elim t [ inl u ↦ inr (a, inl refl, u) | inr u ↦ inr (b, inr refl, u) ] ]
subformula_cases c (impl a b) s = elim s [ inl e ↦ inl e | inr t ↦ elim t [ inl u ↦ inr (a, inl refl, u) | inr u ↦ inr (b, inr refl, u) ] ]
subformula_cases c (equi a b) s = elim s [ inl e ↦ inl e | inr t ↦ elim t [ inl u ↦ inr (a, inl refl, u) | inr u ↦ inr (b, inr refl, u) ] ]
subformula_cases c (nec a) s = elim s [ inl e ↦ inl e | inr t ↦ inr (a, refl, t) ]
subformula_cases c (poss a) s = elim s [ inl e ↦ inl e | inr t ↦ inr (a, refl, t) ]

-- an operand is a subformula
itself : (c a : Formula) → c ≡ a → IsSubformula c a
itself c a e = subst (IsSubformula c) e (IsSubformula-refl c)

pub operand_within : (c a : Formula) → IsOperand c a → IsSubformula c a
operand_within c (letter p) o = absurd o
operand_within c falsum o = absurd o
operand_within c verum o = absurd o
operand_within c (neg a) o = inr (itself c a o)
operand_within c (conj a b) o = elim o [ inl e ↦ inr (inl (itself c a e)) | inr e ↦ inr (inr (itself c b e)) ]
operand_within c (disj a b) o = elim o [ inl e ↦ inr (inl (itself c a e)) | inr e ↦ inr (inr (itself c b e)) ]
operand_within c (impl a b) o = elim o [ inl e ↦ inr (inl (itself c a e)) | inr e ↦ inr (inr (itself c b e)) ]
operand_within c (equi a b) o = elim o [ inl e ↦ inr (inl (itself c a e)) | inr e ↦ inr (inr (itself c b e)) ]
operand_within c (nec a) o = inr (itself c a o)
operand_within c (poss a) o = inr (itself c a o)

-- each subformula has an id, which is no greater
abbrev pub HasIdUpTo : List Formula → FormId → Formula → Type 0
HasIdUpTo ts a c = (b : FormId) × (b.0 ≤ a.0) × (tree_at ts b ≡ c)

below_bound : (ts : List Formula) → AreOperandsBelow ts → (n : ℕ) (a : FormId) → a.0 < n → IsLive ts a → (c : Formula) → IsSubformula c (tree_at ts a) → HasIdUpTo ts a c
below_bound ts o zero a l v c s = absurd (omega arith)
below_bound ts o (suc n) a l v c s =
    elim (subformula_cases c (tree_at ts a) s) [
      | inl e ↦ (a, omega arith, sym e)
      | inr t ↦
          let b = o a v t.0 t.1 in
          let r : HasIdUpTo ts b.0 c = below_bound ts o n b.0 (omega (arith, b.1)) (omega (arith, b.1)) c (subst (IsSubformula c) (sym b.2) t.2) in
          (r.0, omega (arith, r.1, b.1), r.2)
    ]

pub subformula_id : (ts : List Formula) → AreOperandsBelow ts → (a : FormId) → IsLive ts a → (c : Formula) → IsSubformula c (tree_at ts a) → HasIdUpTo ts a c
subformula_id ts o a v c s = below_bound ts o (a.0 + 1) a (omega arith) v c s

-- an id of a subformula is no greater
pub subformula_le : (ts : List Formula) → AreIdsExact ts → AreOperandsBelow ts → (a b : FormId) → IsLive ts a → IsLive ts b → IsSubformula (tree_at ts b) (tree_at ts a) → b.0 ≤ a.0
subformula_le ts x o a b va vb s =
    let r : HasIdUpTo ts a (tree_at ts b) = subformula_id ts o a va (tree_at ts b) s in
    let e : r.0 ≡ b = x r.0 b (omega (arith, r.1)) vb r.2 in
    let n : r.0.0 ≡ b.0 = ap (λ (k : FormId). k.0) e in
    omega (arith, n, r.1)
