-- Children of nodes are the operands of their formulas.
use Rattle.std.proofs.Common.{◌≡◌, ℕ, ◌⊎◌, ◌<◌, inl, inr, List, refl, sym, ap, subst}
use Rattle.lw_formula.specs.Formula.{Formula, IsOperand}
use Rattle.lw_pool.specs.declared.id.FormId.{FormId}
use Rattle.lw_pool.specs.declared.node.Node.{Node}
use Rattle.lw_pool.specs.declared.node.Node.TheVariants.{Var, Bot, Top, Not, And, Or, Imp, Iff, Nec, Poss}
use Rattle.lw_pool.specs.Region.{tree_at, AreChildrenBelow, tree_of_node}

-- the id is a child of the node
abbrev pub IsChild : FormId → Node → Type 0
IsChild c (Not a) = c ≡ a
IsChild c (And a b) = (c ≡ a) ⊎ (c ≡ b)
IsChild c (Or a b) = (c ≡ a) ⊎ (c ≡ b)
IsChild c (Imp a b) = (c ≡ a) ⊎ (c ≡ b)
IsChild c (Iff a b) = (c ≡ a) ⊎ (c ≡ b)
IsChild c (Nec a) = c ≡ a
IsChild c (Poss a) = c ≡ a
IsChild c _ = ⊥

-- an operand is the formula of a child
abbrev pub OfChild : List Formula → Node → Formula → Type 0
OfChild ts n c = (b : FormId) × IsChild b n × (tree_at ts b ≡ c)

pub child_of_operand : (ts : List Formula) (n : Node) (c : Formula) → IsOperand c (tree_of_node ts n) → OfChild ts n c
child_of_operand ts (Var p) c o = absurd o
child_of_operand ts Bot c o = absurd o
child_of_operand ts Top c o = absurd o
child_of_operand ts (Not a) c o = (a, refl, sym o)
child_of_operand ts (And a b) c o = elim o [ inl e ↦ (a, inl refl, sym e) | inr e ↦ (b, inr refl, sym e) ]
child_of_operand ts (Or a b) c o = elim o [ inl e ↦ (a, inl refl, sym e) | inr e ↦ (b, inr refl, sym e) ]
child_of_operand ts (Imp a b) c o = elim o [ inl e ↦ (a, inl refl, sym e) | inr e ↦ (b, inr refl, sym e) ]
child_of_operand ts (Iff a b) c o = elim o [ inl e ↦ (a, inl refl, sym e) | inr e ↦ (b, inr refl, sym e) ]
child_of_operand ts (Nec a) c o = (a, refl, sym o)
child_of_operand ts (Poss a) c o = (a, refl, sym o)

pub operand_of_child : (ts : List Formula) (n : Node) (b : FormId) → IsChild b n → IsOperand (tree_at ts b) (tree_of_node ts n)
operand_of_child ts (Var p) c o = absurd o
operand_of_child ts Bot c o = absurd o
operand_of_child ts Top c o = absurd o
operand_of_child ts (Not a) c o = ap (tree_at ts) o
operand_of_child ts (And a b) c o = elim o [ inl e ↦ inl (ap (tree_at ts) e) | inr e ↦ inr (ap (tree_at ts) e) ]
operand_of_child ts (Or a b) c o = elim o [ inl e ↦ inl (ap (tree_at ts) e) | inr e ↦ inr (ap (tree_at ts) e) ]
operand_of_child ts (Imp a b) c o = elim o [ inl e ↦ inl (ap (tree_at ts) e) | inr e ↦ inr (ap (tree_at ts) e) ]
operand_of_child ts (Iff a b) c o = elim o [ inl e ↦ inl (ap (tree_at ts) e) | inr e ↦ inr (ap (tree_at ts) e) ]
operand_of_child ts (Nec a) c o = ap (tree_at ts) o
operand_of_child ts (Poss a) c o = ap (tree_at ts) o

abbrev IsBelow : ℕ → FormId → Type 0
IsBelow k a = a.0 < k

pub child_below : (k : ℕ) (n : Node) (b : FormId) → AreChildrenBelow k n → IsChild b n → b.0 < k
child_below k (Var p) c h o = absurd o
child_below k Bot c h o = absurd o
child_below k Top c h o = absurd o
child_below k (Not a) c h o = subst (IsBelow k) (sym o) h
child_below k (And a b) c h o = elim o [ inl e ↦ subst (IsBelow k) (sym e) h.0 | inr e ↦ subst (IsBelow k) (sym e) h.1 ]
child_below k (Or a b) c h o = elim o [ inl e ↦ subst (IsBelow k) (sym e) h.0 | inr e ↦ subst (IsBelow k) (sym e) h.1 ]
child_below k (Imp a b) c h o = elim o [ inl e ↦ subst (IsBelow k) (sym e) h.0 | inr e ↦ subst (IsBelow k) (sym e) h.1 ]
child_below k (Iff a b) c h o = elim o [ inl e ↦ subst (IsBelow k) (sym e) h.0 | inr e ↦ subst (IsBelow k) (sym e) h.1 ]
child_below k (Nec a) c h o = subst (IsBelow k) (sym o) h
child_below k (Poss a) c h o = subst (IsBelow k) (sym o) h
