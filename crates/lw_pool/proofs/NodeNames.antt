-- The letters of a region's formulas are names.
use Rattle.std.proofs.Common.{◌≡◌, ℕ, ◌<◌, inl, inr, List, [], ◌∷◌, ◌++◌, length, take, min, sym, subst, arith, length-append}
use Rattle.std.specs.Bool.{IsTrue}
use Rattle.std.proofs.lemmas.Bool.{cases_order}
use Rattle.std.proofs.lemmas.List.{get_or_append_left, get_or_push, get_or-take, length-take}
use Rattle.lw_formula.specs.Formula.{Formula, falsum}
use Rattle.lw_formula.specs.Name.{is_name}
use Rattle.lw_formula.specs.Variables.{HasNames}
use Rattle.lw_pool.specs.declared.node.Node.{Node}
use Rattle.lw_pool.specs.declared.node.Node.TheVariants.{Var, Bot, Top, Not, And, Or, Imp, Iff, Nec, Poss}
use Rattle.lw_pool.specs.Region.{AreChildrenBelow, AreNamed, tree_of_node}
use Rattle.lw_pool.specs.Private.NodeRegion.{IsNamed}

-- a node's formula has its own letter and those of its children
pub node_names : (ts : List Formula) (n : Node) → AreNamed ts → AreChildrenBelow (length ts) n → IsNamed n → HasNames (tree_of_node ts n)
node_names ts (Var q) h b is p o = subst (λ (x : List ℕ). IsTrue (is_name x)) (sym o) is
node_names ts Bot h b is p o = absurd o
node_names ts Top h b is p o = absurd o
node_names ts (Not a) h b is p o = h a b p o
node_names ts (And a c) h b is p o = elim o [ inl x ↦ h a b.0 p x | inr y ↦ h c b.1 p y ]
node_names ts (Or a c) h b is p o = elim o [ inl x ↦ h a b.0 p x | inr y ↦ h c b.1 p y ]
node_names ts (Imp a c) h b is p o = elim o [ inl x ↦ h a b.0 p x | inr y ↦ h c b.1 p y ]
node_names ts (Iff a c) h b is p o = elim o [ inl x ↦ h a b.0 p x | inr y ↦ h c b.1 p y ]
node_names ts (Nec a) h b is p o = h a b p o
node_names ts (Poss a) h b is p o = h a b p o

pub names_push : (ts : List Formula) (t : Formula) → AreNamed ts → HasNames t → AreNamed (ts ++ t ∷ [])
names_push ts t h k a l =
    elim (cases_order a.0 (length ts)) [
      | inl e ↦ subst HasNames (sym (get_or_push ts t falsum a.0 (sym e))) k
      | inr q ↦ elim q [
        | inl m ↦ subst HasNames (sym (get_or_append_left ts (t ∷ []) falsum a.0 m)) (h a m)
        | inr m ↦ absurd (omega (arith, length-append ts (t ∷ [])))
      ]
    ]

pub names_take : (k : ℕ) (ts : List Formula) → AreNamed ts → AreNamed (take k ts)
names_take k ts h a l =
    let n : length (take k ts) ≡ min k (length ts) = length-take k ts in
    let low : a.0 < k = omega arith in
    let inside : a.0 < length ts = omega arith in
    subst HasNames (sym (get_or-take k ts a.0 falsum low)) (h a inside)
