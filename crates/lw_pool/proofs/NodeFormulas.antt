-- The list of the formulas of a list of nodes.
use Rattle.std.proofs.Common.{◌≡◌, ℕ, ◌+◌, ◌<◌, ◌≤◌, suc, zero, List, [], ◌∷◌, ◌++◌, length, get_or, take, refl, sym, ap, subst, ◌∙◌, arith, append_assoc, length-append}
use Rattle.std.proofs.lemmas.List.{append-nil, get_or_append_left, get_or_at}
use Rattle.lw_formula.specs.Formula.{Formula, falsum, neg, conj, disj, impl, equi, nec, poss}
use Rattle.lw_pool.specs.declared.id.FormId.{FormId}
use Rattle.lw_pool.specs.declared.node.Node.{Node}
use Rattle.lw_pool.specs.declared.node.Node.TheVariants.{Var, Bot, Top, Not, And, Or, Imp, Iff, Nec, Poss}
use Rattle.lw_pool.specs.Region.{tree_at, AreChildrenBelow, tree_of_node}
use Rattle.lw_pool.specs.Private.NodeRegion.{trees_from, trees, AreOrderedFrom}

pub length-trees_from : (ts : List Formula) (ns : List Node) → length (trees_from ts ns) ≡ length ts + length ns
length-trees_from ts [] = omega arith
length-trees_from ts (n ∷ ns) = omega (arith, length-trees_from (ts ++ tree_of_node ts n ∷ []) ns, length-append ts (tree_of_node ts n ∷ []))

pub trees_from-append : (ts : List Formula) (ms ns : List Node) → trees_from ts (ms ++ ns) ≡ trees_from (trees_from ts ms) ns
trees_from-append ts [] ns = refl
trees_from-append ts (m ∷ ms) ns = trees_from-append (ts ++ tree_of_node ts m ∷ []) ms ns

-- the formulas so far stay in front
pub trees_from-front : (ts : List Formula) (ns : List Node) → (more : List Formula) × (trees_from ts ns ≡ ts ++ more)
trees_from-front ts [] = ([], sym (append-nil ts))
trees_from-front ts (n ∷ ns) =
    let r = trees_from-front (ts ++ tree_of_node ts n ∷ []) ns in
    (tree_of_node ts n ∷ r.0, r.1 ∙ append_assoc ts (tree_of_node ts n ∷ []) r.0)

pub tree_at-append : (ts us : List Formula) (a : FormId) → a.0 < length ts → tree_at (ts ++ us) a ≡ tree_at ts a
tree_at-append ts us a h = get_or_append_left ts us falsum a.0 h

-- a node's formula depends on the list up to its children alone
pub tree_of_node-append : (ts us : List Formula) (n : Node) → AreChildrenBelow (length ts) n → tree_of_node (ts ++ us) n ≡ tree_of_node ts n
tree_of_node-append ts us (Var p) h = refl
tree_of_node-append ts us Bot h = refl
tree_of_node-append ts us Top h = refl
tree_of_node-append ts us (Not a) h = ap neg (tree_at-append ts us a h)
tree_of_node-append ts us (And a b) h = λ i. conj (tree_at-append ts us a h.0 i) (tree_at-append ts us b h.1 i)
tree_of_node-append ts us (Or a b) h = λ i. disj (tree_at-append ts us a h.0 i) (tree_at-append ts us b h.1 i)
tree_of_node-append ts us (Imp a b) h = λ i. impl (tree_at-append ts us a h.0 i) (tree_at-append ts us b h.1 i)
tree_of_node-append ts us (Iff a b) h = λ i. equi (tree_at-append ts us a h.0 i) (tree_at-append ts us b h.1 i)
tree_of_node-append ts us (Nec a) h = ap nec (tree_at-append ts us a h)
tree_of_node-append ts us (Poss a) h = ap poss (tree_at-append ts us a h)

pub AreChildrenBelow-le : (m n : ℕ) (x : Node) → m ≤ n → AreChildrenBelow m x → AreChildrenBelow n x
AreChildrenBelow-le m n (Var p) l h = h
AreChildrenBelow-le m n Bot l h = h
AreChildrenBelow-le m n Top l h = h
AreChildrenBelow-le m n (Not a) l h = omega arith
AreChildrenBelow-le m n (And a b) l h = (omega arith, omega arith)
AreChildrenBelow-le m n (Or a b) l h = (omega arith, omega arith)
AreChildrenBelow-le m n (Imp a b) l h = (omega arith, omega arith)
AreChildrenBelow-le m n (Iff a b) l h = (omega arith, omega arith)
AreChildrenBelow-le m n (Nec a) l h = omega arith
AreChildrenBelow-le m n (Poss a) l h = omega arith

pub AreOrderedFrom-append : (k : ℕ) (ms ns : List Node) → AreOrderedFrom k ms → AreOrderedFrom (k + length ms) ns → AreOrderedFrom k (ms ++ ns)
AreOrderedFrom-append k [] ns o h = let e : k + 0 ≡ k = omega arith in subst (λ (j : ℕ). AreOrderedFrom j ns) e h
AreOrderedFrom-append k (m ∷ ms) ns o h =
    let e : k + suc (length ms) ≡ (k + 1) + length ms = omega arith in
    (o.0, AreOrderedFrom-append (k + 1) ms ns o.1 (subst (λ (j : ℕ). AreOrderedFrom j ns) e h))

pub AreOrderedFrom-take : (k j : ℕ) (ns : List Node) → AreOrderedFrom k ns → AreOrderedFrom k (take j ns)
AreOrderedFrom-take k zero ns o = tt
AreOrderedFrom-take k (suc j) [] o = tt
AreOrderedFrom-take k (suc j) (n ∷ ns) o = (o.0, AreOrderedFrom-take (k + 1) j ns o.1)

-- the children of the node at a place stand below the place
pub children_below : (k : ℕ) (ns : List Node) (i : ℕ) (d : Node) → i < length ns → AreOrderedFrom k ns → AreChildrenBelow (k + i) (get_or ns i d)
children_below k [] i d l o = absurd (omega arith)
children_below k (n ∷ ns) zero d l o = let e : k ≡ k + 0 = omega arith in subst (λ (j : ℕ). AreChildrenBelow j n) e o.0
children_below k (n ∷ ns) (suc i) d l o =
    let e : (k + 1) + i ≡ k + suc i = omega arith in
    subst (λ (j : ℕ). AreChildrenBelow j (get_or ns i d)) e (children_below (k + 1) ns i d (omega arith) o.1)

-- at the place of a node stands its formula
pub tree_at_node : (ts : List Formula) (ns : List Node) (i : ℕ) (d : Node) → i < length ns → AreOrderedFrom (length ts) ns →
    get_or (trees_from ts ns) (length ts + i) falsum ≡ tree_of_node (trees_from ts ns) (get_or ns i d)
tree_at_node ts [] i d l o = absurd (omega arith)
tree_at_node ts (n ∷ ns) zero d l o =
    let r = trees_from-front (ts ++ tree_of_node ts n ∷ []) ns in
    let whole : trees_from (ts ++ tree_of_node ts n ∷ []) ns ≡ ts ++ (tree_of_node ts n ∷ r.0) = r.1 ∙ append_assoc ts (tree_of_node ts n ∷ []) r.0 in
    let e : length ts ≡ length ts + 0 = omega arith in
    ap (λ (us : List Formula). get_or us (length ts + 0) falsum) whole
    ∙ get_or_at ts (tree_of_node ts n) r.0 falsum (length ts + 0) e
    ∙ sym (ap (λ (us : List Formula). tree_of_node us n) whole ∙ tree_of_node-append ts (tree_of_node ts n ∷ r.0) n o.0)
tree_at_node ts (n ∷ ns) (suc i) d l o =
    let us : List Formula = ts ++ tree_of_node ts n ∷ [] in
    let e : length us ≡ length ts + 1 = length-append ts (tree_of_node ts n ∷ []) in
    let f : length us + i ≡ length ts + suc i = omega (arith, e) in
    subst (λ (j : ℕ). get_or (trees_from us ns) j falsum ≡ tree_of_node (trees_from us ns) (get_or ns i d)) f
    (tree_at_node us ns i d (omega arith) (subst (λ (j : ℕ). AreOrderedFrom j ns) (sym e) o.1))

pub trees-push : (ns : List Node) (n : Node) → trees (ns ++ n ∷ []) ≡ trees ns ++ tree_of_node (trees ns) n ∷ []
trees-push ns n = trees_from-append [] ns (n ∷ [])

pub length-trees : (ns : List Node) → length (trees ns) ≡ length ns
length-trees ns = omega (arith, length-trees_from [] ns)
