-- What a pool's set of nodes does to the list of formulas.
use Rattle.std.proofs.Common.{◌≡◌, ◌≢◌, ℕ, ◌+◌, ◌<◌, ◌≤◌, inl, inr, Bool, true, false, min, eqb, ◌&&◌, Some, Result, Ok, Err, OnErr, slice_get, List, [], ◌∷◌, ◌++◌, length, get_or, take, drop, refl, sym, ap, subst, ◌∙◌, arith, length-append}
use Rattle.std.specs.List.{list_any}
use Rattle.std.proofs.lemmas.Option.{slice_get_cases, get_or_from_slice_get}
use Rattle.std.proofs.lemmas.Bool.{cond_both, cases_order, eqb-true, and_parts}
use Rattle.std.proofs.lemmas.List.{get_or_append_left, get_or_default, get_or-take, take_at, take_all, length-take, take-append-drop, length-take-le}
use Rattle.std.proofs.lemmas.List.Folds.{list_any_at}
use Rattle.std.proofs.lemmas.List.Quantifiers.{all_pairs_push}
use Rattle.std.proofs.lemmas.Slice.Eq.{bytes_eq-Decides}
use Rattle.indexmap.specs.IndexSet.{insert_key}
use Rattle.lw_formula.specs.FiniteModel.{AreDistinct}
use Rattle.lw_formula.specs.Formula.{Formula, falsum, IsOperand}
use Rattle.lw_pool.specs.declared.id.FormId.{FormId}
use Rattle.lw_pool.specs.declared.node.Node.{Node}
use Rattle.lw_pool.specs.declared.node.Node.TheVariants.{Var, Bot, Top, Not, And, Or, Imp, Iff, Nec, Poss}
use Rattle.lw_pool.specs.contracts.node.NodePartialEq.TheImpl as derived
use Rattle.lw_pool.specs.contracts.node.NodeEq.TheImpl.Laws as laws
use Rattle.lw_pool.specs.Region.{IsAbsent, AreIdsExact, AreNamed, AreOperandsBelow, AreChildrenBelow, tree_of_node, IsMade}
use Rattle.lw_pool.specs.Private.NodeRegion.{trees, IsNamed, IsRegion}
use Rattle.lw_pool.proofs.NodeFormulas.{length-trees, trees-push, trees_from-append, trees_from-front, tree_at_node, children_below, AreOrderedFrom-append, AreOrderedFrom-take, AreChildrenBelow-le}
use Rattle.lw_pool.proofs.NodeNames.{node_names, names_push, names_take}
use Rattle.lw_pool.proofs.NodeChildren.{child_of_operand, child_below}

abbrev pub node_eq : Node → Node → Bool
node_eq = derived.ghosts.eq

-- two places with one formula are one
pub same_place : (ts : List Formula) → AreDistinct ts → (i j : ℕ) → i < length ts → j < length ts → get_or ts i falsum ≡ get_or ts j falsum → i ≡ j
same_place ts d i j hi hj e = elim (cases_order i j) [ inl p ↦ p | inr q ↦ elim q [ inl l ↦ absurd (d i j falsum l hj e) | inr l ↦ absurd (d j i falsum l hi (sym e)) ] ]

pub ids_exact : (ts : List Formula) → AreDistinct ts → AreIdsExact ts
ids_exact ts d a b ha hb e = let n : a.0 ≡ b.0 = same_place ts d a.0 b.0 ha hb e in λ i. record { 0 = n i }

-- two nodes with one formula are one
pub same_node : (ts : List Formula) → AreDistinct ts → (m n : Node) → AreChildrenBelow (length ts) m → AreChildrenBelow (length ts) n →
    tree_of_node ts m ≡ tree_of_node ts n → m ≡ n
same_node ts d (Var p) (Var q) h k e = let f : p ≡ q = cc in ap Var f
same_node ts d Bot Bot h k e = refl
same_node ts d Top Top h k e = refl
same_node ts d (Not a) (Not b) h k e = ap Not (ids_exact ts d a b h k (cc))
same_node ts d (And a b) (And x y) h k e = λ i. And (ids_exact ts d a x h.0 k.0 (cc) i) (ids_exact ts d b y h.1 k.1 (cc) i)
same_node ts d (Or a b) (Or x y) h k e = λ i. Or (ids_exact ts d a x h.0 k.0 (cc) i) (ids_exact ts d b y h.1 k.1 (cc) i)
same_node ts d (Imp a b) (Imp x y) h k e = λ i. Imp (ids_exact ts d a x h.0 k.0 (cc) i) (ids_exact ts d b y h.1 k.1 (cc) i)
same_node ts d (Iff a b) (Iff x y) h k e = λ i. Iff (ids_exact ts d a x h.0 k.0 (cc) i) (ids_exact ts d b y h.1 k.1 (cc) i)
same_node ts d (Nec a) (Nec b) h k e = ap Nec (ids_exact ts d a b h k (cc))
same_node ts d (Poss a) (Poss b) h k e = ap Poss (ids_exact ts d a b h k (cc))
same_node ts d _ _ h k e = cc

same_number : (a b : FormId) → eqb a.0 b.0 ≡ true → a ≡ b
same_number a b e = let n : a.0 ≡ b.0 = eqb-true a.0 b.0 e in λ i. record { 0 = n i }

same_numbers : (a b x y : FormId) → (eqb a.0 x.0 && eqb b.0 y.0) ≡ true → (a ≡ x) × (b ≡ y)
same_numbers a b x y e = let p = and_parts (eqb a.0 x.0) (eqb b.0 y.0) e in (same_number a x p.0, same_number b y p.1)

-- what the nodes' own test of equality tells
pub node_eq-refl : (n : Node) → node_eq n n ≡ true
node_eq-refl n = (laws.laws-law).refl n

pub node_eq-true : (m n : Node) → node_eq m n ≡ true → m ≡ n
node_eq-true (Var p) (Var q) e = ap Var ((bytes_eq-Decides p q).0 e)
node_eq-true Bot Bot e = refl
node_eq-true Top Top e = refl
node_eq-true (Not a) (Not b) e = ap Not (same_number a b e)
node_eq-true (And a b) (And x y) e = λ i. And ((same_numbers a b x y e).0 i) ((same_numbers a b x y e).1 i)
node_eq-true (Or a b) (Or x y) e = λ i. Or ((same_numbers a b x y e).0 i) ((same_numbers a b x y e).1 i)
node_eq-true (Imp a b) (Imp x y) e = λ i. Imp ((same_numbers a b x y e).0 i) ((same_numbers a b x y e).1 i)
node_eq-true (Iff a b) (Iff x y) e = λ i. Iff ((same_numbers a b x y e).0 i) ((same_numbers a b x y e).1 i)
node_eq-true (Nec a) (Nec b) e = ap Nec (same_number a b e)
node_eq-true (Poss a) (Poss b) e = ap Poss (same_number a b e)
node_eq-true _ _ e = cc

-- the node at a place, with its formula and its children
pub region_node : (ns : List Node) (ts : List Formula) (i : ℕ) (n : Node) → IsRegion ns → trees ns ≡ ts → i < length ts → n ≡ get_or ns i n →
    (tree_of_node ts n ≡ get_or ts i falsum) × AreChildrenBelow i n
region_node ns ts i n r e l a =
    let P : List Formula → Type 0 = λ us. i < length us → (tree_of_node us n ≡ get_or us i falsum) × AreChildrenBelow i n in
    subst P e (λ k.
    let m : i < length ns = omega (arith, length-trees ns) in
    let z : 0 + i ≡ i = omega arith in
    let t : get_or (trees ns) i falsum ≡ tree_of_node (trees ns) (get_or ns i n) = subst (λ (j : ℕ). get_or (trees ns) j falsum ≡ tree_of_node (trees ns) (get_or ns i n)) z (tree_at_node [] ns i n m r.ordered) in (
      ap (tree_of_node (trees ns)) a ∙ sym t,
      subst (λ (j : ℕ). AreChildrenBelow j n) z (subst (AreChildrenBelow (0 + i)) (sym a) (children_below 0 ns i n m r.ordered)),
    )) l

pub region_operands : (ns : List Node) (ts : List Formula) → IsRegion ns → trees ns ≡ ts → AreOperandsBelow ts
region_operands ns ts r e a l c o =
    let m : a.0 < length ns = omega (arith, length-trees ns, ap length e) in
    let n : Node = get_or ns a.0 Bot in
    let s : n ≡ get_or ns a.0 n = get_or_default ns a.0 Bot n m in
    let p = region_node ns ts a.0 n r e l s in
    let q = child_of_operand ts n c (subst (IsOperand c) (sym p.0) o) in
    (q.0, child_below a.0 n q.0 p.1 q.1, q.2)

-- two nodes of a region and above it are one where their formulas are
pub region_absent : (ns : List Node) (ts : List Formula) (n : Node) → IsRegion ns → trees ns ≡ ts → AreChildrenBelow (length ts) n →
    list_any (node_eq n) ns ≡ false → IsAbsent ts (tree_of_node ts n)
region_absent ns ts n r e b f c =
    let m : c.0 < length ns = omega (arith, length-trees ns, ap length e) in
    let x : Node = get_or ns c.0 n in
    let s : x ≡ get_or ns c.0 x = get_or_default ns c.0 n x m in
    let p = region_node ns ts c.0 x r e c.1 s in
    let q : AreChildrenBelow (length ts) x = AreChildrenBelow-le c.0 (length ts) x (omega arith) p.1 in
    let t : tree_of_node ts x ≡ tree_of_node ts n = p.0 ∙ get_or_default ts c.0 falsum (tree_of_node ts n) c.1 ∙ c.2 in
    let same : x ≡ n = same_node ts (subst AreDistinct e r.distinct) x n q b t in
    let yes : list_any (node_eq n) ns ≡ true = list_any_at (node_eq n) ns c.0 n m (ap (node_eq n) same ∙ node_eq-refl n) in
    cc

-- what holds after the node was inserted: the region's formulas, and where the node's formula stands
pub record IsInserted (ts : List Formula) (n : Node) (i : ℕ) (ms : List Node) : Type 0 where
  pub region : IsRegion ms
  pub made : IsMade ts (trees ms) (tree_of_node ts n) (record { 0 = i })

-- the node stands at i
abbrev pub StandsAt : Node → ℕ → List Node → Type 0
StandsAt n i ms = (k : Node) × (slice_get ms i ≡ Some k) × (node_eq n k ≡ true)

place_within : (i : ℕ) (k : Node) (ms : List Node) → slice_get ms i ≡ Some k → i < length ms
place_within i k ms e = elim (slice_get_cases ms i).1 [ inl p ↦ p.1 | inr p ↦ (let bad : ⊥ = cc (p.1, e) in absurd bad) ]

found : (ns : List Node) (ts : List Formula) (n : Node) (i : ℕ) → IsRegion ns → trees ns ≡ ts → StandsAt n i ns → IsInserted ts n i ns
found ns ts n i r e a =
    let m : i < length ns = place_within i a.0 ns a.1 in
    let l : i < length ts = omega (arith, length-trees ns, ap length e) in
    let s : n ≡ get_or ns i n = node_eq-true n a.0 a.2 ∙ sym (get_or_from_slice_get ns i a.0 n a.1) in
    record { region = r; made = inl (l, e, sym (region_node ns ts i n r e l s).0) }

-- the region goes on with a node whose formula it lacks
pub region_push : (ns : List Node) (n : Node) → IsRegion ns → AreChildrenBelow (length ns) n → IsAbsent (trees ns) (tree_of_node (trees ns) n) → IsNamed n → IsRegion (ns ++ n ∷ [])
region_push ns n r b a is = record {
  ordered = AreOrderedFrom-append 0 ns (n ∷ []) r.ordered (subst (λ (k : ℕ). AreChildrenBelow k n) (omega arith) b, tt);
  distinct = subst AreDistinct (sym (trees-push ns n))
      (all_pairs_push (λ (x y : Formula). x ≢ y) (trees ns) (tree_of_node (trees ns) n) r.distinct
      (λ k d l e. a (k, l, get_or_default (trees ns) k (tree_of_node (trees ns) n) d l ∙ e)));
  named = subst AreNamed (sym (trees-push ns n))
      (names_push (trees ns) (tree_of_node (trees ns) n) r.named (node_names (trees ns) n r.named (subst (λ (k : ℕ). AreChildrenBelow k n) (sym (length-trees ns)) b) is));
}

appended : (ns : List Node) (ts : List Formula) (n : Node) (i : ℕ) → IsRegion ns → trees ns ≡ ts → AreChildrenBelow (length ts) n → IsNamed n →
    list_any (node_eq n) ns ≡ false → StandsAt n i (ns ++ n ∷ []) → IsInserted ts n i (ns ++ n ∷ [])
appended ns ts n i r e b is f a =
    let same : length ts ≡ length ns = omega (arith, length-trees ns, ap length e) in
    let m : i < length ns + 1 = omega (arith, place_within i a.0 (ns ++ n ∷ []) a.1, length-append ns (n ∷ [])) in
    let late : i < length ns → ⊥ = λ l.
    (let s : get_or ns i n ≡ a.0 = sym (get_or_append_left ns (n ∷ []) n i l) ∙ get_or_from_slice_get (ns ++ n ∷ []) i a.0 n a.1 in
    let yes : list_any (node_eq n) ns ≡ true = list_any_at (node_eq n) ns i n l (ap (node_eq n) s ∙ a.2) in
    let bad : ⊥ = cc (yes, f) in bad) in
    let at_end : i ≡ length ts = elim (cases_order i (length ns)) [ inl p ↦ p ∙ sym same | inr q ↦ elim q [ inl l ↦ absurd (late l) | inr l ↦ absurd (omega arith) ] ] in
    let absent : IsAbsent ts (tree_of_node ts n) = region_absent ns ts n r e b f in
    let absent' : IsAbsent (trees ns) (tree_of_node (trees ns) n) = subst (λ (us : List Formula). IsAbsent us (tree_of_node us n)) (sym e) absent in
    record {
      region = region_push ns n r (subst (λ (k : ℕ). AreChildrenBelow k n) same b) absent' is;
      made = inr (at_end, trees-push ns n ∙ ap (λ (us : List Formula). us ++ tree_of_node us n ∷ []) e);
    }

pub region_inserted : (ns : List Node) (ts : List Formula) (n : Node) (i : ℕ) → IsRegion ns → trees ns ≡ ts → AreChildrenBelow (length ts) n → IsNamed n →
    (ms : List Node) → ms ≡ insert_key node_eq ns n → StandsAt n i ms → IsInserted ts n i ms
region_inserted ns ts n i r e b is ms k a =
    let P : List Node → Type 0 = λ us. StandsAt n i us → IsInserted ts n i us in
    subst P (sym k) (cond_both (list_any (node_eq n) ns) ns (ns ++ n ∷ []) P (λ _. found ns ts n i r e) (λ f. appended ns ts n i r e b is f)) a

trees-take : (k : ℕ) (ns : List Node) → trees (take k ns) ≡ take k (trees ns)
trees-take k ns = elim (cases_order k (length ns)) [
  | inl e ↦ whole (omega arith)
  | inr q ↦ elim q [ inl l ↦ front l | inr l ↦ whole (omega arith) ]
]
  where
    whole : length ns ≤ k → trees (take k ns) ≡ take k (trees ns)
    whole l = ap trees (take_all k ns l) ∙ sym (take_all k (trees ns) (omega (arith, length-trees ns)))

    front : k < length ns → trees (take k ns) ≡ take k (trees ns)
    front l =
        let r = trees_from-front (trees (take k ns)) (drop k ns) in
        let e : trees ns ≡ trees (take k ns) ++ r.0 = sym (ap trees (take-append-drop k ns)) ∙ trees_from-append [] (take k ns) (drop k ns) ∙ r.1 in
        let n : length (trees (take k ns)) ≡ k = length-trees (take k ns) ∙ length-take-le k ns (omega arith) in
        sym (ap (take k) e ∙ take_at (trees (take k ns)) r.0 k n)

pub region_cut : (ns : List Node) (ts : List Formula) (k : ℕ) → IsRegion ns → trees ns ≡ ts → (ms : List Node) → ms ≡ take k ns → IsRegion ms × (trees ms ≡ take k ts)
region_cut ns ts k r e ms c =
    let P : List Node → Type 0 = λ us. IsRegion us × (trees us ≡ take k ts) in
    subst P (sym c) (
      record { ordered = AreOrderedFrom-take 0 k ns r.ordered; distinct = subst AreDistinct (sym (trees-take k ns)) (distinct-take k (trees ns) r.distinct); named = subst AreNamed (sym (trees-take k ns)) (names_take k (trees ns) r.named) },
      trees-take k ns ∙ ap (take k) e,
    )
  where
    distinct-take : (j : ℕ) (us : List Formula) → AreDistinct us → AreDistinct (take j us)
    distinct-take j us d i l x a b e =
        let n : length (take j us) ≡ min j (length us) = length-take j us in
        let bl : l < j = omega arith in
        let bi : i < j = omega arith in
        let bu : l < length us = omega arith in
        d i l x a bu (sym (get_or-take j us i x bi) ∙ e ∙ get_or-take j us l x bl)

-- what holds anyway holds after an error
pub OnErr-always : {T E P : Type 0} → (r : Result T E) → P → OnErr r P
OnErr-always (Ok x) p = tt
OnErr-always (Err e) p = p
