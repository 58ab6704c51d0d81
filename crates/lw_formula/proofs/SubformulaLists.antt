-- Subformulas: the list has just these, each once.
use Rattle.std.proofs.Common.{◌≡◌, ◌<◌, ◌≤◌, Bool, true, false, not, List, [], ◌∷◌, ◌++◌, ◌⊎◌, ◌↔◌, inl, inr, ⊎_elim, refl, ap, subst, sym, arith}
use Rattle.std.specs.Bool.{Decides}
use Rattle.std.specs.List.{Contains, filter, list_any}
use Rattle.std.proofs.lemmas.Bool.{false≢true}
use Rattle.std.proofs.lemmas.Bool.Decides.{Decides-like}
use Rattle.std.proofs.lemmas.List.Elements.{Contains-append_left, Contains-append_right, Contains-append_cases, Contains-push, Contains-push_cases}
use Rattle.lw_formula.specs.Formula.{Formula, letter, falsum, verum, neg, conj, disj, impl, equi, nec, poss, IsSubformula, same_formula, subformulas, union, nodes}
use Rattle.lw_formula.specs.FiniteModel.{AreDistinct}
use Rattle.lw_formula.proofs.ListTests.{list_any-Contains}
use Rattle.lw_formula.proofs.ListMembers.{Contains-nil, Contains-filter, Contains-filter_cases, AreDistinct-filter, AreDistinct-append, AreDistinct-push, AreDistinct-nil}
use Rattle.lw_formula.proofs.SameFormulas.{same_formula-Decides}

-- whether a formula is in a list
pub is_member-Decides : (xs : List Formula) (c : Formula) → Decides (list_any (same_formula c) xs) (Contains xs c)
is_member-Decides xs c =
    list_any-Contains (same_formula c) c
    (λ a. Decides-like (same_formula c a) (λ e. sym e) (λ e. sym e) (same_formula-Decides c a))
    xs

-- what is new in the second list isn't in the first
pub not_in_first : (xs ys : List Formula) (c : Formula) → Contains (filter (λ b. not (list_any (same_formula b) xs)) ys) c → ¬ Contains xs c
not_in_first xs ys c h old = is_new (list_any (same_formula c) xs) ((is_member-Decides xs c).1 old) (Contains-filter_cases (λ b. not (list_any (same_formula b) xs)) ys c h).1
  where
    is_new : (t : Bool) → t ≡ true → not t ≡ true → ⊥
    is_new true e n = false≢true n
    is_new false e n = false≢true e

-- a union has just the members of both lists
pub union-Contains : (xs ys : List Formula) (c : Formula) → Contains (union xs ys) c ↔ (Contains xs c ⊎ Contains ys c)
union-Contains xs ys c = (
  λ h. ⊎_elim (λ left. inl left)
      (λ right. inr (Contains-filter_cases (λ b. not (list_any (same_formula b) xs)) ys c right).0)
      (Contains-append_cases xs (filter (λ b. not (list_any (same_formula b) xs)) ys) c h),
  λ h. ⊎_elim (λ left. Contains-append_left xs (filter (λ b. not (list_any (same_formula b) xs)) ys) c left)
      (λ right. of_second xs ys c right (list_any (same_formula c) xs) refl)
      h,
)
  where
    of_second : (xs ys : List Formula) (c : Formula) → Contains ys c → (t : Bool) → list_any (same_formula c) xs ≡ t → Contains (union xs ys) c
    of_second xs ys c h true e = Contains-append_left xs (filter (λ b. not (list_any (same_formula b) xs)) ys) c ((is_member-Decides xs c).0 e)
    of_second xs ys c h false e = Contains-append_right xs (filter (λ b. not (list_any (same_formula b) xs)) ys) c (Contains-filter (λ b. not (list_any (same_formula b) xs)) ys c h (ap not e))

-- a union of lists without doubles has none
pub union-AreDistinct : (xs ys : List Formula) → AreDistinct xs → AreDistinct ys → AreDistinct (union xs ys)
union-AreDistinct xs ys first second =
    AreDistinct-append xs (filter (λ b. not (list_any (same_formula b) xs)) ys) first
    (AreDistinct-filter (λ b. not (list_any (same_formula b) xs)) ys second)
    (λ c left right. not_in_first xs ys c right left)

-- one formula more behind a list
pub push-Contains : (xs : List Formula) (a : Formula) {P : Type 0} (c : Formula) → Contains xs c ↔ P → Contains (xs ++ a ∷ []) c ↔ ((c ≡ a) ⊎ P)
push-Contains xs a c h = (
  λ m. ⊎_elim (λ left. inr (h.0 left)) (λ e. inl (sym e)) (Contains-push_cases xs a c m),
  λ m. ⊎_elim (λ e. subst (Contains (xs ++ a ∷ [])) (sym e) (Contains-push xs a)) (λ p. Contains-append_left xs (a ∷ []) c (h.1 p)) m,
)

-- both operands' subformulas
pub operands-Contains : (xs ys : List Formula) {P Q : Type 0} (c : Formula) → Contains xs c ↔ P → Contains ys c ↔ Q → Contains (union xs ys) c ↔ (P ⊎ Q)
operands-Contains xs ys c p q = (
  λ m. ⊎_elim (λ left. inl (p.0 left)) (λ right. inr (q.0 right)) ((union-Contains xs ys c).0 m),
  λ m. (union-Contains xs ys c).1 (⊎_elim (λ left. inl (p.1 left)) (λ right. inr (q.1 right)) m),
)

-- one formula alone
pub alone-Contains : (a c : Formula) → Contains (a ∷ []) c ↔ (c ≡ a)
alone-Contains a c = (
  λ m. ⊎_elim (λ none. absurd (Contains-nil c none)) (λ e. sym e) (Contains-push_cases [] a c m),
  λ e. subst (Contains (a ∷ [])) (sym e) (Contains-push [] a),
)

-- the list of subformulas has just the subformulas
pub subformulas-IsSubformula : (a c : Formula) → Contains (subformulas a) c ↔ IsSubformula c a
subformulas-IsSubformula (letter p) c = alone-Contains (letter p) c
subformulas-IsSubformula falsum c = alone-Contains falsum c
subformulas-IsSubformula verum c = alone-Contains verum c
subformulas-IsSubformula (neg a) c = push-Contains (subformulas a) (neg a) c (subformulas-IsSubformula a c)
subformulas-IsSubformula (conj a b) c =
    push-Contains (union (subformulas a) (subformulas b)) (conj a b) c
    (operands-Contains (subformulas a) (subformulas b) c (subformulas-IsSubformula a c) (subformulas-IsSubformula b c))
subformulas-IsSubformula (disj a b) c =
    push-Contains (union (subformulas a) (subformulas b)) (disj a b) c
    (operands-Contains (subformulas a) (subformulas b) c (subformulas-IsSubformula a c) (subformulas-IsSubformula b c))
subformulas-IsSubformula (impl a b) c =
    push-Contains (union (subformulas a) (subformulas b)) (impl a b) c
    (operands-Contains (subformulas a) (subformulas b) c (subformulas-IsSubformula a c) (subformulas-IsSubformula b c))
subformulas-IsSubformula (equi a b) c =
    push-Contains (union (subformulas a) (subformulas b)) (equi a b) c
    (operands-Contains (subformulas a) (subformulas b) c (subformulas-IsSubformula a c) (subformulas-IsSubformula b c))
subformulas-IsSubformula (nec a) c = push-Contains (subformulas a) (nec a) c (subformulas-IsSubformula a c)
subformulas-IsSubformula (poss a) c = push-Contains (subformulas a) (poss a) c (subformulas-IsSubformula a c)

-- a formula is a subformula of itself
pub IsSubformula-refl : (a : Formula) → IsSubformula a a
IsSubformula-refl (letter p) = refl
IsSubformula-refl falsum = refl
IsSubformula-refl verum = refl
IsSubformula-refl (neg a) = inl refl
IsSubformula-refl (conj a b) = inl refl
IsSubformula-refl (disj a b) = inl refl
IsSubformula-refl (impl a b) = inl refl
IsSubformula-refl (equi a b) = inl refl
IsSubformula-refl (nec a) = inl refl
IsSubformula-refl (poss a) = inl refl

-- a subformula of a subformula is a subformula
pub IsSubformula-trans : (a b c : Formula) → IsSubformula a b → IsSubformula b c → IsSubformula a c
IsSubformula-trans a b (letter p) h e = subst (IsSubformula a) e h
IsSubformula-trans a b falsum h e = subst (IsSubformula a) e h
IsSubformula-trans a b verum h e = subst (IsSubformula a) e h
IsSubformula-trans a b (neg c) h (inl e) = subst (IsSubformula a) e h
IsSubformula-trans a b (neg c) h (inr s) = inr (IsSubformula-trans a b c h s)
IsSubformula-trans a b (conj c d) h (inl e) = subst (IsSubformula a) e h
IsSubformula-trans a b (conj c d) h (inr (inl s)) = inr (inl (IsSubformula-trans a b c h s))
IsSubformula-trans a b (conj c d) h (inr (inr s)) = inr (inr (IsSubformula-trans a b d h s))
IsSubformula-trans a b (disj c d) h (inl e) = subst (IsSubformula a) e h
IsSubformula-trans a b (disj c d) h (inr (inl s)) = inr (inl (IsSubformula-trans a b c h s))
IsSubformula-trans a b (disj c d) h (inr (inr s)) = inr (inr (IsSubformula-trans a b d h s))
IsSubformula-trans a b (impl c d) h (inl e) = subst (IsSubformula a) e h
IsSubformula-trans a b (impl c d) h (inr (inl s)) = inr (inl (IsSubformula-trans a b c h s))
IsSubformula-trans a b (impl c d) h (inr (inr s)) = inr (inr (IsSubformula-trans a b d h s))
IsSubformula-trans a b (equi c d) h (inl e) = subst (IsSubformula a) e h
IsSubformula-trans a b (equi c d) h (inr (inl s)) = inr (inl (IsSubformula-trans a b c h s))
IsSubformula-trans a b (equi c d) h (inr (inr s)) = inr (inr (IsSubformula-trans a b d h s))
IsSubformula-trans a b (nec c) h (inl e) = subst (IsSubformula a) e h
IsSubformula-trans a b (nec c) h (inr s) = inr (IsSubformula-trans a b c h s)
IsSubformula-trans a b (poss c) h (inl e) = subst (IsSubformula a) e h
IsSubformula-trans a b (poss c) h (inr s) = inr (IsSubformula-trans a b c h s)

-- equal formulas have xs many nodes
of_same : (c a : Formula) → c ≡ a → nodes c ≤ nodes a
of_same c a e = let same : nodes c ≡ nodes a = ap nodes e in omega arith

-- a subformula has no more nodes
pub IsSubformula-nodes : (a c : Formula) → IsSubformula c a → nodes c ≤ nodes a
IsSubformula-nodes (letter p) c e = of_same c (letter p) e
IsSubformula-nodes falsum c e = of_same c falsum e
IsSubformula-nodes verum c e = of_same c verum e
IsSubformula-nodes (neg a) c (inl e) = of_same c (neg a) e
IsSubformula-nodes (neg a) c (inr s) = let below : nodes c ≤ nodes a = IsSubformula-nodes a c s in omega arith
IsSubformula-nodes (conj a b) c (inl e) = of_same c (conj a b) e
IsSubformula-nodes (conj a b) c (inr (inl s)) = let below : nodes c ≤ nodes a = IsSubformula-nodes a c s in omega arith
IsSubformula-nodes (conj a b) c (inr (inr s)) = let below : nodes c ≤ nodes b = IsSubformula-nodes b c s in omega arith
IsSubformula-nodes (disj a b) c (inl e) = of_same c (disj a b) e
IsSubformula-nodes (disj a b) c (inr (inl s)) = let below : nodes c ≤ nodes a = IsSubformula-nodes a c s in omega arith
IsSubformula-nodes (disj a b) c (inr (inr s)) = let below : nodes c ≤ nodes b = IsSubformula-nodes b c s in omega arith
IsSubformula-nodes (impl a b) c (inl e) = of_same c (impl a b) e
IsSubformula-nodes (impl a b) c (inr (inl s)) = let below : nodes c ≤ nodes a = IsSubformula-nodes a c s in omega arith
IsSubformula-nodes (impl a b) c (inr (inr s)) = let below : nodes c ≤ nodes b = IsSubformula-nodes b c s in omega arith
IsSubformula-nodes (equi a b) c (inl e) = of_same c (equi a b) e
IsSubformula-nodes (equi a b) c (inr (inl s)) = let below : nodes c ≤ nodes a = IsSubformula-nodes a c s in omega arith
IsSubformula-nodes (equi a b) c (inr (inr s)) = let below : nodes c ≤ nodes b = IsSubformula-nodes b c s in omega arith
IsSubformula-nodes (nec a) c (inl e) = of_same c (nec a) e
IsSubformula-nodes (nec a) c (inr s) = let below : nodes c ≤ nodes a = IsSubformula-nodes a c s in omega arith
IsSubformula-nodes (poss a) c (inl e) = of_same c (poss a) e
IsSubformula-nodes (poss a) c (inr s) = let below : nodes c ≤ nodes a = IsSubformula-nodes a c s in omega arith

-- a larger formula isn't among the subformulas
larger_is_new : (a b : Formula) → nodes a < nodes b → ¬ IsSubformula b a
larger_is_new a b h s = let below : nodes b ≤ nodes a = IsSubformula-nodes a b s in let bad : ⊥ = omega arith in bad

-- a formula larger than both operands isn't among their subformulas
operands_lack : (a b c : Formula) → nodes a < nodes c → nodes b < nodes c → ¬ Contains (union (subformulas a) (subformulas b)) c
operands_lack a b c left right h =
    ⊎_elim (λ in_a. larger_is_new a c left ((subformulas-IsSubformula a c).0 in_a))
    (λ in_b. larger_is_new b c right ((subformulas-IsSubformula b c).0 in_b))
    ((union-Contains (subformulas a) (subformulas b) c).0 h)

-- the distinct subformulas are distinct
pub subformulas-AreDistinct : (a : Formula) → AreDistinct (subformulas a)
subformulas-AreDistinct (letter p) = AreDistinct-push [] (letter p) AreDistinct-nil (Contains-nil (letter p))
subformulas-AreDistinct falsum = AreDistinct-push [] falsum AreDistinct-nil (Contains-nil falsum)
subformulas-AreDistinct verum = AreDistinct-push [] verum AreDistinct-nil (Contains-nil verum)
subformulas-AreDistinct (neg a) =
    AreDistinct-push (subformulas a) (neg a) (subformulas-AreDistinct a)
    (λ h. larger_is_new a (neg a) (omega arith) ((subformulas-IsSubformula a (neg a)).0 h))
subformulas-AreDistinct (conj a b) =
    AreDistinct-push (union (subformulas a) (subformulas b)) (conj a b)
    (union-AreDistinct (subformulas a) (subformulas b) (subformulas-AreDistinct a) (subformulas-AreDistinct b))
    (λ h. operands_lack a b (conj a b) (omega arith) (omega arith) h)
subformulas-AreDistinct (disj a b) =
    AreDistinct-push (union (subformulas a) (subformulas b)) (disj a b)
    (union-AreDistinct (subformulas a) (subformulas b) (subformulas-AreDistinct a) (subformulas-AreDistinct b))
    (λ h. operands_lack a b (disj a b) (omega arith) (omega arith) h)
subformulas-AreDistinct (impl a b) =
    AreDistinct-push (union (subformulas a) (subformulas b)) (impl a b)
    (union-AreDistinct (subformulas a) (subformulas b) (subformulas-AreDistinct a) (subformulas-AreDistinct b))
    (λ h. operands_lack a b (impl a b) (omega arith) (omega arith) h)
subformulas-AreDistinct (equi a b) =
    AreDistinct-push (union (subformulas a) (subformulas b)) (equi a b)
    (union-AreDistinct (subformulas a) (subformulas b) (subformulas-AreDistinct a) (subformulas-AreDistinct b))
    (λ h. operands_lack a b (equi a b) (omega arith) (omega arith) h)
subformulas-AreDistinct (nec a) =
    AreDistinct-push (subformulas a) (nec a) (subformulas-AreDistinct a)
    (λ h. larger_is_new a (nec a) (omega arith) ((subformulas-IsSubformula a (nec a)).0 h))
subformulas-AreDistinct (poss a) =
    AreDistinct-push (subformulas a) (poss a) (subformulas-AreDistinct a)
    (λ h. larger_is_new a (poss a) (omega arith) ((subformulas-IsSubformula a (poss a)).0 h))
