-- Each subformula of the normal form is one of at most 6 formulas that belong to a subformula of the formula.
use Rattle.std.proofs.Common.{◌≡◌, ◌*◌, ◌≤◌, List, [], ◌∷◌, ◌++◌, inl, inr, ⊎_elim, length, refl, sym, subst, arith, length-append}
use Rattle.std.specs.List.{Contains}
use Rattle.std.proofs.lemmas.List.Elements.{Contains-append_left, Contains-append_right}
use Rattle.lw_formula.specs.declared.sign.Sign.{Sign}
use Rattle.lw_formula.specs.declared.sign.Sign.TheVariants.{T, F}
use Rattle.lw_formula.specs.Formula.{Formula, letter, falsum, verum, neg, conj, disj, impl, equi, nec, poss, IsSubformula, subformulas, subformula_count}
use Rattle.lw_formula.proofs.ListMembers.{Contains-nil, Contains-head, Contains-tail, Contains-cons_cases}
use Rattle.lw_formula.proofs.SubformulaLists.{IsSubformula-refl, IsSubformula-trans, subformulas-IsSubformula, subformulas-AreDistinct}
use Rattle.lw_pool.proofs.EqualLengths.{length-le_from_members}
use Rattle.lw_normal.specs.NegationNormalForm.{nnf_under, nnf}

-- the pairs of which the normal forms of `B <-> C` are made; another formula needs none
abbrev pairs_of : Formula → List Formula
pairs_of (equi a b) =
    conj (nnf_under T a) (nnf_under T b) ∷ conj (nnf_under F a) (nnf_under F b)
    ∷ conj (nnf_under T a) (nnf_under F b) ∷ conj (nnf_under F a) (nnf_under T b) ∷ []
pairs_of _ = falsum ∷ falsum ∷ falsum ∷ falsum ∷ []

-- the formulas that belong to one
abbrev six : Formula → List Formula
six a = nnf_under T a ∷ nnf_under F a ∷ pairs_of a

length-six : (a : Formula) → length (six a) ≡ 6
length-six (letter p) = refl
length-six falsum = refl
length-six verum = refl
length-six (neg a) = refl
length-six (conj a b) = refl
length-six (disj a b) = refl
length-six (impl a b) = refl
length-six (equi a b) = refl
length-six (nec a) = refl
length-six (poss a) = refl

-- those that belong to the formulas of a list
abbrev sixes : List Formula → List Formula
sixes [] = []
sixes (a ∷ bs) = six a ++ sixes bs

length-sixes : (bs : List Formula) → length (sixes bs) ≡ 6 * length bs
length-sixes [] = refl
length-sixes (a ∷ bs) = omega (arith, length-append (six a) (sixes bs), length-six a, length-sixes bs)

sixes-Contains : (bs : List Formula) (a x : Formula) → Contains bs a → Contains (six a) x → Contains (sixes bs) x
sixes-Contains [] a x h own = absurd (Contains-nil a h)
sixes-Contains (c ∷ cs) a x h own =
    ⊎_elim
    (λ e. Contains-append_left (six c) (sixes cs) x (subst (λ (d : Formula). Contains (six d) x) (sym e) own))
    (λ rest. Contains-append_right (six c) (sixes cs) x (sixes-Contains cs a x rest own))
    (Contains-cons_cases c cs a h)

-- the formula belongs to a subformula
abbrev Belongs : Formula → Formula → Type 0
Belongs x a = (b : Formula) × IsSubformula b a × Contains (six b) x

-- both normal forms belong to the formula
here : (s : Sign) (a x : Formula) → x ≡ nnf_under s a → Belongs x a
here T a x e = (a, IsSubformula-refl a, subst (Contains (six a)) (sym e) (Contains-head (nnf_under T a) (nnf_under F a ∷ pairs_of a)))
here F a x e =
    (a, IsSubformula-refl a, subst (Contains (six a)) (sym e) (Contains-tail (nnf_under T a) (nnf_under F a ∷ pairs_of a) (nnf_under F a) (Contains-head (nnf_under F a) (pairs_of a))))

-- so do the pairs
pair : (a b x : Formula) → Contains (pairs_of (equi a b)) x → Belongs x (equi a b)
pair a b x h =
    let c = equi a b in
    (c, IsSubformula-refl c, Contains-tail (nnf_under T c) (nnf_under F c ∷ pairs_of c) x (Contains-tail (nnf_under F c) (pairs_of c) x h))

-- the four pairs stand in the list
at_both : (a b x : Formula) → x ≡ conj (nnf_under T a) (nnf_under T b) → Contains (pairs_of (equi a b)) x
at_both a b x e = subst (Contains (pairs_of (equi a b))) (sym e) (Contains-head (conj (nnf_under T a) (nnf_under T b)) (conj (nnf_under F a) (nnf_under F b) ∷ conj (nnf_under T a) (nnf_under F b) ∷ conj (nnf_under F a) (nnf_under T b) ∷ []))

at_neither : (a b x : Formula) → x ≡ conj (nnf_under F a) (nnf_under F b) → Contains (pairs_of (equi a b)) x
at_neither a b x e = subst (Contains (pairs_of (equi a b))) (sym e) (Contains-tail (conj (nnf_under T a) (nnf_under T b)) (conj (nnf_under F a) (nnf_under F b) ∷ conj (nnf_under T a) (nnf_under F b) ∷ conj (nnf_under F a) (nnf_under T b) ∷ []) (conj (nnf_under F a) (nnf_under F b)) (Contains-head (conj (nnf_under F a) (nnf_under F b)) (conj (nnf_under T a) (nnf_under F b) ∷ conj (nnf_under F a) (nnf_under T b) ∷ [])))

at_left : (a b x : Formula) → x ≡ conj (nnf_under T a) (nnf_under F b) → Contains (pairs_of (equi a b)) x
at_left a b x e = subst (Contains (pairs_of (equi a b))) (sym e) (Contains-tail (conj (nnf_under T a) (nnf_under T b)) (conj (nnf_under F a) (nnf_under F b) ∷ conj (nnf_under T a) (nnf_under F b) ∷ conj (nnf_under F a) (nnf_under T b) ∷ []) (conj (nnf_under T a) (nnf_under F b)) (Contains-tail (conj (nnf_under F a) (nnf_under F b)) (conj (nnf_under T a) (nnf_under F b) ∷ conj (nnf_under F a) (nnf_under T b) ∷ []) (conj (nnf_under T a) (nnf_under F b)) (Contains-head (conj (nnf_under T a) (nnf_under F b)) (conj (nnf_under F a) (nnf_under T b) ∷ []))))

at_right : (a b x : Formula) → x ≡ conj (nnf_under F a) (nnf_under T b) → Contains (pairs_of (equi a b)) x
at_right a b x e = subst (Contains (pairs_of (equi a b))) (sym e) (Contains-tail (conj (nnf_under T a) (nnf_under T b)) (conj (nnf_under F a) (nnf_under F b) ∷ conj (nnf_under T a) (nnf_under F b) ∷ conj (nnf_under F a) (nnf_under T b) ∷ []) (conj (nnf_under F a) (nnf_under T b)) (Contains-tail (conj (nnf_under F a) (nnf_under F b)) (conj (nnf_under T a) (nnf_under F b) ∷ conj (nnf_under F a) (nnf_under T b) ∷ []) (conj (nnf_under F a) (nnf_under T b)) (Contains-tail (conj (nnf_under T a) (nnf_under F b)) (conj (nnf_under F a) (nnf_under T b) ∷ []) (conj (nnf_under F a) (nnf_under T b)) (Contains-head (conj (nnf_under F a) (nnf_under T b)) ([])))))

-- what belongs to a subformula's subformula belongs to the formula's
below : (a c x : Formula) → IsSubformula a c → Belongs x a → Belongs x c
below a c x part h = (h.0, IsSubformula-trans h.0 a c h.1 part, h.2)

belongs : (s : Sign) (a x : Formula) → IsSubformula x (nnf_under s a) → Belongs x a
belongs T (letter p) x e = here T (letter p) x e
belongs F (letter p) x (inl e) = here F (letter p) x e
belongs F (letter p) x (inr e) = here T (letter p) x e
belongs T falsum x e = here T falsum x e
belongs F falsum x e = here F falsum x e
belongs T verum x e = here T verum x e
belongs F verum x e = here F verum x e
belongs T (neg a) x h = below a (neg a) x (inr (IsSubformula-refl a)) (belongs F a x h)
belongs F (neg a) x h = below a (neg a) x (inr (IsSubformula-refl a)) (belongs T a x h)
belongs T (conj a b) x (inl e) = here T (conj a b) x e
belongs T (conj a b) x (inr (inl h)) = below a (conj a b) x (inr (inl (IsSubformula-refl a))) (belongs T a x h)
belongs T (conj a b) x (inr (inr h)) = below b (conj a b) x (inr (inr (IsSubformula-refl b))) (belongs T b x h)
belongs F (conj a b) x (inl e) = here F (conj a b) x e
belongs F (conj a b) x (inr (inl h)) = below a (conj a b) x (inr (inl (IsSubformula-refl a))) (belongs F a x h)
belongs F (conj a b) x (inr (inr h)) = below b (conj a b) x (inr (inr (IsSubformula-refl b))) (belongs F b x h)
belongs T (disj a b) x (inl e) = here T (disj a b) x e
belongs T (disj a b) x (inr (inl h)) = below a (disj a b) x (inr (inl (IsSubformula-refl a))) (belongs T a x h)
belongs T (disj a b) x (inr (inr h)) = below b (disj a b) x (inr (inr (IsSubformula-refl b))) (belongs T b x h)
belongs F (disj a b) x (inl e) = here F (disj a b) x e
belongs F (disj a b) x (inr (inl h)) = below a (disj a b) x (inr (inl (IsSubformula-refl a))) (belongs F a x h)
belongs F (disj a b) x (inr (inr h)) = below b (disj a b) x (inr (inr (IsSubformula-refl b))) (belongs F b x h)
belongs T (impl a b) x (inl e) = here T (impl a b) x e
belongs T (impl a b) x (inr (inl h)) = below a (impl a b) x (inr (inl (IsSubformula-refl a))) (belongs F a x h)
belongs T (impl a b) x (inr (inr h)) = below b (impl a b) x (inr (inr (IsSubformula-refl b))) (belongs T b x h)
belongs F (impl a b) x (inl e) = here F (impl a b) x e
belongs F (impl a b) x (inr (inl h)) = below a (impl a b) x (inr (inl (IsSubformula-refl a))) (belongs T a x h)
belongs F (impl a b) x (inr (inr h)) = below b (impl a b) x (inr (inr (IsSubformula-refl b))) (belongs F b x h)
belongs T (equi a b) x (inl e) = here T (equi a b) x e
belongs T (equi a b) x (inr (inl (inl e))) = pair a b x (at_both a b x e)
belongs T (equi a b) x (inr (inl (inr (inl h)))) = below a (equi a b) x (inr (inl (IsSubformula-refl a))) (belongs T a x h)
belongs T (equi a b) x (inr (inl (inr (inr h)))) = below b (equi a b) x (inr (inr (IsSubformula-refl b))) (belongs T b x h)
belongs T (equi a b) x (inr (inr (inl e))) = pair a b x (at_neither a b x e)
belongs T (equi a b) x (inr (inr (inr (inl h)))) = below a (equi a b) x (inr (inl (IsSubformula-refl a))) (belongs F a x h)
belongs T (equi a b) x (inr (inr (inr (inr h)))) = below b (equi a b) x (inr (inr (IsSubformula-refl b))) (belongs F b x h)
belongs F (equi a b) x (inl e) = here F (equi a b) x e
belongs F (equi a b) x (inr (inl (inl e))) = pair a b x (at_left a b x e)
belongs F (equi a b) x (inr (inl (inr (inl h)))) = below a (equi a b) x (inr (inl (IsSubformula-refl a))) (belongs T a x h)
belongs F (equi a b) x (inr (inl (inr (inr h)))) = below b (equi a b) x (inr (inr (IsSubformula-refl b))) (belongs F b x h)
belongs F (equi a b) x (inr (inr (inl e))) = pair a b x (at_right a b x e)
belongs F (equi a b) x (inr (inr (inr (inl h)))) = below a (equi a b) x (inr (inl (IsSubformula-refl a))) (belongs F a x h)
belongs F (equi a b) x (inr (inr (inr (inr h)))) = below b (equi a b) x (inr (inr (IsSubformula-refl b))) (belongs T b x h)
belongs T (nec a) x (inl e) = here T (nec a) x e
belongs T (nec a) x (inr h) = below a (nec a) x (inr (IsSubformula-refl a)) (belongs T a x h)
belongs F (nec a) x (inl e) = here F (nec a) x e
belongs F (nec a) x (inr h) = below a (nec a) x (inr (IsSubformula-refl a)) (belongs F a x h)
belongs T (poss a) x (inl e) = here T (poss a) x e
belongs T (poss a) x (inr h) = below a (poss a) x (inr (IsSubformula-refl a)) (belongs T a x h)
belongs F (poss a) x (inl e) = here F (poss a) x e
belongs F (poss a) x (inr h) = below a (poss a) x (inr (IsSubformula-refl a)) (belongs F a x h)

pub subformula_count-nnf : (a : Formula) → subformula_count (nnf a) ≤ 6 * subformula_count a
subformula_count-nnf a =
    let few = length-le_from_members (subformulas (nnf a)) (sixes (subformulas a)) (subformulas-AreDistinct (nnf a))
    (λ x h.
    let of = belongs T a x ((subformulas-IsSubformula (nnf a) x).0 h) in
    sixes-Contains (subformulas a) of.0 x ((subformulas-IsSubformula a of.0).1 of.1) of.2) in
    omega (arith, few, length-sixes (subformulas a))
