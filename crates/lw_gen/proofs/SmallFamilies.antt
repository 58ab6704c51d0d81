-- Each formula of the families for a number up to 100 has at most 105 distinct subformulas.
use Rattle.std.proofs.Common.{◌≡◌, ◌≤◌, ◌<◌, ◌+◌, ◌*◌, ◌/◌, ℕ, zero, suc, Bool, true, false, List, [], ◌∷◌, ◌++◌, inl, inr, length, refl, sym, ap, subst, arith, length-append}
use Rattle.std.specs.List.{Contains}
use Rattle.std.proofs.lemmas.List.{length-reverse}
use Rattle.std.proofs.lemmas.List.Elements.{Contains-append_left, Contains-append_right}
use Rattle.std.proofs.Math.Nat.{div-add-mod}
use Rattle.lw_formula.specs.Formula.{Formula, impl, nec, poss, IsSubformula, subformulas, subformula_count}
use Rattle.lw_formula.proofs.ListMembers.{Contains-head, Contains-tail}
use Rattle.lw_formula.proofs.SubformulaLists.{subformulas-IsSubformula, subformulas-AreDistinct}
use Rattle.lw_pool.proofs.EqualLengths.{length-le_from_members}
use Rattle.lw_gen.specs.declared.families.Family.{Family}
use Rattle.lw_gen.specs.declared.families.Family.TheVariants.{Transitive, Reflexive, Loeb, Coded}
use Rattle.lw_gen.specs.Families.{p, boxes, under, digits, word, family_formula}
use Rattle.lw_gen.proofs.BinaryDigits.{none_below_two, halved}

-- a list with all subformulas is at least as long as their number
within : (a : Formula) (xs : List Formula) → ((c : Formula) → IsSubformula c a → Contains xs c) → subformula_count a ≤ length xs
within a xs all = length-le_from_members (subformulas a) xs (subformulas-AreDistinct a) (λ c h. all c ((subformulas-IsSubformula a c).0 h))

here : (a : Formula) (xs : List Formula) (c : Formula) → c ≡ a → Contains (a ∷ xs) c
here a xs c e = subst (Contains (a ∷ xs)) (sym e) (Contains-head a xs)

listed : (a c : Formula) → IsSubformula c a → Contains (subformulas a) c
listed a c s = (subformulas-IsSubformula a c).1 s

length-boxes : (i : ℕ) → length (subformulas (boxes i p)) ≡ i + 1
length-boxes zero = refl
length-boxes (suc i) = omega (arith, length-append (subformulas (boxes i p)) (nec (boxes i p) ∷ []), length-boxes i)

length-under : (ds : List Bool) → length (subformulas (under ds p)) ≡ length ds + 1
length-under [] = refl
length-under (false ∷ ds) = omega (arith, length-append (subformulas (under ds p)) (nec (under ds p) ∷ []), length-under ds)
length-under (true ∷ ds) = omega (arith, length-append (subformulas (under ds p)) (poss (under ds p) ∷ []), length-under ds)

-- the numbers below b have at most k digits after the leading one
abbrev AreShort : ℕ → ℕ → Type 0
AreShort b k = (n : ℕ) → n < b → length (digits n) ≤ k

twice : (b k : ℕ) → AreShort b k → AreShort (2 * b) (k + 1)
twice b k short zero l = omega arith
twice b k short (suc zero) l = omega arith
twice b k short (suc (suc n)) l =
    let half = short (suc (suc n) / 2) (omega (arith, div-add-mod (suc (suc n)) 2, l)) in
    omega (arith, half, ap length (halved (suc (suc n)) (omega arith)))

short_below_two : AreShort 2 0
short_below_two n l = omega (arith, ap length (none_below_two n l))

short_below_128 : AreShort 128 6
short_below_128 = twice 64 5 (twice 32 4 (twice 16 3 (twice 8 2 (twice 4 1 (twice 2 0 short_below_two)))))

-- all subformulas of two formulas, and the implication
of_both : (a b c : Formula) → IsSubformula c (impl a b) → Contains (impl a b ∷ subformulas a ++ subformulas b) c
of_both a b c (inl e) = here (impl a b) (subformulas a ++ subformulas b) c e
of_both a b c (inr (inl s)) = Contains-tail (impl a b) (subformulas a ++ subformulas b) c (Contains-append_left (subformulas a) (subformulas b) c (listed a c s))
of_both a b c (inr (inr s)) = Contains-tail (impl a b) (subformulas a ++ subformulas b) c (Contains-append_right (subformulas a) (subformulas b) c (listed b c s))

up : (a c : Formula) → IsSubformula c (impl a (nec a)) → Contains (impl a (nec a) ∷ subformulas (nec a)) c
up a c (inl e) = here (impl a (nec a)) (subformulas (nec a)) c e
up a c (inr (inl s)) = Contains-tail (impl a (nec a)) (subformulas (nec a)) c (listed (nec a) c (inr s))
up a c (inr (inr s)) = Contains-tail (impl a (nec a)) (subformulas (nec a)) c (listed (nec a) c s)

down : (a c : Formula) → IsSubformula c (impl (nec a) a) → Contains (impl (nec a) a ∷ subformulas (nec a)) c
down a c (inl e) = here (impl (nec a) a) (subformulas (nec a)) c e
down a c (inr (inl s)) = Contains-tail (impl (nec a) a) (subformulas (nec a)) c (listed (nec a) c s)
down a c (inr (inr s)) = Contains-tail (impl (nec a) a) (subformulas (nec a)) c (listed (nec a) c (inr s))

-- what is below Löb's formula, and what is below its left side
abbrev below_left : Formula → List Formula
below_left a = impl (nec a) a ∷ subformulas (nec a)

abbrev below_loeb : Formula → List Formula
below_loeb a = nec (impl (nec a) a) ∷ below_left a

abbrev loeb : Formula → Formula
loeb a = impl (nec (impl (nec a) a)) (nec a)

of_loeb : (a c : Formula) → IsSubformula c (loeb a) → Contains (loeb a ∷ below_loeb a) c
of_loeb a c (inl e) = here (loeb a) (below_loeb a) c e
of_loeb a c (inr (inl (inl e))) = Contains-tail (loeb a) (below_loeb a) c (here (nec (impl (nec a) a)) (below_left a) c e)
of_loeb a c (inr (inl (inr s))) =
    Contains-tail (loeb a) (below_loeb a) c (Contains-tail (nec (impl (nec a) a)) (below_left a) c (down a c s))
of_loeb a c (inr (inr s)) =
    Contains-tail (loeb a) (below_loeb a) c
    (Contains-tail (nec (impl (nec a) a)) (below_left a) c (Contains-tail (impl (nec a) a) (subformulas (nec a)) c (listed (nec a) c s)))

pub few_subformulas : (which : Family) (i : ℕ) → i ≤ 100 → subformula_count (family_formula which i) ≤ 105
few_subformulas Transitive i l =
    let a : Formula = boxes i p in
    omega (arith, l, within (impl a (nec a)) (impl a (nec a) ∷ subformulas (nec a)) (up a), length-boxes (suc i))
few_subformulas Reflexive i l =
    let a : Formula = boxes i p in
    omega (arith, l, within (impl (nec a) a) (impl (nec a) a ∷ subformulas (nec a)) (down a), length-boxes (suc i))
few_subformulas Loeb i l =
    let a : Formula = boxes i p in
    omega (arith, l, within (loeb a) (loeb a ∷ below_loeb a) (of_loeb a), length-boxes (suc i))
few_subformulas Coded i l =
    let a : Formula = under (word i) p in
    let b : Formula = under (digits i) p in
    omega (
      arith,
      within (impl a b) (impl a b ∷ subformulas a ++ subformulas b) (of_both a b),
      length-append (subformulas a) (subformulas b),
      length-under (word i),
      length-under (digits i),
      length-reverse (digits i),
      short_below_128 i (omega (arith, l)),
    )
