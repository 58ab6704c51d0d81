-- Components aren't deeper than what they are components of, and those of a ν or a π are less deep.
use Rattle.std.proofs.Common.{◌≡◌, ℕ, ◌+◌, ◌≤◌, true, List, sym, ap, subst, ◌∙◌, arith}
use Rattle.lw_formula.specs.declared.logic.Logic.{Logic}
use Rattle.lw_formula.specs.declared.parts.Parts.{Parts}
use Rattle.lw_formula.specs.declared.parts.Parts.TheVariants.{Nu, Pi}
use Rattle.lw_formula.specs.declared.sign.Sign.TheVariants.{T, F}
use Rattle.lw_formula.specs.Formula.{letter, falsum, verum, neg, conj, disj, impl, equi, nec, poss, depth}
use Rattle.lw_formula.specs.Signed.{Signed}
use Rattle.lw_formula.specs.Components.{parts_of}
use Rattle.lw_closure.specs.Mapping.{OfParts, map_parts}
use Rattle.lw_closure.proofs.MappedComponents.{OfParts-map}
use Rattle.lw_sat.specs.Moves.{IsSide}
use Rattle.lw_sat.specs.Sets.{among}
use Rattle.lw_search.proofs.RuleSides.{of_side}

parts_depth : (x : Signed) → OfParts (λ y. depth y.1 ≤ depth x.1) (parts_of x)
parts_depth (T, letter p) = tt
parts_depth (F, letter p) = tt
parts_depth (T, falsum) = tt
parts_depth (F, falsum) = tt
parts_depth (T, verum) = tt
parts_depth (F, verum) = tt
parts_depth (T, neg a) = omega arith
parts_depth (F, neg a) = omega arith
parts_depth (T, conj a b) = (omega arith, omega arith)
parts_depth (F, conj a b) = (omega arith, omega arith)
parts_depth (T, disj a b) = (omega arith, omega arith)
parts_depth (F, disj a b) = (omega arith, omega arith)
parts_depth (T, impl a b) = (omega arith, omega arith)
parts_depth (F, impl a b) = (omega arith, omega arith)
parts_depth (T, equi a b) = ((omega arith, omega arith), (omega arith, omega arith))
parts_depth (F, equi a b) = ((omega arith, omega arith), (omega arith, omega arith))
parts_depth (T, nec a) = omega arith
parts_depth (F, nec a) = omega arith
parts_depth (T, poss a) = omega arith
parts_depth (F, poss a) = omega arith

nu_depth : (x y : Signed) → parts_of x ≡ Nu y → depth x.1 ≡ depth y.1 + 1
nu_depth (T, nec a) y e = let f : y ≡ (T, a) = cc in ap (λ z. depth z.1 + 1) (sym f)
nu_depth (F, poss a) y e = let f : y ≡ (F, a) = cc in ap (λ z. depth z.1 + 1) (sym f)
nu_depth _ y e = cc

pi_depth : (x y : Signed) → parts_of x ≡ Pi y → depth x.1 ≡ depth y.1 + 1
pi_depth (F, nec a) y e = let f : y ≡ (F, a) = cc in ap (λ z. depth z.1 + 1) (sym f)
pi_depth (T, poss a) y e = let f : y ≡ (T, a) = cc in ap (λ z. depth z.1 + 1) (sym f)
pi_depth _ y e = cc

-- what has these components of numbers, which stand for signed formulas
module _ (f : ℕ → Signed) (x : Signed) (p : Parts ℕ) (e : map_parts f p ≡ parts_of x) where
  -- one of a side of them isn't deeper
  pub side_depth : (L : Logic) (cs : List ℕ) → IsSide L p cs → (j : ℕ) → among cs j ≡ true → depth (f j).1 ≤ depth x.1
  side_depth L cs side j m =
      let P : ℕ → Type 0 = λ i. depth (f i).1 ≤ depth x.1 in
      let h : OfParts P p = OfParts-map f (λ y. depth y.1 ≤ depth x.1) p (subst (OfParts (λ y. depth y.1 ≤ depth x.1)) (sym e) (parts_depth x)) in
      of_side P L p cs h side j m

  pub inside_nu : (c : ℕ) → p ≡ Nu c → depth x.1 ≡ depth (f c).1 + 1
  inside_nu c q = nu_depth x (f c) (sym e ∙ ap (map_parts f) q)

  pub inside_pi : (c : ℕ) → p ≡ Pi c → depth x.1 ≡ depth (f c).1 + 1
  inside_pi c q = pi_depth x (f c) (sym e ∙ ap (map_parts f) q)
