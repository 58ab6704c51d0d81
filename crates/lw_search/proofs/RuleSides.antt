-- What holds of all components holds of each that a rule adds.
use Rattle.std.proofs.Common.{◌≡◌, ℕ, true, nat_eq, Option, Some, None, List, [], ◌∷◌, inl, inr, sym, subst, eqb-true}
use Rattle.std.specs.Bool.{⊤}
use Rattle.std.proofs.lemmas.Bool.{or_cases, false≢true}
use Rattle.lw_formula.specs.declared.logic.Logic.{Logic}
use Rattle.lw_formula.specs.declared.parts.Parts.{Parts}
use Rattle.lw_formula.specs.declared.parts.Parts.TheVariants.{Nothing, One, Two, Nu, Pi}
use Rattle.lw_closure.specs.Mapping.{OfBoth, OfParts}
use Rattle.lw_sat.specs.Moves.{listed, IsSide}
use Rattle.lw_sat.specs.Sets.{among}

-- P holds of each of the list
abbrev Each : (ℕ → Type 0) → List ℕ → Type 0
Each P [] = ⊤
Each P (c ∷ cs) = P c × Each P cs

each_at : (P : ℕ → Type 0) (cs : List ℕ) → Each P cs → (j : ℕ) → among cs j ≡ true → P j
each_at P [] h j e = absurd (false≢true e)
each_at P (c ∷ cs) h j e = elim (or_cases (nat_eq c j) (among cs j) e) [ inl here ↦ subst P (eqb-true c j here) h.0 | inr there ↦ each_at P cs h.1 j there ]

both_each : (P : ℕ → Type 0) (p : ℕ × Option ℕ) → OfBoth P p → Each P (listed p)
both_each P (a, None) h = (h, tt)
both_each P (a, Some b) h = (h.0, (h.1, tt))

side_each : (P : ℕ → Type 0) (L : Logic) (p : Parts ℕ) (cs : List ℕ) → OfParts P p → IsSide L p cs → Each P cs
side_each P L Nothing cs h side = absurd side
side_each P L (One a b) cs h side = subst (Each P) (sym side) (both_each P (a, b) h)
side_each P L (Two p q) cs h (inl side) = subst (Each P) (sym side) (both_each P p h.0)
side_each P L (Two p q) cs h (inr side) = subst (Each P) (sym side) (both_each P q h.1)
side_each P L (Nu c) cs h side = subst (Each P) (sym side.1) (h, tt)
side_each P L (Pi c) cs h side = absurd side

pub of_side : (P : ℕ → Type 0) (L : Logic) (p : Parts ℕ) (cs : List ℕ) → OfParts P p → IsSide L p cs → (j : ℕ) → among cs j ≡ true → P j
of_side P L p cs h side = each_at P cs (side_each P L p cs h side)
