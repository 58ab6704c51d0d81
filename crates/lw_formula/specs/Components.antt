-- The components of signed formulas: Smullyan's uniform notation, with Fitting's ν and π for the modal formulas.
-- The rows for `<->` and the guards are this project's statement of known techniques.
use Rattle.std.specs.Prelude.{Bool, true, false, Option, Some, None}
use Rattle.lw_formula.specs.declared.sign.Sign.TheVariants.{T, F}
use Rattle.lw_formula.specs.declared.parts.Parts.{Parts}
use Rattle.lw_formula.specs.declared.parts.Parts.TheVariants.{Nothing, One, Two, Nu, Pi}
use Rattle.lw_formula.specs.Formula.{falsum, verum, neg, conj, disj, impl, equi, nec, poss}
use Rattle.lw_formula.specs.Signed.{Signed}

-- the table of components, a row for each sign and connective
abbrev pub parts_of : Signed → Parts Signed
parts_of (T, conj a b) = One (T, a) (Some (T, b))
parts_of (F, disj a b) = One (F, a) (Some (F, b))
parts_of (F, impl a b) = One (T, a) (Some (F, b))
parts_of (T, neg a) = One (F, a) None
parts_of (F, neg a) = One (T, a) None
parts_of (F, conj a b) = Two ((F, a), None) ((F, b), None)
parts_of (T, disj a b) = Two ((T, a), None) ((T, b), None)
parts_of (T, impl a b) = Two ((F, a), None) ((T, b), None)
parts_of (T, equi a b) = Two ((T, a), Some (T, b)) ((F, a), Some (F, b))
parts_of (F, equi a b) = Two ((T, a), Some (F, b)) ((F, a), Some (T, b))
parts_of (T, nec a) = Nu (T, a)
parts_of (F, poss a) = Nu (F, a)
parts_of (F, nec a) = Pi (F, a)
parts_of (T, poss a) = Pi (T, a)
parts_of _ = Nothing

-- `T false` and `F true` hold nowhere
abbrev pub is_absurd : Signed → Bool
is_absurd (T, falsum) = true
is_absurd (F, verum) = true
is_absurd _ = false

-- the guard that the step of Grz adds for a π: `T box(A -> box A)` for `F box A`, `F dia(~A & dia A)` for `T dia A`
abbrev pub guard_of : Signed → Option Signed
guard_of (F, nec a) = Some (T, nec (impl a (nec a)))
guard_of (T, poss a) = Some (F, poss (conj (neg a) (poss a)))
guard_of _ = None
