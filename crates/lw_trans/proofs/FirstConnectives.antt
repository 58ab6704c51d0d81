-- What the walk finds is the first of the four connectives.
use Rattle.std.proofs.Common.{◌≡◌, ◌≤◌, ◌⊎◌, ⊎_elim, inl, inr, refl, ap, subst, arith, Option, Some, None}
use Rattle.std.specs.Prelude.{nat_le}
use Rattle.std.proofs.lemmas.Bool.{cond_both, leb-true, leb-false}
use Rattle.lw_formula.specs.Formula.{Formula, letter, falsum, verum, neg, conj, disj, impl, equi, nec, poss}
use Rattle.lw_trans.specs.declared.connective.Connective.{Connective}
use Rattle.lw_trans.specs.declared.connective.Connective.TheVariants.{Nec, Poss, Iff, Top}
use Rattle.lw_trans.specs.Connectives.{StandsIn, IsIntuitionistic, IsFirst, naming_place}
use Rattle.lw_trans.specs.Private.FirstConnective.{earlier, first_of}

-- the connective is the first that has the property, or none has it
abbrev pub FirstWith : (Connective → Type 0) → Option Connective → Type 0
FirstWith P None = (what : Connective) → ¬ P what
FirstWith P (Some what) = P what × ((other : Connective) → P other → naming_place what ≤ naming_place other)

-- the earlier of the first with one property and the first with another is the first with either
FirstWith-earlier : (P Q : Connective → Type 0) (x y : Option Connective) → FirstWith P x → FirstWith Q y → FirstWith (λ what. P what ⊎ Q what) (earlier x y)
FirstWith-earlier P Q None None p q = λ what h. ⊎_elim (p what) (q what) h
FirstWith-earlier P Q None (Some b) p q = (inr q.0, λ other h. ⊎_elim (λ l. absurd (p other l)) (λ r. q.1 other r) h)
FirstWith-earlier P Q (Some a) None p q = (inl p.0, λ other h. ⊎_elim (λ l. p.1 other l) (λ r. absurd (q other r)) h)
FirstWith-earlier P Q (Some a) (Some b) p q =
    cond_both (nat_le (naming_place a) (naming_place b)) (Some a) (Some b) (FirstWith (λ what. P what ⊎ Q what))
    (λ yes. let l = leb-true (naming_place a) (naming_place b) yes in (inl p.0, λ other h. ⊎_elim (λ left. p.1 other left) (λ right. let far = q.1 other right in omega (arith, l, far)) h))
    (λ no. let l = leb-false (naming_place a) (naming_place b) no in (inr q.0, λ other h. ⊎_elim (λ left. let far = p.1 other left in omega (arith, l, far)) (λ right. q.1 other right) h))

-- a connective alone
FirstWith-alone : (what : Connective) → FirstWith (λ other. other ≡ what) (Some what)
FirstWith-alone what = (refl, λ other e. let same = ap naming_place e in omega (arith, same))

first_of-FirstWith : (a : Formula) → FirstWith (λ what. StandsIn what a) (first_of a)
first_of-FirstWith (letter p) = λ what h. h
first_of-FirstWith falsum = λ what h. h
first_of-FirstWith verum = FirstWith-alone Top
first_of-FirstWith (neg a) = first_of-FirstWith a
first_of-FirstWith (conj a b) = FirstWith-earlier (λ what. StandsIn what a) (λ what. StandsIn what b) (first_of a) (first_of b) (first_of-FirstWith a) (first_of-FirstWith b)
first_of-FirstWith (disj a b) = FirstWith-earlier (λ what. StandsIn what a) (λ what. StandsIn what b) (first_of a) (first_of b) (first_of-FirstWith a) (first_of-FirstWith b)
first_of-FirstWith (impl a b) = FirstWith-earlier (λ what. StandsIn what a) (λ what. StandsIn what b) (first_of a) (first_of b) (first_of-FirstWith a) (first_of-FirstWith b)
first_of-FirstWith (equi a b) =
    FirstWith-earlier (λ what. what ≡ Iff) (λ what. StandsIn what a ⊎ StandsIn what b) (Some Iff) (earlier (first_of a) (first_of b)) (FirstWith-alone Iff)
    (FirstWith-earlier (λ what. StandsIn what a) (λ what. StandsIn what b) (first_of a) (first_of b) (first_of-FirstWith a) (first_of-FirstWith b))
first_of-FirstWith (nec a) = FirstWith-earlier (λ what. what ≡ Nec) (λ what. StandsIn what a) (Some Nec) (first_of a) (FirstWith-alone Nec) (first_of-FirstWith a)
first_of-FirstWith (poss a) = FirstWith-earlier (λ what. what ≡ Poss) (λ what. StandsIn what a) (Some Poss) (first_of a) (FirstWith-alone Poss) (first_of-FirstWith a)

-- where the walk finds one, it is the first
pub first_of-Some : (a : Formula) (what : Connective) → first_of a ≡ Some what → IsFirst what a
first_of-Some a what e =
    let found = subst (FirstWith (λ other. StandsIn other a)) e (first_of-FirstWith a) in
    record { stands = found.0; first = found.1 }

-- where it finds none, there is none
pub first_of-None : (a : Formula) → first_of a ≡ None → IsIntuitionistic a
first_of-None a e = subst (FirstWith (λ other. StandsIn other a)) e (first_of-FirstWith a)
