-- The first variable of a formula is the first of the list of its variables in byte order.
use Rattle.std.proofs.Common.{◌≡◌, ℕ, suc, Some, None, List, [], ◌∷◌, inl, inr, ⊎_elim, sym, subst, arith}
use Rattle.std.specs.List.{slice_get}
use Rattle.std.specs.Ordering.{nat_cmp}
use Rattle.std.specs.Cmp.Lexicographic.{slice_cmp}
use Rattle.std.specs.declared.cmp.Ordering.TheVariants.{Less}
use Rattle.lw_formula.specs.Formula.{Formula}
use Rattle.lw_formula.specs.Variables.{AreVariables}
use Rattle.lw_formula.proofs.ListMembers.{Contains-nil, Contains-head, Contains-cons_cases}
use Rattle.lw_trace.specs.LetterlessTruth.{IsLetterless}
use Rattle.lw_trace.specs.TraceFaults.{IsFirstVariable}

-- the head of the list stands before its other names
head_first : (a : Formula) (q : List ℕ) (names : List (List ℕ)) → AreVariables a (q ∷ names) → IsFirstVariable q a
head_first a q names exact = record {
  occurs = (exact.variables q).0 (Contains-head q names);
  first = λ p o.
      ⊎_elim
      (λ e. inl (sym e))
      (λ h. inr (subst (λ r. slice_cmp nat_cmp q r ≡ Less) h.2 (exact.ordered 0 (suc h.0) p (omega arith) (omega (arith, h.1)))))
      (Contains-cons_cases q names p ((exact.variables p).1 o));
}

pub first-IsFirstVariable : (a : Formula) (names : List (List ℕ)) (p : List ℕ) → AreVariables a names → Some p ≡ slice_get names 0 → IsFirstVariable p a
first-IsFirstVariable a [] p exact e = absurd (cc e)
first-IsFirstVariable a (q ∷ names) p exact e = let same : q ≡ p = cc e in subst (λ r. IsFirstVariable r a) same (head_first a q names exact)

pub none-IsLetterless : (a : Formula) (names : List (List ℕ)) → AreVariables a names → None ≡ slice_get names 0 → IsLetterless a
none-IsLetterless a [] exact e p o = Contains-nil p ((exact.variables p).1 o)
none-IsLetterless a (q ∷ names) exact e p o = absurd (cc e)
