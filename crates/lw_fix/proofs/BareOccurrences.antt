-- The test of an occurrence under no modality decides whether there is one.
use Rattle.std.proofs.Common.{ℕ, List}
use Rattle.std.specs.Bool.{Decides}
use Rattle.std.proofs.lemmas.Bool.{false≢true}
use Rattle.std.proofs.lemmas.Bool.Decides.{Decides-or}
use Rattle.std.proofs.lemmas.Slice.Eq.{bytes_eq-Decides}
use Rattle.lw_formula.specs.Formula.{Formula, letter, falsum, verum, neg, conj, disj, impl, equi, nec, poss}
use Rattle.lw_fix.specs.Outermost.{StandsBare}
use Rattle.lw_fix.specs.Private.OutermostIds.{stands_bare}

pub stands_bare-Decides : (p : List ℕ) (a : Formula) → Decides (stands_bare p a) (StandsBare p a)
stands_bare-Decides p (letter q) = bytes_eq-Decides p q
stands_bare-Decides p falsum = (λ e. false≢true e, λ h. absurd h)
stands_bare-Decides p verum = (λ e. false≢true e, λ h. absurd h)
stands_bare-Decides p (neg a) = stands_bare-Decides p a
stands_bare-Decides p (conj a b) = Decides-or (stands_bare p a) (stands_bare p b) (stands_bare-Decides p a) (stands_bare-Decides p b)
stands_bare-Decides p (disj a b) = Decides-or (stands_bare p a) (stands_bare p b) (stands_bare-Decides p a) (stands_bare-Decides p b)
stands_bare-Decides p (impl a b) = Decides-or (stands_bare p a) (stands_bare p b) (stands_bare-Decides p a) (stands_bare-Decides p b)
stands_bare-Decides p (equi a b) = Decides-or (stands_bare p a) (stands_bare p b) (stands_bare-Decides p a) (stands_bare-Decides p b)
stands_bare-Decides p (nec a) = (λ e. false≢true e, λ h. absurd h)
stands_bare-Decides p (poss a) = (λ e. false≢true e, λ h. absurd h)
