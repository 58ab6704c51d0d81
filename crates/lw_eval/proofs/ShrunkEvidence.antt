-- A certificate with the quotient of its model still refutes its formula.
use Rattle.std.proofs.Common.{◌≡◌}
use Rattle.lw_formula.specs.declared.logic.Logic.{Logic}
use Rattle.lw_formula.specs.Formula.{Formula}
use Rattle.lw_bisim.proofs.QuotientLaws.{refutation_kept}
use Rattle.lw_value.specs.Values.{Evidence, refuted, Val, formula, truth, number, text, items, logic, certificate, naught}
use Rattle.lw_value.specs.Evidence.{HasEvidence}
use Rattle.lw_eval.specs.Evaluations.{Got, Fails, Given}
use Rattle.lw_eval.specs.Operands.{certificate_in}
use Rattle.lw_eval.specs.Calls.{Shrinks}

shrinks_evident : (l : Logic) (a : Formula) (e : Evidence Formula) (u : Val Formula) → HasEvidence (certificate l a e) → Shrinks l a e (Got u) → HasEvidence u
shrinks_evident l a _ _ has Shrinks.proof = has
shrinks_evident l a (refuted m w) _ has (Shrinks.quotient q is) = refutation_kept l m q w a is has

got_nothing : (u : Val Formula) (t : Rattle.lw_eval.specs.declared.trouble.Trouble.Trouble) → Got u ≡ Fails t → HasEvidence u
got_nothing u t is = absurd (cc)

pub smallest_evident : (v u : Val Formula) → HasEvidence v → Given (certificate_in v) (λ c. Shrinks c.0 c.1 c.2) (Got u) → HasEvidence u
smallest_evident (certificate l a e) u has is = shrinks_evident l a e u has is
smallest_evident (formula a) u has is = got_nothing u _ is
smallest_evident (truth b) u has is = got_nothing u _ is
smallest_evident (number n) u has is = got_nothing u _ is
smallest_evident (text t) u has is = got_nothing u _ is
smallest_evident (items vs) u has is = got_nothing u _ is
smallest_evident (logic l) u has is = got_nothing u _ is
smallest_evident naught u has is = got_nothing u _ is
