-- What `smallest` gives, as its row has it.
use Rattle.std.proofs.Common.{◌≡◌, ℕ, List}
use Rattle.lw_formula.specs.Formula.{Formula}
use Rattle.lw_formula.specs.FiniteModel.{FiniteModel}
use Rattle.lw_formula.specs.declared.logic.Logic.{Logic}
use Rattle.lw_pool.specs.declared.id.FormId.{FormId}
use Rattle.lw_pool.specs.declared.id.SignedId.{SignedId}
use Rattle.lw_proof.specs.Tree.{Tree}
use Rattle.lw_cert.specs.declared.certificate.Body.TheVariants.{Proved, Refuted}
use Rattle.lw_cert.specs.declared.certificate.Certificate.{Certificate}
use Rattle.lw_bisim.specs.Quotient.{Quotient, IsQuotient, place_of}
use Rattle.lw_value.specs.declared.value.Value.{Value}
use Rattle.lw_value.specs.Certified.{certified}
use Rattle.lw_value.specs.Values.{seen, certificate, refuted}
use Rattle.lw_value.specs.Views.{value_of}
use Rattle.lw_eval.specs.Evaluations.{Got, Given}
use Rattle.lw_eval.specs.Operands.{certificate_in}
use Rattle.lw_eval.specs.Calls.{Shrinks}

-- a certificate with a proof stays as it is
pub proof_stays : (ts : List Formula) (v w : Value) (c : Certificate) (P : Tree SignedId) → value_of v ≡ certified c → c.body ≡ Proved P → value_of w ≡ value_of v
    → Given (certificate_in (seen ts (value_of v))) (λ x. Shrinks x.0 x.1 x.2) (Got (seen ts (value_of w)))
proof_stays ts v w c P is body same = rw (same, is, body) Shrinks.proof

-- one with a model has the quotient, and the class of its world
pub model_shrinks : (ts : List Formula) (v w : Value) (c : Certificate) (l : Logic) (f : FormId) (m : FiniteModel) (n : ℕ) (q : Quotient) → value_of v ≡ certified c → c.body ≡ Refuted m n
    → l ≡ c.logic → f ≡ c.formula → IsQuotient m q → value_of w ≡ certificate l f (refuted q.model (place_of q.places n))
    → Given (certificate_in (seen ts (value_of v))) (λ x. Shrinks x.0 x.1 x.2) (Got (seen ts (value_of w)))
model_shrinks ts v w c l f m n q is body logic form quotient made = rw (made, logic, form, is, body) (Shrinks.quotient q quotient)
