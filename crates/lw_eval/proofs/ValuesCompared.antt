-- Values that are compared, as they are seen.
use Rattle.std.proofs.lemmas.Bool.{false≢true}
use Rattle.std.proofs.Common.{◌≡◌, ◌≢◌, ◌↔◌, sym, refl, List, Bool, true, false, not, IsTrue}
use Rattle.lw_formula.specs.Formula.{Formula}
use Rattle.lw_pool.specs.declared.id.FormId.{FormId}
use Rattle.lw_value.specs.Values.{Val, seen, truth}
use Rattle.lw_value.specs.Evidence.{HasNoCertificate}
use Rattle.lw_value.proofs.EvidenceSeen.{no_certificate_seen, no_certificate_from_seen}
use Rattle.lw_eval.specs.declared.fault.EvalFault.{EvalFault}
use Rattle.lw_eval.specs.declared.fault.EvalFault.TheVariants.{Troubled, Memory}
use Rattle.lw_eval.specs.Evaluations.{Evaluation, Got, Tells}
use Rattle.lw_ast.specs.declared.operator.Relation.{Relation}
use Rattle.lw_ast.specs.declared.operator.Relation.TheVariants.{Equal, Unequal}
use Rattle.lw_eval.specs.Operators.{Compared, Compares}
use Rattle.lw_eval.specs.Private.Given.{Faults, IsIncomparable}

-- the answer to whether a statement holds, and to whether it doesn't
told : (P : Type 0) (b : Bool) → (IsTrue b ↔ P) → Tells P (Got (truth b))
told P true h = Tells.holds (h.0 refl)
told P false h = Tells.fails_to (λ p. false≢true (h.1 p))

denied : (P : Type 0) (b : Bool) → (IsTrue b ↔ P) → Tells (¬ P) (Got (truth (not b)))
denied P true h = Tells.fails_to (λ no. no (h.0 refl))
denied P false h = Tells.holds (λ p. false≢true (h.1 p))

pub equal : (ts : List Formula) (v w : Val FormId) (b : Bool) → HasNoCertificate v → HasNoCertificate w → (IsTrue b ↔ (seen ts v ≡ seen ts w)) →
    Compared (seen ts v) (seen ts w) (Tells (seen ts v ≡ seen ts w)) (Got (truth b))
equal ts v w b h k p = Compared.plain (no_certificate_seen ts v h) (no_certificate_seen ts w k) (told (seen ts v ≡ seen ts w) b p)

pub unequal : (ts : List Formula) (v w : Val FormId) (b : Bool) → HasNoCertificate v → HasNoCertificate w → (IsTrue b ↔ (seen ts v ≡ seen ts w)) →
    Compared (seen ts v) (seen ts w) (Tells (seen ts v ≢ seen ts w)) (Got (truth (not b)))
unequal ts v w b h k p = Compared.plain (no_certificate_seen ts v h) (no_certificate_seen ts w k) (denied (seen ts v ≡ seen ts w) b p)

pub left_certified : (ts : List Formula) (v w : Val FormId) (b : Bool) → (IsTrue b ↔ HasNoCertificate v) → b ≡ false → ¬ (HasNoCertificate (seen ts v) × HasNoCertificate (seen ts w))
left_certified ts v w true p q h = absurd (false≢true (sym q))
left_certified ts v w false p q h = false≢true (p.1 (no_certificate_from_seen ts v h.0))

pub right_certified : (ts : List Formula) (v w : Val FormId) (b : Bool) → (IsTrue b ↔ HasNoCertificate w) → b ≡ false → ¬ (HasNoCertificate (seen ts v) × HasNoCertificate (seen ts w))
right_certified ts v w true p q h = absurd (false≢true (sym q))
right_certified ts v w false p q h = false≢true (p.1 (no_certificate_from_seen ts w h.1))

-- what the signs `==` and `!=` say
pub says_equal : (r : Relation) (v w x : Val Formula) → r ≡ Equal → Compared v w (Tells (v ≡ w)) (Got x) → Compares r v w (Got x)
says_equal r v w x p h = rw p h

pub says_unequal : (r : Relation) (v w x : Val Formula) → r ≡ Unequal → Compared v w (Tells (v ≢ w)) (Got x) → Compares r v w (Got x)
says_unequal r v w x p h = rw p h

incomparable : (v w : Val Formula) (answer : Evaluation (Val Formula) → Type 0) (fault : EvalFault) → IsIncomparable v w fault → Faults (Compared v w answer) fault
incomparable v w answer (Troubled t) h = rw h.0 (Compared.certified h.1)
incomparable v w answer Memory h = tt

pub equal_fails : (r : Relation) (v w : Val Formula) (fault : EvalFault) → r ≡ Equal → IsIncomparable v w fault → Faults (Compares r v w) fault
equal_fails r v w fault p h = rw p (incomparable v w (Tells (v ≡ w)) fault h)

pub unequal_fails : (r : Relation) (v w : Val Formula) (fault : EvalFault) → r ≡ Unequal → IsIncomparable v w fault → Faults (Compares r v w) fault
unequal_fails r v w fault p h = rw p (incomparable v w (Tells (v ≢ w)) fault h)
