-- What is printed of a certificate is accepted.
use Rattle.std.proofs.Common.{◌≡◌, ℕ, ◌<◌, ◌≤◌, List, length, ◌↔◌, refl, sym, ◌∙◌, ap, subst, arith}
use Rattle.std.proofs.lemmas.Option.{none-some}
use Rattle.lw_formula.specs.declared.logic.Logic.{Logic}
use Rattle.lw_formula.specs.declared.logic.Logic.TheVariants.{K, KT, S4, S5, GL, Grz, K4, KD}
use Rattle.lw_formula.specs.Formula.{Formula}
use Rattle.lw_formula.specs.FiniteModel.{FiniteModel, Sees, HasFact}
use Rattle.lw_formula.specs.Class.{HasFrame, IsSerial}
use Rattle.lw_formula.specs.Validity.{Refutes}
use Rattle.lw_formula.specs.Laws.{TruthDependsOnVariables}
use Rattle.lw_formula.specs.Signed.{Signed}
use Rattle.lw_proof.specs.Tree.{Tree}
use Rattle.lw_proof.specs.Lean.{Lean}
use Rattle.lw_proof.specs.Derivation.{Proves}
use Rattle.lw_proof.specs.Break.{first_break}
use Rattle.lw_proof.specs.Laws.{FirstBreakIsExact}
use Rattle.lw_cert.specs.declared.fault.CertFault.TheVariants as fault
use Rattle.lw_cert.specs.Lines.{Row, pieces}
use Rattle.lw_cert.specs.Sheet.{Sheet, Content, Steps, Table}
use Rattle.lw_cert.specs.Certificates.{AreRowsOf}
use Rattle.lw_cert.specs.CertificateFaults.{Reads}
use Rattle.lw_cert.specs.Laws.{HasOneAnswer, HasOneCertificate}
use Rattle.lw_value.specs.Values.{Evidence, proved, refuted, Val, certificate}
use Rattle.lw_value.specs.ValueTexts.{Tells}
use Rattle.lw_eval.specs.Evaluations.{Evaluation, Got}
use Rattle.lw_eval.specs.Calls.{Certifies, by_proof, by_model}
use Rattle.lw_cli.specs.declared.finding.Finding.{Finding}
use Rattle.lw_cli.specs.declared.finding.Finding.TheVariants.{FileLimit, ModelText, ProofText, Accepted, RejectedStep, RejectedModel}
use Rattle.lw_cli.specs.FileLimit.{file_limit}
use Rattle.lw_cli.specs.FindingLines.{finding_line, finding_status}
use Rattle.lw_cli.specs.Checked as check
use Rattle.lw_cli.specs.Checked.{IsFinding, IsJudged, IsModelOf}
use Rattle.lw_cli.specs.Commands.{CheckOutcome}
use Rattle.lw_cli.specs.Laws.{PrintedIsAccepted}

-- models that the same rows tell have the same relation
same_relation : (rows : List Row) (m n : FiniteModel) → AreRowsOf m rows → AreRowsOf n rows → (v w : ℕ) → Sees m v w ↔ Sees n v w
same_relation rows m n is are v w =
    (λ h. ((are v).relation w).1 (((is v).relation w).0 h), λ h. ((is v).relation w).1 (((are v).relation w).0 h))

same_facts : (rows : List Row) (m n : FiniteModel) → AreRowsOf m rows → AreRowsOf n rows → (w : ℕ) (p : List ℕ) → HasFact m w p ↔ HasFact n w p
same_facts rows m n is are w p =
    (λ h. ((are w).facts p).1 (((is w).facts p).0 h), λ h. ((is w).facts p).1 (((are w).facts p).0 h))

-- and are frames of the same logics
module _ (m n : FiniteModel) (worlds : m.worlds ≡ n.worlds) (same : (v w : ℕ) → Sees m v w ↔ Sees n v w) where
  reflexive : ((w : ℕ) → w < m.worlds → Sees m w w) → (w : ℕ) → w < n.worlds → Sees n w w
  reflexive is w within = (same w w).0 (is w (subst (λ k. w < k) (sym worlds) within))

  transitive : ((u v w : ℕ) → Sees m u v → Sees m v w → Sees m u w) → (u v w : ℕ) → Sees n u v → Sees n v w → Sees n u w
  transitive is u v w first next = (same u w).0 (is u v w ((same u v).1 first) ((same v w).1 next))

  symmetric : ((v w : ℕ) → Sees m v w → Sees m w v) → (v w : ℕ) → Sees n v w → Sees n w v
  symmetric is v w sees = (same w v).0 (is v w ((same v w).1 sees))

  antisymmetric : ((v w : ℕ) → Sees m v w → Sees m w v → v ≡ w) → (v w : ℕ) → Sees n v w → Sees n w v → v ≡ w
  antisymmetric is v w sees back = is v w ((same v w).1 sees) ((same w v).1 back)

  serial : IsSerial m → IsSerial n
  serial is w within = let (v, sees) = is w (subst (λ k. w < k) (sym worlds) within) in (v, (same w v).0 sees)

  same_frame : (l : Logic) → HasFrame l m → HasFrame l n
  same_frame K frame = tt
  same_frame KT frame = reflexive frame
  same_frame S4 frame = (reflexive frame.0, transitive frame.1)
  same_frame S5 frame = (reflexive frame.0, symmetric frame.1, transitive frame.2)
  same_frame GL frame = (transitive frame.0, λ w sees. frame.1 w ((same w w).1 sees))
  same_frame Grz frame = (reflexive frame.0, transitive frame.1, antisymmetric frame.2)
  same_frame K4 frame = transitive frame
  same_frame KD frame = serial frame

-- the one refutes what the other does
same_refutes : TruthDependsOnVariables → (l : Logic) (a : Formula) (rows : List Row) (m n : FiniteModel) (w v : ℕ) → v ≡ w → m.worlds ≡ length rows → AreRowsOf m rows
    → IsModelOf rows n → Refutes l m w a → Refutes l n v a
same_refutes truths l a rows m n w v same worlds is are refutes = subst (λ u. Refutes l n u a) (sym same) (record {
  in_class = record {
    well_formed = are.well_formed;
    frame = same_frame m n (worlds ∙ sym are.worlds) (same_relation rows m n is are.told) l refutes.in_class.frame;
  };
  within = subst (λ k. w < k) (worlds ∙ sym are.worlds) refutes.within;
  fails = λ true. refutes.fails ((truths a m n (record {
    relation = same_relation rows m n is are.told;
    facts = λ p occurs u. same_facts rows m n is are.told u p;
  }) w).1 true);
})

-- the evidence of a certificate that may be given
lean_of : (l : Logic) (a : Formula) (P : Tree Signed) (r : Evaluation (Val Formula)) → Certifies l a r → r ≡ Got (certificate l a (proved P)) → Lean l P a
lean_of l a P _ (by_proof Q lean) is = let same : Q ≡ P = cc in subst (λ R. Lean l R a) same lean
lean_of l a P _ (by_model m w refutes bounds) is = absurd (cc)

refutes_of : (l : Logic) (a : Formula) (m : FiniteModel) (w : ℕ) (r : Evaluation (Val Formula)) → Certifies l a r → r ≡ Got (certificate l a (refuted m w)) → Refutes l m w a
refutes_of l a m w _ (by_proof Q lean) is = absurd (cc)
refutes_of l a m w _ (by_model n v refutes bounds) is =
    let model : n ≡ m = cc in
    let world : v ≡ w = cc in
    subst (λ u. Refutes l m u a) world (subst (λ n. Refutes l n v a) model refutes)

-- what a certificate of a formula tells is judged to show it
judged_accepted : TruthDependsOnVariables → FirstBreakIsExact → (l : Logic) (a : Formula) (e : Evidence Formula) (content : Content) (finding : Finding)
    → Certifies l a (Got (certificate l a e)) → Tells e content → IsJudged l a content finding → finding ≡ Accepted
judged_accepted truths exact l a e content Accepted certifies tells judged = refl
judged_accepted truths exact l a (proved P) (Steps t) (RejectedStep step) certifies tells judged =
    absurd (none-some (judged.0, judged.1) (sym ((exact l P a).1 (lean_of l a P _ certifies refl).proves) ∙ ap (first_break l a) (sym tells) ∙ judged.2))
judged_accepted truths exact l a (proved P) (Table v rows) (RejectedStep step) certifies tells judged = absurd tells
judged_accepted truths exact l a (refuted m w) (Steps t) (RejectedStep step) certifies tells judged = absurd tells
judged_accepted truths exact l a (refuted m w) (Table v rows) (RejectedStep step) certifies tells judged = absurd judged
judged_accepted truths exact l a (refuted m w) (Table v rows) RejectedModel certifies tells judged =
    absurd (judged.2 (same_refutes truths l a rows m judged.0 w v tells.0 tells.2 tells.3 judged.1 (refutes_of l a m w _ certifies refl)))
judged_accepted truths exact l a (refuted m w) (Steps t) RejectedModel certifies tells judged = absurd tells
judged_accepted truths exact l a (proved P) (Table v rows) RejectedModel certifies tells judged = absurd tells
judged_accepted truths exact l a (proved P) (Steps t) RejectedModel certifies tells judged = absurd judged
judged_accepted truths exact l a e (Steps t) FileLimit certifies tells judged = absurd judged
judged_accepted truths exact l a e (Table v rows) FileLimit certifies tells judged = absurd judged
judged_accepted truths exact l a e (Steps t) (ModelText line) certifies tells judged = absurd judged
judged_accepted truths exact l a e (Table v rows) (ModelText line) certifies tells judged = absurd judged
judged_accepted truths exact l a e (Steps t) (ProofText line) certifies tells judged = absurd judged
judged_accepted truths exact l a e (Table v rows) (ProofText line) certifies tells judged = absurd judged

model_or_memory : (line : ℕ) → fault.ModelText line ≡ fault.Memory → ⊥
model_or_memory line is = absurd (cc)

proof_or_memory : (line : ℕ) → fault.ProofText line ≡ fault.Memory → ⊥
proof_or_memory line is = absurd (cc)

-- the finding of a text that reads as the certificate
finding_accepted : TruthDependsOnVariables → FirstBreakIsExact → (l : Logic) (a : Formula) (e : Evidence Formula) (content : Content) (bytes : List ℕ) (finding : Finding)
    → ((text : List ℕ) → HasOneAnswer text) → ((text : List ℕ) → HasOneCertificate text) → Certifies l a (Got (certificate l a e)) → Tells e content
    → Reads (pieces bytes) (record { logic = l; formula = a; content = content }) → length bytes ≤ file_limit → IsFinding bytes finding → finding ≡ Accepted
finding_accepted truths exact l a e content bytes _ answer single certifies tells reads short (check.too_long long) = absurd (omega (arith, short, long))
finding_accepted truths exact l a e content bytes _ answer single certifies tells reads short (check.no_model line within told) =
    absurd (model_or_memory line (answer bytes _ reads (fault.ModelText line) told))
finding_accepted truths exact l a e content bytes _ answer single certifies tells reads short (check.no_proof line within told) =
    absurd (proof_or_memory line (answer bytes _ reads (fault.ProofText line) told))
finding_accepted truths exact l a e content bytes finding answer single certifies tells reads short (check.judged c _ within other judged) =
    judged_accepted truths exact l a e content finding certifies tells
    (subst (λ d. IsJudged d.logic d.formula d.content finding) (single bytes c (record { logic = l; formula = a; content = content }) other reads) judged)

-- and that it is accepted is such a finding
is_accepted : (l : Logic) (a : Formula) (e : Evidence Formula) (content : Content) → Certifies l a (Got (certificate l a e)) → Tells e content → IsJudged l a content Accepted
is_accepted l a (proved P) (Steps t) certifies tells = subst (λ u. Proves l u a) (sym tells) (lean_of l a P _ certifies refl).proves
is_accepted l a (refuted m w) (Table v rows) certifies tells =
    let refutes = refutes_of l a m w _ certifies refl in
    (m, record { worlds = tells.2; told = tells.3; well_formed = refutes.in_class.well_formed }, subst (λ u. Refutes l m u a) (sym tells.0) refutes)
is_accepted l a (proved P) (Table v rows) certifies tells = absurd tells
is_accepted l a (refuted m w) (Steps t) certifies tells = absurd tells

pub printed_is_accepted : TruthDependsOnVariables → FirstBreakIsExact → ((text : List ℕ) → HasOneAnswer text) → ((text : List ℕ) → HasOneCertificate text) → PrintedIsAccepted
printed_is_accepted truths exact answer single l a bytes printed reads short out status = (only, all)
  where
    sheet : Sheet
    sheet = record { logic = l; formula = a; content = printed.is_text.content }

    only : CheckOutcome bytes out status → (out ≡ finding_line Accepted) × (status ≡ 0)
    only outcome =
        let is = finding_accepted truths exact l a printed.evidence printed.is_text.content bytes outcome.finding answer single printed.certifies printed.is_text.tells reads short outcome.is_finding in
        (outcome.line ∙ ap finding_line is, outcome.ending ∙ ap finding_status is)

    all : (out ≡ finding_line Accepted) × (status ≡ 0) → CheckOutcome bytes out status
    all says = record {
      finding = Accepted;
      is_finding = check.judged sheet Accepted short reads (is_accepted l a printed.evidence printed.is_text.content printed.certifies printed.is_text.tells);
      line = says.0;
      ending = says.1;
    }
