-- What the steps of `check` say of a certificate is what is to be said of the file.
use Rattle.std.proofs.Common.{◌≡◌, ℕ, ◌<◌, ◌≤◌, List, length, min, Option, Some, None, Result, Ok, Err, IfOk, refl, sym, subst}
use Rattle.std.specs.declared.alloc.AllocError.{AllocError}
use Rattle.std.below.core.specs.declared.int.usize.TheConstants as usize
use Rattle.lw_formula.specs.declared.logic.Logic.{Logic}
use Rattle.lw_formula.specs.Formula.{Formula}
use Rattle.lw_formula.specs.FiniteModel.{FiniteModel, IsWellFormed}
use Rattle.lw_formula.specs.Class.{Class}
use Rattle.lw_formula.specs.Truth.{IsTrueAt}
use Rattle.lw_formula.specs.Validity.{Refutes}
use Rattle.lw_formula.specs.Signed.{Signed}
use Rattle.lw_pool.specs.declared.id.FormId.{FormId}
use Rattle.lw_pool.specs.declared.id.SignedId.{SignedId}
use Rattle.lw_pool.specs.Region.{tree_at}
use Rattle.lw_proof.specs.declared.why.Why.{Why}
use Rattle.lw_proof.specs.Tree.{Tree}
use Rattle.lw_proof.specs.Break.{first_break}
use Rattle.lw_proof.specs.Pooled.{proof_at, IsProofLive}
use Rattle.lw_check.specs.Judgement.{verdict_of}
use Rattle.lw_check.specs.declared.verdict.Verdict.TheVariants as verdict
use Rattle.lw_cert.specs.declared.certificate.Body.TheVariants.{Proved, Refuted}
use Rattle.lw_cert.specs.declared.certificate.Certificate.{Certificate}
use Rattle.lw_cert.specs.Lines.{Row}
use Rattle.lw_cert.specs.Sheet.{Sheet, Content, Steps, Table}
use Rattle.lw_cert.specs.Certificates.{IsContentOf, IsSheetOf, IsTextOf}
use Rattle.lw_cli.specs.declared.finding.Finding.{Finding}
use Rattle.lw_cli.specs.declared.finding.Finding.TheVariants.{FileLimit, ModelText, ProofText, Accepted, RejectedStep, RejectedModel}
use Rattle.lw_cli.specs.FileLimit.{file_limit}
use Rattle.lw_cli.specs.Checked.{IsModelOf, IsJudged, IsFinding, no_model, no_proof, judged}
use Rattle.lw_cli.specs.Private.CheckSteps.{IsRefutation, IsTextFault}

pub finding_of_judged : (ts : List Formula) (c : Certificate) (text : List ℕ) (r : Result Finding AllocError) → length text ≤ file_limit → IsTextOf ts c text
    → ((sheet : Sheet) → IsSheetOf ts c sheet → IfOk r (IsJudged sheet.logic sheet.formula sheet.content)) → IfOk r (IsFinding text)
finding_of_judged ts c text (Err e) short is says = tt
finding_of_judged ts c text (Ok finding) short is says = judged is.sheet finding short is.reads (says is.sheet is.says)

-- a fault of the text
pub finding_of_refusal : (text : List ℕ) (r : Result Finding AllocError) → length text ≤ file_limit → IfOk r (IsTextFault text) → IfOk r (IsFinding text)
finding_of_refusal text (Err e) short told = tt
finding_of_refusal text (Ok (ModelText line)) short told = no_model line short told
finding_of_refusal text (Ok (ProofText line)) short told = no_proof line short told
finding_of_refusal text (Ok FileLimit) short told = absurd told
finding_of_refusal text (Ok Accepted) short told = absurd told
finding_of_refusal text (Ok (RejectedStep step)) short told = absurd told
finding_of_refusal text (Ok RejectedModel) short told = absurd told

-- a proof's verdict
pub judged_proof : (logic : Logic) (ts : List Formula) (goal : FormId) (P : Tree SignedId) (a : Formula) (content : Content) (r : Result Finding AllocError) → tree_at ts goal ≡ a → IsContentOf ts (Proved P) content
    → IfOk r (IsJudged logic (tree_at ts goal) (Steps (proof_at ts P))) → IfOk r (IsJudged logic a content)
judged_proof logic ts goal P a (Steps t) r formula content says =
    subst (λ b. IfOk r (IsJudged logic b (Steps t))) formula (subst (λ u. IfOk r (IsJudged logic (tree_at ts goal) (Steps u))) (sym content.1) says)
judged_proof logic ts goal P a (Table w rows) r formula content says = absurd content

judged_refuted : (logic : Logic) (a : Formula) (m : FiniteModel) (w v : ℕ) (rows : List Row) (finding : Finding) → w ≡ v → IsRefutation logic a m w finding → (IsWellFormed m → IsModelOf rows m) → IsJudged logic a (Table v rows) finding
judged_refuted logic a m w v rows Accepted same says are = (m, are says.0, subst (λ u. Refutes logic m u a) same says.1)
judged_refuted logic a m w v rows RejectedModel same says are = (m, are says.0, λ h. says.1 (subst (λ u. Refutes logic m u a) (sym same) h))
judged_refuted logic a m w v rows FileLimit same says are = absurd says
judged_refuted logic a m w v rows (ModelText line) same says are = absurd says
judged_refuted logic a m w v rows (ProofText line) same says are = absurd says
judged_refuted logic a m w v rows (RejectedStep step) same says are = absurd says

-- a model's finding
pub judged_model : (logic : Logic) (ts : List Formula) (goal : FormId) (m : FiniteModel) (w : ℕ) (a : Formula) (content : Content) (r : Result Finding AllocError) → tree_at ts goal ≡ a → IsContentOf ts (Refuted m w) content
    → IfOk r (IsRefutation logic (tree_at ts goal) m w) → IfOk r (IsJudged logic a content)
judged_model logic ts goal m w a (Steps t) r formula content says = absurd content
judged_model logic ts goal m w a (Table v rows) (Err e) formula content says = tt
judged_model logic ts goal m w a (Table v rows) (Ok finding) formula content says =
    judged_refuted logic a m w v rows finding content.0 (subst (λ b. IsRefutation logic b m w finding) formula says)
    (λ well. record { worlds = content.2; told = content.3; well_formed = well })

-- the content is that of the body: for a proof its formulas are in the pool, for a model its world is one of them
pub live_proof : (ts : List Formula) (P : Tree SignedId) (content : Content) → IsContentOf ts (Proved P) content → IsProofLive ts P
live_proof ts P (Steps t) content = content.0
live_proof ts P (Table w rows) content = absurd content

pub world_within : (ts : List Formula) (m : FiniteModel) (w : ℕ) (content : Content) → IsContentOf ts (Refuted m w) content → w < m.worlds
world_within ts m w (Steps t) content = absurd content
world_within ts m w (Table v rows) content = content.1

pub rejected : (logic : Logic) (a : Formula) (t : Tree Signed) (step : ℕ) (why : Why) → verdict.Rejected step why ≡ verdict_of (first_break logic a t) → IsJudged logic a (Steps t) (RejectedStep step)
rejected logic a t step why is = by (first_break logic a t) refl is
  where
    by : (b : Option (ℕ × Why)) → first_break logic a t ≡ b → verdict.Rejected step why ≡ verdict_of b → IsJudged logic a (Steps t) (RejectedStep step)
    by None same e = cc
    by (Some b) same e = let told : step ≡ min b.0 usize.MAX = cc in (b.0, b.1, same, told)

pub refuted : (logic : Logic) (a : Formula) (m : FiniteModel) (w : ℕ) → Class logic m → w < m.worlds → (IsTrueAt m w a → ⊥) → Refutes logic m w a
refuted logic a m w of within fails = record { in_class = of; within = within; fails = fails }
