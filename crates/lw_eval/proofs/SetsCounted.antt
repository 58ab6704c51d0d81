-- What `shared` gives, as its row has it.
use Rattle.std.proofs.Common.{◌≡◌, ◌∙◌, ℕ, ◌+◌, ◌-◌, ◌^◌, min, List, [], ◌∷◌, refl, sym, ap, subst}
use Rattle.lw_formula.specs.declared.logic.Logic.{Logic}
use Rattle.lw_formula.specs.Formula.{Formula}
use Rattle.lw_formula.specs.FiniteModel.{FiniteModel}
use Rattle.lw_pool.specs.declared.id.FormId.{FormId}
use Rattle.lw_pool.specs.declared.id.SignedId.{SignedId}
use Rattle.lw_pool.specs.Region.{tree_at, IsLive}
use Rattle.lw_proof.specs.Tree.{Tree, Forest, node, none, more, lines, lines_all, map_tree, map_forest}
use Rattle.lw_proof.specs.Derivation.{Proves}
use Rattle.lw_proof.specs.Pooled.{proof_at, IsProofLive}
use Rattle.lw_cert.specs.declared.certificate.Body.TheVariants.{Proved, Refuted}
use Rattle.lw_cert.specs.declared.certificate.Certificate.{Certificate}
use Rattle.lw_share.specs.SetCounts.{CountsSets}
use Rattle.lw_value.specs.declared.value.Value.{Value}
use Rattle.lw_value.specs.Certified.{certified, evidence_of}
use Rattle.lw_value.specs.Values.{Val, vals, seen, seen_all, shown_by, EachShown, AreLive, number, items, naught}
use Rattle.lw_value.specs.Views.{value_of}
use Rattle.lw_value.specs.Evidence.{Shows, HasEvidence}
use Rattle.lw_value.proofs.CertificateWritten.{tree-told, principals-told}
use Rattle.lw_eval.specs.Evaluations.{Got, Given}
use Rattle.lw_eval.specs.Operands.{certificate_in}
use Rattle.lw_eval.specs.Calls.{Shares}

-- a proof has as many steps by its ids
mutual
  lines_mapped : {A B : Type 0} (f : A → B) (P : Tree A) → lines (map_tree f P) ≡ lines P
  lines_mapped f (node r x ps) = ap (λ k. k + 1) (all_lines_mapped f ps)

  all_lines_mapped : {A B : Type 0} (f : A → B) (ps : Forest A) → lines_all (map_forest f ps) ≡ lines_all ps
  all_lines_mapped f none = refl
  all_lines_mapped f (more p ps) = λ i. lines_mapped f p i + all_lines_mapped f ps i

-- the proof of a certificate that has evidence proves its formula, and the pool has it
pub proof_shows : (ts : List Formula) (v : Value) (c : Certificate) (P : Tree SignedId) (l : Logic) (f : FormId) → value_of v ≡ certified c → c.body ≡ Proved P → l ≡ c.logic → f ≡ c.formula
    → HasEvidence (seen ts (value_of v)) → Proves l (proof_at ts P) (tree_at ts f)
proof_shows ts v c P l f is body logic form has =
    let shows : Shows c.logic (tree_at ts c.formula) (shown_by (tree_at ts) (evidence_of c.body)) = subst (λ u. HasEvidence (seen ts u)) is has in
    rw (logic, form) (subst (λ Q. Proves c.logic Q (tree_at ts c.formula)) (tree-told ts P) (subst (λ b. Shows c.logic (tree_at ts c.formula) (shown_by (tree_at ts) (evidence_of b))) body shows))

pub proof_live : (ts : List Formula) (v : Value) (c : Certificate) (P : Tree SignedId) → value_of v ≡ certified c → c.body ≡ Proved P → AreLive ts (value_of v) → IsProofLive ts P
proof_live ts v c P is body live =
    let all : AreLive ts (certified c) = subst (AreLive ts) is live in
    principals-told (IsLive ts) P (subst (λ b. EachShown (IsLive ts) (evidence_of b)) body all.1)

-- one with a proof has the two numbers
pub proof_shares : (before now : List Formula) (v : Value) (c : Certificate) (P : Tree SignedId) (l : Logic) (f : FormId) (steps sets : ℕ) (numbers : List (Val FormId))
    → value_of v ≡ certified c → c.body ≡ Proved P → l ≡ c.logic → f ≡ c.formula → steps ≡ min (lines P) (2 ^ 64 - 1) → CountsSets l (tree_at before f) (proof_at before P) sets
    → numbers ≡ number steps ∷ number sets ∷ [] → Given (certificate_in (seen before (value_of v))) (λ x. Shares x.0 x.1 x.2) (Got (items (seen_all now (vals numbers))))
proof_shares before now v c P l f steps sets numbers is body logic form many counts are =
    let counted : CountsSets c.logic (tree_at before c.formula) (proof_at before P) sets =
    subst (λ k. CountsSets k (tree_at before c.formula) (proof_at before P) sets) logic (subst (λ g. CountsSets l (tree_at before g) (proof_at before P) sets) form counts) in
    let as_many : steps ≡ min (lines (proof_at before P)) (2 ^ 64 - 1) = many ∙ ap (λ k. min k (2 ^ 64 - 1)) (sym (lines_mapped _ P)) in
    rw (are, is, body, tree-told before P, as_many) (Shares.proof sets counted)

-- one with a model has none
pub model_shares : (ts : List Formula) (v : Value) (c : Certificate) (m : FiniteModel) (w : ℕ) → value_of v ≡ certified c → c.body ≡ Refuted m w
    → Given (certificate_in (seen ts (value_of v))) (λ x. Shares x.0 x.1 x.2) (Got naught)
model_shares ts v c m w is body = rw (is, body) Shares.model
