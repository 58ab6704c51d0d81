-- From the outcome of the walk over the whole proof to the verdict.
use Rattle.std.proofs.Common.{◌≡◌, ◌↔◌, ℕ, ◌+◌, min, Bool, List, [], ◌∷◌, Option, None, Some, refl, sym, ap, subst, ◌∙◌}
use Rattle.std.specs.List.{Contains}
use Rattle.std.proofs.Math.Bool.{or-false}
use Rattle.std.proofs.lemmas.Option.{none-some}
use Rattle.std.below.core.specs.declared.int.usize.TheConstants as usize
use Rattle.lw_formula.specs.declared.logic.Logic.{Logic}
use Rattle.lw_formula.specs.declared.sign.Sign.TheVariants.{F}
use Rattle.lw_formula.specs.Formula.{Formula, IsSubformula, subformulas}
use Rattle.lw_formula.specs.Signed.{Signed}
use Rattle.lw_formula.specs.Validity.{Valid}
use Rattle.lw_formula.proofs.SubformulaLists.{is_member-Decides, subformulas-IsSubformula}
use Rattle.lw_pool.specs.declared.id.FormId.{FormId}
use Rattle.lw_pool.specs.declared.id.SignedId.{SignedId}
use Rattle.lw_pool.specs.Region.{IsLive, Grows, tree_at, signed_at, is_marked, AreMarks}
use Rattle.lw_proof.specs.declared.why.Why.{Why}
use Rattle.lw_proof.specs.Tree.{Tree, lines}
use Rattle.lw_proof.specs.System.{trees, same_signed}
use Rattle.lw_proof.specs.Derivation.{is_subformula, goal_cuts, only, Proves}
use Rattle.lw_proof.specs.Break.{break_from, first_break}
use Rattle.lw_proof.specs.Pooled.{proof_at, IsProofLive}
use Rattle.lw_proof.proofs.FirstBreaks.{break_is_exact}
use Rattle.lw_proof.proofs.SoundRules.{proved_is_valid}
use Rattle.lw_check.specs.declared.verdict.Verdict.{Verdict}
use Rattle.lw_check.specs.declared.verdict.Verdict.TheVariants.{Accepted, Rejected}
use Rattle.lw_check.specs.declared.walked.Walked.{Walked}
use Rattle.lw_check.specs.declared.walked.Walked.TheVariants.{Through, Broken}
use Rattle.lw_check.specs.Judgement.{verdict_of, IsVerdict, IsAccepted}
use Rattle.lw_sets.specs.IdSets.{set_of}
use Rattle.lw_check.specs.Private.ProofWalk.{AreCuts, outcome_of, Tells}
use Rattle.lw_pool.proofs.RegionGrowth.{Grows-same}
use Rattle.lw_sets.proofs.GrownPools.{signed_grows, proof_grows, EachPrincipal-weaker}
use Rattle.lw_sets.proofs.SetMembers.{Decides_alike}

module _ (old new : List Formula) (grown : Grows old new) (goal : FormId) where
  -- the marks of the goal's subformulas say what may be cut
  marked : (marks : List Bool) → AreMarks old goal marks → (s : SignedId) → IsLive old s.form → is_marked marks s.form.0 ≡ goal_cuts (tree_at old goal) (signed_at new s)
  marked marks m s l =
      Decides_alike {P = IsSubformula (tree_at old s.form) (tree_at old goal)} {Q = Contains (subformulas (tree_at old goal)) (tree_at new s.form)}
      (is_marked marks s.form.0) (is_subformula (tree_at old goal) (tree_at new s.form))
      (m.sound s.form, m.complete s.form l)
      (is_member-Decides (subformulas (tree_at old goal)) (tree_at new s.form))
      (λ h. (subformulas-IsSubformula (tree_at old goal) (tree_at new s.form)).1 (subst (λ a. IsSubformula a (tree_at old goal)) (sym (grown.same s.form l)) h))
      (λ h. subst (λ a. IsSubformula a (tree_at old goal)) (grown.same s.form l) ((subformulas-IsSubformula (tree_at old goal) (tree_at new s.form)).0 h))

  cuts_marked : (marks : List Bool) → AreMarks old goal marks → (P : Tree SignedId) → IsProofLive old P → AreCuts (goal_cuts (tree_at old goal)) new marks P
  cuts_marked marks m P live =
      EachPrincipal-weaker (λ (s : SignedId). IsLive old s.form) (λ (s : SignedId). is_marked marks s.form.0 ≡ goal_cuts (tree_at old goal) (signed_at new s))
      (marked marks m) P live

  -- the goal under F, alone
  start : (items : List SignedId) → IsLive old goal → items ≡ record { sign = F; form = goal } ∷ [] → set_of new items ≡ only (F, tree_at old goal)
  start items live e =
      ap (set_of new) e
      ∙ (λ i s. or-false (same_signed (F, tree_at new goal) s) i)
      ∙ ap only (signed_grows old new grown (record { sign = F; form = goal }) live)

  -- the outcome of the whole walk is that of the first break
  pub whole_outcome : (L : Logic) (marks : List Bool) (items : List SignedId) (P : Tree SignedId) (outcome : Walked) → IsLive old goal → IsProofLive old P → AreMarks old goal marks →
      items ≡ record { sign = F; form = goal } ∷ [] → Tells L new marks (λ ts. set_of ts items) P 1 outcome →
      outcome ≡ outcome_of (first_break L (tree_at old goal) (proof_at old P)) (1 + lines P)
  whole_outcome L marks items P outcome live proof_live m e told =
      told (goal_cuts (tree_at old goal)) new 1 (Grows-same new) (cuts_marked marks m P proof_live) refl
      ∙ (λ i. outcome_of (break_from trees (goal_cuts (tree_at old goal)) L (start items live e i) 1 (proof_grows old new grown P proof_live i)) (1 + lines P))

pub went_through : (b : Option (ℕ × Why)) (m next : ℕ) → Through next ≡ outcome_of b m → Accepted ≡ verdict_of b
went_through None m next e = refl
went_through (Some b) m next e = absurd (cc)

pub was_broken : (b : Option (ℕ × Why)) (m step : ℕ) (why : Why) → Broken step why ≡ outcome_of b m → Rejected step why ≡ verdict_of b
was_broken None m step why e = absurd (cc)
was_broken (Some b) m step why e = let k : (step ≡ min b.0 usize.MAX) = cc in let w : why ≡ b.1 = cc in λ i. Rejected (k i) (w i)

-- a proof is accepted exactly where it proves the goal
pub accepted_exactly : (L : Logic) (goal : Formula) (P : Tree Signed) (v : Verdict) → IsVerdict L goal P v → IsAccepted v ↔ Proves L P goal
accepted_exactly L goal P v h = by (first_break L goal P) refl
  where
    by : (b : Option (ℕ × Why)) → first_break L goal P ≡ b → IsAccepted v ↔ Proves L P goal
    by None e = (λ _. (break_is_exact L P goal).0 e, λ _. subst IsAccepted (sym (h ∙ ap verdict_of e)) tt)
    by (Some b) e = (
      λ a. absurd (subst IsAccepted (h ∙ ap verdict_of e) a),
      λ p. absurd (none-some b (sym ((break_is_exact L P goal).1 p) ∙ e)),
    )

-- so what is accepted is valid
pub accepted_is_valid : (L : Logic) (goal : Formula) (P : Tree Signed) (v : Verdict) → IsVerdict L goal P v → IsAccepted v → Valid L goal
accepted_is_valid L goal P v h a = proved_is_valid L P goal ((accepted_exactly L goal P v h).0 a)
