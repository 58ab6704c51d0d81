-- What the parts of the walk over a proof say to each other. What is said of formulas holds in each later pool too.
use Rattle.std.specs.Prelude.{◌≡◌, ℕ, ◌+◌, Bool, min, List, length, map, Option, Some, None}
use Rattle.std.below.core.specs.declared.int.usize.TheConstants as usize
use Rattle.lw_formula.specs.declared.logic.Logic.{Logic}
use Rattle.lw_formula.specs.Formula.{Formula}
use Rattle.lw_formula.specs.Signed.{Signed, SignedSet}
use Rattle.lw_pool.specs.declared.id.SignedId.{SignedId}
use Rattle.lw_pool.specs.Region.{Grows, signed_at, is_marked}
use Rattle.lw_proof.specs.declared.why.Why.{Why}
use Rattle.lw_proof.specs.Tree.{Tree, Forest, EachPrincipal, forest, rule_of, principal_of, subs_of, lines, lines_all}
use Rattle.lw_proof.specs.System.{trees}
use Rattle.lw_proof.specs.Break.{reason, break_from, breaks_from}
use Rattle.lw_proof.specs.Pooled.{proof_at}
use Rattle.lw_check.specs.declared.walked.Walked.{Walked}
use Rattle.lw_check.specs.declared.walked.Walked.TheVariants.{Through, Broken}
use Rattle.lw_sets.specs.IdSets.{set_of}

-- the marks say of each principal of the proof whether its formula may be cut
abbrev pub AreCuts : SignedSet → List Formula → List Bool → Tree SignedId → Type 0
AreCuts cuts ts marks P = EachPrincipal (λ s. is_marked marks s.form.0 ≡ cuts (signed_at ts s)) P

-- the reason is that of the proof's first step, where it is to close the set of the ids, for all that may be cut
abbrev pub TellsReason : Logic → List Formula → List Bool → List SignedId → Tree SignedId → Option Why → Type 0
TellsReason L now marks xs P told =
    (cuts : SignedSet) → is_marked marks (principal_of P).form.0 ≡ cuts (signed_at now (principal_of P)) →
    told ≡ reason trees cuts L (set_of now xs) (rule_of P) (signed_at now (principal_of P)) (length (subs_of P))

-- the outcome that tells the first break, where the next step has the number `next`: a number over the greatest `usize` is told as that
abbrev pub outcome_of : Option (ℕ × Why) → ℕ → Walked
outcome_of None next = Through (min next usize.MAX)
outcome_of (Some b) next = Broken (min b.0 usize.MAX) b.1

-- the outcome is that of the proof, whose first step is counted as `step`, where it is to close the set
abbrev pub Tells : Logic → List Formula → List Bool → (List Formula → SignedSet) → Tree SignedId → ℕ → Walked → Type 0
Tells L now marks X P step outcome =
    (cuts : SignedSet) (ts : List Formula) (n : ℕ) → Grows now ts → AreCuts cuts ts marks P → step ≡ min n usize.MAX →
    outcome ≡ outcome_of (break_from trees cuts L (X ts) n (proof_at ts P)) (n + lines P)

-- the subproofs of the first step, with the signed formulas of their ids
abbrev pub subs_at : List Formula → Tree SignedId → Forest Signed
subs_at ts P = forest (map (λ t. proof_at ts t) (subs_of P))

-- the outcome is that of the proof's subproofs, whose first step is counted as `step`, where they are to close the sets in turn
abbrev pub TellsAll : Logic → List Formula → List Bool → (List Formula → List SignedSet) → Tree SignedId → ℕ → Walked → Type 0
TellsAll L now marks Xs P step outcome =
    (cuts : SignedSet) (ts : List Formula) (n : ℕ) → Grows now ts → AreCuts cuts ts marks P → step ≡ min n usize.MAX →
    outcome ≡ outcome_of (breaks_from trees cuts L (Xs ts) n (subs_at ts P)) (n + lines_all (forest (subs_of P)))
