-- Each step of a proof has its shape.
use Rattle.std.proofs.Common.{◌≡◌, ℕ, suc, zero, List, [], ◌∷◌, length, Some, refl, sym, ap, subst, ◌∙◌, arith}
use Rattle.std.specs.Bool.{IsTrue}
use Rattle.std.specs.List.{slice_get}
use Rattle.std.proofs.lemmas.Bool.{false≢true}
use Rattle.std.proofs.lemmas.Option.{none-some}
use Rattle.lw_formula.specs.declared.logic.Logic.{Logic}
use Rattle.lw_formula.specs.declared.parts.Parts.{Parts}
use Rattle.lw_formula.specs.declared.parts.Parts.TheVariants.{Nothing, One, Two, Nu, Pi}
use Rattle.lw_formula.specs.Formula.{Formula}
use Rattle.lw_formula.specs.Signed.{Signed, SignedSet}
use Rattle.lw_formula.specs.Components.{parts_of}
use Rattle.lw_pool.specs.declared.id.SignedId.{SignedId}
use Rattle.lw_pool.specs.Region.{IsLive, Grows, signed_at, parts_at}
use Rattle.lw_proof.specs.declared.rule.Rule.{Rule}
use Rattle.lw_proof.specs.Tree.{Tree, Forest, node, none, more, listed, subs_of, count_of, rule_of, principal_of, map_forest}
use Rattle.lw_proof.specs.System.{trees}
use Rattle.lw_proof.specs.Derivation.{is_one, is_two, is_nu, is_pi, premises, Applies, Closed, ClosedAll}
use Rattle.lw_proof.specs.Break.{arity}
use Rattle.lw_proof.specs.Pooled.{proof_at}
use Rattle.lw_proof.proofs.FirstSubproofs.{each_sub, count_mapped}
use Rattle.lw_sets.proofs.GrownPools.{IsProofLive_grows, proof_grows}
use Rattle.lw_interp.specs.Interpolant.{has_interpolants}
use Rattle.lw_interp.specs.Private.ReadSteps.{components_of, takes, IsShaped, AreShaped, IsReadable}
use Rattle.lw_interp.proofs.SidePieces.{no_serial, no_cut}

module _ (L : Logic) (known : IsTrue (has_interpolants L)) (cuts : SignedSet) where
  taken : (r : Rule) (s : Signed) (X : SignedSet) → Applies trees cuts L X r s → IsTrue (takes r (parts_of s))
  taken Rule.Close s X a = refl
  taken Rule.Absurd s X a = refl
  taken Rule.One s X a = a.0
  taken Rule.Two s X a = a.0
  taken Rule.Refl s X a = a.1
  taken Rule.Step s X a = a.0
  taken Rule.Serial s X a = absurd (no_serial L known a.0)
  taken Rule.Cut s X a = absurd (no_cut L known a.0)

  -- a rule has as many premises as its number says
  one_premise : (s : Signed) (p : Parts Signed) (X : SignedSet) → IsTrue (is_one p) → length (premises trees L Rule.One s p X) ≡ 1
  one_premise s (One c d) X e = refl
  one_premise s _ X e = absurd (false≢true e)

  two_premises : (s : Signed) (p : Parts Signed) (X : SignedSet) → IsTrue (is_two p) → length (premises trees L Rule.Two s p X) ≡ 2
  two_premises s (Two c d) X e = refl
  two_premises s _ X e = absurd (false≢true e)

  nu_premise : (s : Signed) (p : Parts Signed) (X : SignedSet) → IsTrue (is_nu p) → length (premises trees L Rule.Refl s p X) ≡ 1
  nu_premise s (Nu c) X e = refl
  nu_premise s _ X e = absurd (false≢true e)

  pi_premise : (s : Signed) (p : Parts Signed) (X : SignedSet) → IsTrue (is_pi p) → length (premises trees L Rule.Step s p X) ≡ 1
  pi_premise s (Pi c) X e = refl
  pi_premise s _ X e = absurd (false≢true e)

  premise_count : (r : Rule) (s : Signed) (p : Parts Signed) (X : SignedSet) → IsTrue (takes r p) → length (premises trees L r s p X) ≡ arity r
  premise_count Rule.Close s p X e = refl
  premise_count Rule.Absurd s p X e = refl
  premise_count Rule.One s p X e = one_premise s p X e
  premise_count Rule.Two s p X e = two_premises s p X e
  premise_count Rule.Refl s p X e = nu_premise s p X e
  premise_count Rule.Step s p X e = pi_premise s p X e
  premise_count Rule.Serial s p X e = absurd (false≢true e)
  premise_count Rule.Cut s p X e = absurd (false≢true e)

  -- a proof that closes a set has its shape
  mutual
    pub closed_is_shaped : (X : SignedSet) (P : Tree Signed) → Closed trees cuts L X P → IsShaped P
    closed_is_shaped X (node r s ts) c =
        let all = closed_are_shaped (premises trees L r s (parts_of s) X) ts c.1 in
        let fits : IsTrue (takes r (parts_of s)) = taken r s X c.0 in
        (fits, all.0 ∙ premise_count r s (parts_of s) X fits, all.1)

    closed_are_shaped : (Xs : List SignedSet) (ts : Forest Signed) → ClosedAll trees cuts L Xs ts → (count_of ts ≡ length Xs) × AreShaped ts
    closed_are_shaped [] none c = (refl, tt)
    closed_are_shaped (X ∷ Xs) (more t ts) c =
        let all = closed_are_shaped Xs ts c.1 in
        let count : count_of ts ≡ length Xs = all.0 in
        (omega arith, (closed_is_shaped X t c.0, all.1))
    closed_are_shaped [] (more t ts) c = absurd c
    closed_are_shaped (X ∷ Xs) none c = absurd c

shaped_among : (ts : List Formula) (f : Forest SignedId) (i : ℕ) (u : Tree SignedId) → slice_get (listed f) i ≡ Some u → AreShaped (map_forest (signed_at ts) f) → IsShaped (proof_at ts u)
shaped_among ts none i u e h = absurd (none-some u e)
shaped_among ts (more t us) zero u e h = let s : t ≡ u = cc in subst (λ v. IsShaped (proof_at ts v)) s h.0
shaped_among ts (more t us) (suc i) u e h = shaped_among ts us i u e h.1

shaped_sub : (ts : List Formula) (P : Tree SignedId) (i : ℕ) (u : Tree SignedId) → slice_get (subs_of P) i ≡ Some u → IsShaped (proof_at ts P) → IsShaped (proof_at ts u)
shaped_sub ts (node r x f) i u e h = shaped_among ts f i u e h.2

-- a subproof is readable
pub sub_readable : (ts : List Formula) (P : Tree SignedId) (i : ℕ) (u : Tree SignedId) → slice_get (subs_of P) i ≡ Some u → IsReadable ts P → IsReadable ts u
sub_readable ts P i u e h = (each_sub (λ (s : SignedId). IsLive ts s.form) P i u e h.0, shaped_sub ts P i u e h.1)

-- a proof stays readable
pub readable_grows : (now ts : List Formula) → Grows now ts → (P : Tree SignedId) → IsReadable now P → IsReadable ts P
readable_grows now ts g P h = (IsProofLive_grows now ts g P h.0, subst IsShaped (sym (proof_grows now ts g P h.0)) h.1)

-- how many premises add these components
abbrev pub part_count : {I : Type 0} → Parts I → ℕ
part_count Nothing = 0
part_count (One c d) = 1
part_count (Two a b) = 2
part_count (Nu c) = 1
part_count (Pi c) = 1

counted : (r : Rule) (p : Parts Signed) → IsTrue (takes r p) → part_count (components_of r p) ≡ arity r
counted Rule.Close p e = refl
counted Rule.Absurd p e = refl
counted Rule.One (One c d) e = refl
counted Rule.One _ e = absurd (false≢true e)
counted Rule.Two (Two c d) e = refl
counted Rule.Two _ e = absurd (false≢true e)
counted Rule.Refl (Nu c) e = refl
counted Rule.Refl _ e = absurd (false≢true e)
counted Rule.Step (Pi c) e = refl
counted Rule.Step _ e = absurd (false≢true e)
counted Rule.Serial p e = absurd (false≢true e)
counted Rule.Cut p e = absurd (false≢true e)

-- a step has as many subproofs
pub subs_counted : (ts : List Formula) (P : Tree SignedId) → IsShaped (proof_at ts P) →
    length (subs_of P) ≡ part_count (components_of (rule_of P) (parts_of (signed_at ts (principal_of P))))
subs_counted ts (node r x f) h = sym (count_mapped (signed_at ts) f) ∙ h.1 ∙ sym (counted r (parts_of (signed_at ts x)) h.0)

-- the same, where the components are known by ids
pub parts_counted : (ts : List Formula) (P : Tree SignedId) (r : Rule) (x : SignedId) (p : Parts SignedId) → IsShaped (proof_at ts P) → r ≡ rule_of P → x ≡ principal_of P →
    parts_at ts p ≡ components_of r (parts_of (signed_at ts x)) → length (subs_of P) ≡ part_count (parts_at ts p)
parts_counted ts P r x p shape er ex told =
    subs_counted ts P shape ∙ (λ i. part_count (components_of (sym er i) (parts_of (signed_at ts (sym ex i))))) ∙ ap part_count (sym told)
