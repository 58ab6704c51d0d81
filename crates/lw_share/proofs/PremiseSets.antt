-- What a rule leaves to be closed, by the components that the pool gives, also in each pool that has grown from it.
use Rattle.std.proofs.Common.{◌≡◌, List, [], ◌∷◌, length, Option, None, sym, ap, ◌∙◌}
use Rattle.lw_formula.specs.declared.logic.Logic.{Logic}
use Rattle.lw_formula.specs.declared.parts.Parts.{Parts}
use Rattle.lw_formula.specs.declared.parts.Parts.TheVariants.{One, Two, Nu, Pi}
use Rattle.lw_formula.specs.Formula.{Formula}
use Rattle.lw_formula.specs.Signed.{Signed}
use Rattle.lw_formula.specs.Components.{parts_of}
use Rattle.lw_pool.specs.declared.id.SignedId.{SignedId}
use Rattle.lw_pool.specs.Region.{IsLive, Grows, signed_at, parts_at, ArePartsBelow}
use Rattle.lw_proof.specs.declared.rule.Rule.{Rule}
use Rattle.lw_proof.specs.System.{trees}
use Rattle.lw_proof.specs.Derivation.{plus, added, kept, premises}
use Rattle.lw_sets.specs.IdSets.{set_of, with_side}
use Rattle.lw_sets.proofs.GrownPools.{signed_grows, parts_grow}

module _ (L : Logic) (now ts : List Formula) (grown : Grows now ts) (x : SignedId) (live : IsLive now x.form) (xs : List SignedId) where
  parts_later : (p : Parts SignedId) → ArePartsBelow (length now) p → parts_at now p ≡ parts_of (signed_at now x) → parts_at ts p ≡ parts_of (signed_at ts x)
  parts_later p below e = parts_grow now ts grown p below ∙ e ∙ ap parts_of (sym (signed_grows now ts grown x live))

  -- the principal's components in place of those by ids
  placed : (r : Rule) (p : Parts SignedId) → ArePartsBelow (length now) p → parts_at now p ≡ parts_of (signed_at now x) →
      premises trees L r (signed_at ts x) (parts_at ts p) (set_of ts xs) ≡ premises trees L r (signed_at ts x) (parts_of (signed_at ts x)) (set_of ts xs)
  placed r p below e = ap (λ (q : Parts Signed). premises trees L r (signed_at ts x) q (set_of ts xs)) (parts_later p below e)

  pub one_premise : (a : SignedId) (b : Option SignedId) → ArePartsBelow (length now) (One a b) → parts_at now (One a b) ≡ parts_of (signed_at now x) →
      (ys : List SignedId) → set_of ts ys ≡ with_side xs (a, b) ts →
      set_of ts ys ∷ [] ≡ premises trees L Rule.One (signed_at ts x) (parts_of (signed_at ts x)) (set_of ts xs)
  one_premise a b below e ys h = ap (λ X. X ∷ []) h ∙ placed Rule.One (One a b) below e

  pub two_premises : (p q : SignedId × Option SignedId) → ArePartsBelow (length now) (Two p q) → parts_at now (Two p q) ≡ parts_of (signed_at now x) →
      with_side xs p ts ∷ with_side xs q ts ∷ [] ≡ premises trees L Rule.Two (signed_at ts x) (parts_of (signed_at ts x)) (set_of ts xs)
  two_premises p q below e = placed Rule.Two (Two p q) below e

  pub refl_premise : (c : SignedId) → ArePartsBelow (length now) (Nu c) → parts_at now (Nu c) ≡ parts_of (signed_at now x) →
      (ys : List SignedId) → set_of ts ys ≡ with_side xs (c, None) ts →
      set_of ts ys ∷ [] ≡ premises trees L Rule.Refl (signed_at ts x) (parts_of (signed_at ts x)) (set_of ts xs)
  refl_premise c below e ys h = ap (λ X. X ∷ []) h ∙ placed Rule.Refl (Nu c) below e

  pub step_premise : (c : SignedId) → ArePartsBelow (length now) (Pi c) → parts_at now (Pi c) ≡ parts_of (signed_at now x) →
      (ys : List SignedId) → set_of ts ys ≡ plus trees (added trees L (signed_at ts x) (signed_at ts c)) (kept trees L (set_of ts xs)) →
      set_of ts ys ∷ [] ≡ premises trees L Rule.Step (signed_at ts x) (parts_of (signed_at ts x)) (set_of ts xs)
  step_premise c below e ys h = ap (λ X. X ∷ []) h ∙ placed Rule.Step (Pi c) below e
