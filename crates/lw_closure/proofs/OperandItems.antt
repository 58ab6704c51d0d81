-- The components of an item of a numbering are items of it.
use Rattle.std.proofs.Common.{◌≡◌, ℕ, ◌*◌, ◌/◌, ◌<◌, Option, Some, None, List, [], ◌∷◌, ◌++◌, length, inl, inr, refl, sym, ap, subst, ◌∙◌, arith}
use Rattle.std.specs.List.{Contains}
use Rattle.std.proofs.lemmas.List.{get_or_default}
use Rattle.lw_formula.specs.declared.parts.Parts.{Parts}
use Rattle.lw_formula.specs.declared.parts.Parts.TheVariants.{Nothing, One, Two, Nu, Pi}
use Rattle.lw_formula.specs.declared.sign.Sign.TheVariants.{T, F}
use Rattle.lw_formula.specs.Formula.{Formula, neg, conj, disj, impl, equi, nec, poss, IsOperand}
use Rattle.lw_formula.specs.Signed.{Signed}
use Rattle.lw_formula.specs.Components.{parts_of}
use Rattle.lw_pool.specs.declared.id.FormId.{FormId}
use Rattle.lw_pool.specs.declared.id.SignedId.{SignedId}
use Rattle.lw_pool.specs.Region.{tree_at, signed_at, both_at, parts_at, AreBothBelow, ArePartsBelow, AreIdsExact, IsLive}
use Rattle.lw_closure.specs.declared.entry.Entry.{Entry}
use Rattle.lw_closure.specs.Private.NumberedForms.{IsNumbering}
use Rattle.lw_closure.specs.Private.TableEntries.{AreEntries, IsEntry}
use Rattle.lw_closure.specs.Mapping.{OfBoth, OfParts}
use Rattle.lw_closure.specs.Table.{form_of, item_of}
use Rattle.lw_closure.proofs.MappedComponents.{OfParts-imp}
use Rattle.lw_closure.proofs.GuardsAdded.{each_more}
use Rattle.lw_closure.proofs.LongerNumberings.{Stands, operand_stands}

-- a component's formula is an operand
pub parts_operands : (s : Signed) → OfParts (λ c. IsOperand c.1 s.1) (parts_of s)
parts_operands (T, conj a b) = (inl refl, inr refl)
parts_operands (F, conj a b) = (inl refl, inr refl)
parts_operands (T, disj a b) = (inl refl, inr refl)
parts_operands (F, disj a b) = (inl refl, inr refl)
parts_operands (T, impl a b) = (inl refl, inr refl)
parts_operands (F, impl a b) = (inl refl, inr refl)
parts_operands (T, equi a b) = ((inl refl, inr refl), (inl refl, inr refl))
parts_operands (F, equi a b) = ((inl refl, inr refl), (inl refl, inr refl))
parts_operands (T, neg a) = refl
parts_operands (F, neg a) = refl
parts_operands (T, nec a) = refl
parts_operands (F, nec a) = refl
parts_operands (T, poss a) = refl
parts_operands (F, poss a) = refl
parts_operands _ = tt

module _ (ts : List Formula) (Q : Signed → Type 0) where
  -- what holds of the components and what holds of their ids
  both_ids : (n : ℕ) (p : SignedId × Option SignedId) → OfBoth Q (both_at ts p) → AreBothBelow n p → OfBoth (λ s. Q (signed_at ts s) × (s.form.0 < n)) p
  both_ids n (a, None) h l = (h, l)
  both_ids n (a, Some b) h l = ((h.0, l.0), (h.1, l.1))

  parts_ids : (n : ℕ) (p : Parts SignedId) → OfParts Q (parts_at ts p) → ArePartsBelow n p → OfParts (λ s. Q (signed_at ts s) × (s.form.0 < n)) p
  parts_ids n Nothing h l = tt
  parts_ids n (One a b) h l = both_ids n (a, b) h l
  parts_ids n (Two p q) h l = (both_ids n p h.0 l.0, both_ids n q h.1 l.1)
  parts_ids n (Nu a) h l = (h, l)
  parts_ids n (Pi a) h l = (h, l)

module _ (ts : List Formula) (forms : List FormId) (numbering : IsNumbering ts forms) (ids : AreIdsExact ts) where
  -- an id of an operand is there
  operand_member : (f : Formula) → Stands ts forms f → (a : FormId) → IsOperand (tree_at ts a) f → IsLive ts a → Contains forms a
  operand_member f there a o l =
      let r = operand_stands ts forms numbering f (tree_at ts a) there o in
      let same : form_of forms r.0 ≡ a = ids (form_of forms r.0) a (numbering.live r.0 (record { 0 = 0 }) r.1) l r.2 in
      (r.0, r.1, get_or_default forms r.0 a (record { 0 = 0 }) r.1 ∙ same)

  pub parts_there : (item : ℕ) (s : SignedId) (p : Parts SignedId) → item < 2 * length forms → s ≡ item_of forms item → parts_at ts p ≡ parts_of (signed_at ts s) → ArePartsBelow (length ts) p →
      OfParts (λ c. Contains forms c.form) p
  parts_there item s p l is e below =
      let f : Formula = tree_at ts s.form in
      let there : Stands ts forms f = (item / 2, omega arith, ap (λ x. tree_at ts x.form) (sym is)) in
      OfParts-imp (λ c. IsOperand (tree_at ts c.form) f × (c.form.0 < length ts)) (λ c. Contains forms c.form) (λ c h. operand_member f there c.form h.0 h.1) p
      (parts_ids ts (λ c. IsOperand c.1 f) (length ts) p (subst (OfParts (λ c. IsOperand c.1 f)) (sym e) (parts_operands (signed_at ts s))) below)

-- one more entry
pub entries_more : (ts : List Formula) (forms : List FormId) (guards : List (Option ℕ)) (es after : List Entry) (e : Entry) (k : ℕ) → AreEntries ts forms guards es → length es ≡ k →
    IsEntry ts forms guards k e → after ≡ es ++ e ∷ [] → AreEntries ts forms guards after
entries_more ts forms guards es after e k each count is same =
    subst (AreEntries ts forms guards) (sym same)
    (λ i d l. each_more (λ j x. IsEntry ts forms guards j x) es e d (λ j m. each j d m) (subst (λ j. IsEntry ts forms guards j e) (sym count) is) i l)
