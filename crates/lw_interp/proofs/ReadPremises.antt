-- What is read off a proof, from what is read off its subproofs, by the components that its first step adds.
use Rattle.std.proofs.Common.{◌≡◌, Bool, false, List, [], ◌∷◌, length, map, Option, None, Some, refl, sym, ap, subst, ◌∙◌}
use Rattle.std.specs.Bool.{IsTrue}
use Rattle.std.specs.List.{slice_get}
use Rattle.std.proofs.lemmas.Bool.{false≢true}
use Rattle.lw_formula.specs.declared.logic.Logic.{Logic}
use Rattle.lw_formula.specs.declared.parts.Parts.{Parts}
use Rattle.lw_formula.specs.declared.parts.Parts.TheVariants.{Nothing, One, Two, Nu, Pi}
use Rattle.lw_formula.specs.Formula.{Formula}
use Rattle.lw_formula.specs.Signed.{Signed}
use Rattle.lw_formula.specs.Components.{parts_of}
use Rattle.lw_pool.specs.declared.id.SignedId.{SignedId}
use Rattle.lw_pool.specs.Region.{signed_at, parts_at}
use Rattle.lw_proof.specs.declared.rule.Rule.{Rule}
use Rattle.lw_proof.specs.Tree.{Tree, Forest, node, none, more, forest, listed, subs_of, rule_of, principal_of, map_tree, map_forest}
use Rattle.lw_proof.specs.System.{trees}
use Rattle.lw_proof.specs.Derivation.{is_one, is_two, is_nu, is_pi, side, added}
use Rattle.lw_proof.specs.Pooled.{proof_at}
use Rattle.lw_proof.proofs.FirstSubproofs.{forest_mapped, one_member, two_members}
use Rattle.lw_sets.specs.IdSets.{side_at}
use Rattle.lw_interp.specs.Maehara.{Sides, put_beside, kept_sides, splits, of_two, of_step, joined, read_off, read_all}
use Rattle.lw_interp.specs.Private.ReadSteps.{components_of, takes, IsShaped}
use Rattle.lw_interp.proofs.ShapedProofs.{part_count, subs_counted}

never : {X : Type 0} (b : Bool) → b ≡ false → IsTrue b → X
never b e h = absurd (false≢true (sym e ∙ h))

module _ (L : Logic) (W : Sides) (s : Signed) where
  none_joined : (r : Rule) (p : Parts Signed) (ts : Forest Signed) → IsTrue (takes r p) → components_of r p ≡ Nothing →
      joined r s W (read_all L (splits L r s p W) ts) ≡ joined r s W []
  none_joined Rule.Close p ts h e = refl
  none_joined Rule.Absurd p ts h e = refl
  none_joined Rule.One p ts h e = never (is_one p) (ap (λ (q : Parts Signed). is_one q) e) h
  none_joined Rule.Two p ts h e = never (is_two p) (ap (λ (q : Parts Signed). is_two q) e) h
  none_joined Rule.Refl p ts h e = never (is_nu p) (ap (λ (q : Parts Signed). is_nu q) e) h
  none_joined Rule.Step p ts h e = never (is_pi p) (ap (λ (q : Parts Signed). is_pi q) e) h
  none_joined Rule.Serial p ts h e = refl
  none_joined Rule.Cut p ts h e = refl

  one_joined : (r : Rule) (p : Parts Signed) (c : Signed) (d : Option Signed) (t : Tree Signed) → IsTrue (takes r p) → components_of r p ≡ One c d →
      joined r s W (read_all L (splits L r s p W) (more t none)) ≡ read_off L (put_beside W s (side c d) W) t
  one_joined Rule.Close p c d t h e = absurd (cc)
  one_joined Rule.Absurd p c d t h e = absurd (cc)
  one_joined Rule.One p c d t h e =
      subst (λ (q : Parts Signed). joined Rule.One s W (read_all L (splits L Rule.One s q W) (more t none)) ≡ read_off L (put_beside W s (side c d) W) t) (sym e) refl
  one_joined Rule.Two p c d t h e = never (is_two p) (ap (λ (q : Parts Signed). is_two q) e) h
  one_joined Rule.Refl p c d t h e = never (is_nu p) (ap (λ (q : Parts Signed). is_nu q) e) h
  one_joined Rule.Step p c d t h e = never (is_pi p) (ap (λ (q : Parts Signed). is_pi q) e) h
  one_joined Rule.Serial p c d t h e = absurd (cc)
  one_joined Rule.Cut p c d t h e = absurd (cc)

  two_joined : (r : Rule) (p : Parts Signed) (a b : Signed × Option Signed) (t u : Tree Signed) → IsTrue (takes r p) → components_of r p ≡ Two a b →
      joined r s W (read_all L (splits L r s p W) (more t (more u none)))
      ≡ of_two (W.left s) (read_off L (put_beside W s (side a.0 a.1) W) t) (read_off L (put_beside W s (side b.0 b.1) W) u)
  two_joined Rule.Close p a b t u h e = absurd (cc)
  two_joined Rule.Absurd p a b t u h e = absurd (cc)
  two_joined Rule.One p a b t u h e = never (is_one p) (ap (λ (q : Parts Signed). is_one q) e) h
  two_joined Rule.Two p a b t u h e =
      subst (λ (q : Parts Signed). joined Rule.Two s W (read_all L (splits L Rule.Two s q W) (more t (more u none)))
      ≡ of_two (W.left s) (read_off L (put_beside W s (side a.0 a.1) W) t) (read_off L (put_beside W s (side b.0 b.1) W) u)) (sym e) refl
  two_joined Rule.Refl p a b t u h e = never (is_nu p) (ap (λ (q : Parts Signed). is_nu q) e) h
  two_joined Rule.Step p a b t u h e = never (is_pi p) (ap (λ (q : Parts Signed). is_pi q) e) h
  two_joined Rule.Serial p a b t u h e = absurd (cc)
  two_joined Rule.Cut p a b t u h e = absurd (cc)

  nu_joined : (r : Rule) (p : Parts Signed) (c : Signed) (t : Tree Signed) → IsTrue (takes r p) → components_of r p ≡ Nu c →
      joined r s W (read_all L (splits L r s p W) (more t none)) ≡ read_off L (put_beside W s (c ∷ []) W) t
  nu_joined Rule.Close p c t h e = absurd (cc)
  nu_joined Rule.Absurd p c t h e = absurd (cc)
  nu_joined Rule.One p c t h e = never (is_one p) (ap (λ (q : Parts Signed). is_one q) e) h
  nu_joined Rule.Two p c t h e = never (is_two p) (ap (λ (q : Parts Signed). is_two q) e) h
  nu_joined Rule.Refl p c t h e =
      subst (λ (q : Parts Signed). joined Rule.Refl s W (read_all L (splits L Rule.Refl s q W) (more t none)) ≡ read_off L (put_beside W s (c ∷ []) W) t) (sym e) refl
  nu_joined Rule.Step p c t h e = never (is_pi p) (ap (λ (q : Parts Signed). is_pi q) e) h
  nu_joined Rule.Serial p c t h e = absurd (cc)
  nu_joined Rule.Cut p c t h e = absurd (cc)

  pi_joined : (r : Rule) (p : Parts Signed) (c : Signed) (t : Tree Signed) → IsTrue (takes r p) → components_of r p ≡ Pi c →
      joined r s W (read_all L (splits L r s p W) (more t none)) ≡ of_step (W.left s) (read_off L (put_beside W s (added trees L s c) (kept_sides L W)) t)
  pi_joined Rule.Close p c t h e = absurd (cc)
  pi_joined Rule.Absurd p c t h e = absurd (cc)
  pi_joined Rule.One p c t h e = never (is_one p) (ap (λ (q : Parts Signed). is_one q) e) h
  pi_joined Rule.Two p c t h e = never (is_two p) (ap (λ (q : Parts Signed). is_two q) e) h
  pi_joined Rule.Refl p c t h e = never (is_nu p) (ap (λ (q : Parts Signed). is_nu q) e) h
  pi_joined Rule.Step p c t h e =
      subst (λ (q : Parts Signed). joined Rule.Step s W (read_all L (splits L Rule.Step s q W) (more t none))
      ≡ of_step (W.left s) (read_off L (put_beside W s (added trees L s c) (kept_sides L W)) t)) (sym e) refl
  pi_joined Rule.Serial p c t h e = absurd (cc)
  pi_joined Rule.Cut p c t h e = absurd (cc)

module _ (L : Logic) (ts : List Formula) (W : Sides) where
  forest_one : (f : Forest SignedId) (u : Tree SignedId) → length (listed f) ≡ 1 → slice_get (listed f) 0 ≡ Some u → map_forest (signed_at ts) f ≡ more (proof_at ts u) none
  forest_one f u n e = forest_mapped (signed_at ts) f ∙ ap (λ us. forest (map (λ t. map_tree (signed_at ts) t) us)) (one_member (listed f) u n e)

  forest_two : (f : Forest SignedId) (u v : Tree SignedId) → length (listed f) ≡ 2 → slice_get (listed f) 0 ≡ Some u → slice_get (listed f) 1 ≡ Some v →
      map_forest (signed_at ts) f ≡ more (proof_at ts u) (more (proof_at ts v) none)
  forest_two f u v n e g = forest_mapped (signed_at ts) f ∙ ap (λ us. forest (map (λ t. map_tree (signed_at ts) t) us)) (two_members (listed f) u v n e g)

  -- the components p are those that the first step adds
  abbrev pub Adds : Tree SignedId → Parts SignedId → Type 0
  Adds P p = components_of (rule_of P) (parts_of (signed_at ts (principal_of P))) ≡ parts_at ts p

  count : (P : Tree SignedId) (p : Parts SignedId) → IsShaped (proof_at ts P) → Adds P p → length (subs_of P) ≡ part_count (parts_at ts p)
  count P p shape e = subs_counted ts P shape ∙ ap part_count e

  pub none_read : (P : Tree SignedId) → IsShaped (proof_at ts P) → components_of (rule_of P) (parts_of (signed_at ts (principal_of P))) ≡ Nothing →
      read_off L W (proof_at ts P) ≡ joined (rule_of P) (signed_at ts (principal_of P)) W []
  none_read (node r x f) shape e = none_joined L W (signed_at ts x) r (parts_of (signed_at ts x)) (map_forest (signed_at ts) f) shape.0 e

  pub one_read : (P u : Tree SignedId) (a : SignedId) (b : Option SignedId) → IsShaped (proof_at ts P) → Adds P (One a b) → slice_get (subs_of P) 0 ≡ Some u →
      read_off L W (proof_at ts P) ≡ read_off L (put_beside W (signed_at ts (principal_of P)) (side_at ts (a, b)) W) (proof_at ts u)
  one_read (node r x f) u a b shape e first =
      ap (λ g. joined r (signed_at ts x) W (read_all L (splits L r (signed_at ts x) (parts_of (signed_at ts x)) W) g))
      (forest_one f u (count (node r x f) (One a b) shape e) first)
      ∙ one_joined L W (signed_at ts x) r (parts_of (signed_at ts x)) _ _ (proof_at ts u) shape.0 e

  pub two_read : (P u v : Tree SignedId) (p q : SignedId × Option SignedId) → IsShaped (proof_at ts P) → Adds P (Two p q) →
      slice_get (subs_of P) 0 ≡ Some u → slice_get (subs_of P) 1 ≡ Some v →
      read_off L W (proof_at ts P)
      ≡ of_two (W.left (signed_at ts (principal_of P)))
      (read_off L (put_beside W (signed_at ts (principal_of P)) (side_at ts p) W) (proof_at ts u))
      (read_off L (put_beside W (signed_at ts (principal_of P)) (side_at ts q) W) (proof_at ts v))
  two_read (node r x f) u v p q shape e first second =
      ap (λ g. joined r (signed_at ts x) W (read_all L (splits L r (signed_at ts x) (parts_of (signed_at ts x)) W) g))
      (forest_two f u v (count (node r x f) (Two p q) shape e) first second)
      ∙ two_joined L W (signed_at ts x) r (parts_of (signed_at ts x)) _ _ (proof_at ts u) (proof_at ts v) shape.0 e

  pub nu_read : (P u : Tree SignedId) (a : SignedId) → IsShaped (proof_at ts P) → Adds P (Nu a) → slice_get (subs_of P) 0 ≡ Some u →
      read_off L W (proof_at ts P) ≡ read_off L (put_beside W (signed_at ts (principal_of P)) (side_at ts (a, None)) W) (proof_at ts u)
  nu_read (node r x f) u a shape e first =
      ap (λ g. joined r (signed_at ts x) W (read_all L (splits L r (signed_at ts x) (parts_of (signed_at ts x)) W) g))
      (forest_one f u (count (node r x f) (Nu a) shape e) first)
      ∙ nu_joined L W (signed_at ts x) r (parts_of (signed_at ts x)) _ (proof_at ts u) shape.0 e

  pub pi_read : (P u : Tree SignedId) (a : SignedId) → IsShaped (proof_at ts P) → Adds P (Pi a) → slice_get (subs_of P) 0 ≡ Some u →
      read_off L W (proof_at ts P)
      ≡ of_step (W.left (signed_at ts (principal_of P)))
      (read_off L (put_beside W (signed_at ts (principal_of P)) (added trees L (signed_at ts (principal_of P)) (signed_at ts a)) (kept_sides L W)) (proof_at ts u))
  pi_read (node r x f) u a shape e first =
      ap (λ g. joined r (signed_at ts x) W (read_all L (splits L r (signed_at ts x) (parts_of (signed_at ts x)) W) g))
      (forest_one f u (count (node r x f) (Pi a) shape e) first)
      ∙ pi_joined L W (signed_at ts x) r (parts_of (signed_at ts x)) _ (proof_at ts u) shape.0 e
