-- What has a proof is valid: a set that a proof closes holds at no world of a model of the class.
use Rattle.std.proofs.Common.{ℕ, ◌<◌, List, [], ◌∷◌, ◌⊎◌, inl, inr, refl}
use Rattle.std.specs.Bool.{IsTrue}
use Rattle.std.proofs.lemmas.Bool.{false≢true}
use Rattle.lw_formula.specs.declared.logic.Logic.{Logic}
use Rattle.lw_formula.specs.declared.sign.Sign.TheVariants.{T, F}
use Rattle.lw_formula.specs.declared.parts.Parts.{Parts}
use Rattle.lw_formula.specs.Formula.{nec, poss}
use Rattle.lw_formula.specs.FiniteModel.{FiniteModel}
use Rattle.lw_formula.specs.Class.{Class}
use Rattle.lw_formula.specs.Signed.{Signed, SignedSet, flip, HoldsSigned, Satisfies}
use Rattle.lw_formula.specs.Components.{parts_of}
use Rattle.lw_proof.specs.declared.rule.Rule.{Rule}
use Rattle.lw_proof.specs.Tree.{Tree, Forest, node, none, more}
use Rattle.lw_proof.specs.System.{trees}
use Rattle.lw_proof.specs.Derivation.{has_refl, has_serial, is_one, is_two, is_nu, is_pi, side, plus, added, kept, premises, Applies, Closed, ClosedAll, only, goal_cuts}
use Rattle.lw_proof.specs.Laws.{ProvedIsValid}
use Rattle.lw_proof.proofs.SignedMeaning.{decided, holds_either, never_both, absurd_fails, Means, means, satisfies_plus, satisfies_only}
use Rattle.lw_proof.proofs.StepWorlds.{seen_within, sees_itself, sees_one, kept_holds, IsPiOf, target}

module _ (m : FiniteModel) where
  -- one of the sets holds at some world
  abbrev pub Somewhere : List SignedSet → Type 0
  Somewhere [] = ⊥
  Somewhere (X ∷ Xs) = ((v : ℕ) × (v < m.worlds) × Satisfies m v X) ⊎ Somewhere Xs

  module _ (L : Logic) (class : Class L m) (w : ℕ) (here : w < m.worlds) (X : SignedSet) (sat : Satisfies m w X) where
    one_sound : (s : Signed) (p : Parts Signed) → IsTrue (is_one p) → Means m w p → Somewhere (premises trees L Rule.One s p X)
    one_sound s (Parts.One c d) e h = inl (w, here, satisfies_plus m w (side c d) X h sat)
    one_sound s _ e h = absurd (false≢true e)

    two_sound : (s : Signed) (p : Parts Signed) → IsTrue (is_two p) → Means m w p → Somewhere (premises trees L Rule.Two s p X)
    two_sound s (Parts.Two a b) e (inl h) = inl (w, here, satisfies_plus m w (side a.0 a.1) X h sat)
    two_sound s (Parts.Two a b) e (inr h) = inr (inl (w, here, satisfies_plus m w (side b.0 b.1) X h sat))
    two_sound s _ e h = absurd (false≢true e)

    refl_sound : (s : Signed) (p : Parts Signed) → IsTrue (has_refl L) → IsTrue (is_nu p) → Means m w p → Somewhere (premises trees L Rule.Refl s p X)
    refl_sound s (Parts.Nu c) r e h = inl (w, here, satisfies_plus m w (c ∷ []) X (h w (sees_itself L m class r w here), tt) sat)
    refl_sound s _ r e h = absurd (false≢true e)

    reached : (s c : Signed) → IsPiOf s c → Means m w (Parts.Pi c) → (v : ℕ) × (v < m.worlds) × Satisfies m v (plus trees (added trees L s c) (kept trees L X))
    reached s c e h =
        let found = target m L class w s c e h in
        (found.0, seen_within m class.well_formed w found.0 found.1, satisfies_plus m found.0 _ _ found.2 (kept_holds m L class w found.0 found.1 X sat))

    step_sound : (s : Signed) → IsTrue (is_pi (parts_of s)) → HoldsSigned m w s → Somewhere (premises trees L Rule.Step s (parts_of s) X)
    step_sound (F, nec a) e h = inl (reached (F, nec a) (F, a) refl (means m w (F, nec a) h))
    step_sound (T, poss a) e h = inl (reached (T, poss a) (T, a) refl (means m w (T, poss a) h))
    step_sound _ e h = absurd (false≢true e)

    serial_sound : (s : Signed) (p : Parts Signed) → IsTrue (has_serial L) → IsTrue (is_nu p) → Somewhere (premises trees L Rule.Serial s p X)
    serial_sound s (Parts.Nu c) r e =
        let found = sees_one L m class r w here in
        inl (found.0, seen_within m class.well_formed w found.0 found.1, kept_holds m L class w found.0 found.1 X sat)
    serial_sound s _ r e = absurd (false≢true e)

    cut_sound : (s : Signed) → Somewhere (premises trees L Rule.Cut s (parts_of s) X)
    cut_sound s = elim (holds_either m w s) [
      | inl h ↦ inl (w, here, satisfies_plus m w (s ∷ []) X (h, tt) sat)
      | inr h ↦ inr (inl (w, here, satisfies_plus m w (flip s ∷ []) X (h, tt) sat))
    ]

    -- where a rule may be used on a set that holds, one of its premises holds somewhere
    pub applies_sound : (cuts : SignedSet) (r : Rule) (s : Signed) → Applies trees cuts L X r s → Somewhere (premises trees L r s (parts_of s) X)
    applies_sound cuts Rule.Close s a = never_both m w s (sat s a.1) (sat (flip s) a.2)
    applies_sound cuts Rule.Absurd s a = absurd_fails m w s a.0 (sat s a.1)
    applies_sound cuts Rule.One s a = one_sound s (parts_of s) a.0 (means m w s (sat s a.1))
    applies_sound cuts Rule.Two s a = two_sound s (parts_of s) a.0 (means m w s (sat s a.1))
    applies_sound cuts Rule.Refl s a = refl_sound s (parts_of s) a.0 a.1 (means m w s (sat s a.2))
    applies_sound cuts Rule.Step s a = step_sound s a.0 (sat s a.1)
    applies_sound cuts Rule.Serial s a = serial_sound s (parts_of s) a.0 a.1
    applies_sound cuts Rule.Cut s a = cut_sound s

  module _ (L : Logic) (class : Class L m) (cuts : SignedSet) where
    mutual
      -- a set that a proof closes holds nowhere
      pub closed_fails : (t : Tree Signed) (X : SignedSet) → Closed trees cuts L X t → (w : ℕ) → w < m.worlds → Satisfies m w X → ⊥
      closed_fails (node r s ts) X c w l sat = all_fail ts (premises trees L r s (parts_of s) X) c.1 (applies_sound L class w l X sat cuts r s c.0)

      all_fail : (ts : Forest Signed) (Xs : List SignedSet) → ClosedAll trees cuts L Xs ts → Somewhere Xs → ⊥
      all_fail none [] c h = h
      all_fail none (X ∷ Xs) c h = c
      all_fail (more t ts) [] c h = h
      all_fail (more t ts) (X ∷ Xs) c (inl h) = closed_fails t X c.0 h.0 h.1 h.2
      all_fail (more t ts) (X ∷ Xs) c (inr h) = all_fail ts Xs c.1 h

pub proved_is_valid : ProvedIsValid
proved_is_valid L proof goal proves m class w l =
    elim (decided m w goal) [
      | inl h ↦ h
      | inr n ↦ absurd (closed_fails m L class (goal_cuts goal) proof (only (F, goal)) proves w l (satisfies_only m w (F, goal) n))
    ]
