-- What is read off a proof is an interpolant for the two sides of its set.
use Rattle.std.proofs.Common.{◌≡◌, ℕ, ◌+◌, Bool, true, false, ◌||◌, inl, inr, List, [], ◌∷◌, refl, sym, subst, ◌∙◌}
use Rattle.std.specs.Bool.{IsTrue, ⊤}
use Rattle.std.proofs.lemmas.Bool.{false≢true}
use Rattle.lw_formula.specs.declared.logic.Logic.{Logic}
use Rattle.lw_formula.specs.declared.sign.Sign.TheVariants.{T, F}
use Rattle.lw_formula.specs.declared.parts.Parts.{Parts}
use Rattle.lw_formula.specs.declared.parts.Parts.TheVariants.{One, Two, Nu, Pi}
use Rattle.lw_formula.specs.Formula.{Formula, impl, nec, poss}
use Rattle.lw_formula.specs.FiniteModel.{FiniteModel}
use Rattle.lw_formula.specs.Signed.{Signed, SignedSet, HoldsSigned}
use Rattle.lw_formula.specs.Components.{parts_of, is_absurd}
use Rattle.lw_proof.specs.declared.rule.Rule.{Rule}
use Rattle.lw_proof.specs.Tree.{Tree, Forest, node, none, more, lines, lines_all}
use Rattle.lw_proof.specs.System.{trees}
use Rattle.lw_proof.specs.Derivation.{is_one, is_two, is_nu, is_pi, has_refl, side, added, premises, Applies, Closed, ClosedAll, only, goal_cuts}
use Rattle.lw_proof.proofs.SignedMeaning.{Means, means, satisfies_only, decided}
use Rattle.lw_proof.proofs.StepWorlds.{sees_itself, target}
use Rattle.lw_interp.specs.Interpolant.{has_interpolants}
use Rattle.lw_interp.specs.Laws.{ReadOffIsInterpolant, ReadOffIsSmall}
use Rattle.lw_interp.specs.Maehara.{Sides, splits, joined, read_off, read_all, start, interpolant_of}
use Rattle.lw_interp.proofs.SidePieces.{Split, AreSplit, premises_split, on_side, no_serial, no_cut, start_split}
use Rattle.lw_interp.proofs.StepInterpolants.{Between, Reaches, put_between, two_between, step_between, absurd_between, close_between}

module _ (L : Logic) (known : IsTrue (has_interpolants L)) (a b : Formula) where
  -- what is read off each of the proofs is an interpolant for its sides
  abbrev pub AreBetween : List Sides → Forest Signed → Type 0
  AreBetween [] none = ⊤
  AreBetween (W ∷ Ws) (more t ts) = Between L a b (lines t) W (read_off L W t) × AreBetween Ws ts
  AreBetween _ _ = ⊥

  module _ (s : Signed) (X : SignedSet) (W : Sides) (h : Split a b X W) where
    one_joins : (p : Parts Signed) (ts : Forest Signed) → IsTrue (is_one p) → ((m : FiniteModel) (w : ℕ) → HoldsSigned m w s → Means m w p) →
        AreBetween (splits L Rule.One s p W) ts → Between L a b (lines_all ts + 1) W (joined Rule.One s W (read_all L (splits L Rule.One s p W) ts))
    one_joins (One c d) (more t none) e says g =
        put_between L a b s W (W.left s) (W.right s) refl refl (side c d) (lines t) _ (λ m k w o x. says m w x) g.0
    one_joins (One c d) none e says g = absurd g
    one_joins (One c d) (more t (more u us)) e says g = absurd g.1
    one_joins _ ts e says g = absurd (false≢true e)

    refl_joins : (p : Parts Signed) (ts : Forest Signed) → IsTrue (is_nu p) → IsTrue (has_refl L) → ((m : FiniteModel) (w : ℕ) → HoldsSigned m w s → Means m w p) →
        AreBetween (splits L Rule.Refl s p W) ts → Between L a b (lines_all ts + 1) W (joined Rule.Refl s W (read_all L (splits L Rule.Refl s p W) ts))
    refl_joins (Nu c) (more t none) e r says g =
        put_between L a b s W (W.left s) (W.right s) refl refl (c ∷ []) (lines t) _ (λ m k w o x. (says m w x w (sees_itself L m k r w o), tt)) g.0
    refl_joins (Nu c) none e r says g = absurd g
    refl_joins (Nu c) (more t (more u us)) e r says g = absurd g.1
    refl_joins _ ts e r says g = absurd (false≢true e)

    two_joins : (p : Parts Signed) (ts : Forest Signed) → IsTrue (is_two p) → (W.left s || W.right s) ≡ true → ((m : FiniteModel) (w : ℕ) → HoldsSigned m w s → Means m w p) →
        AreBetween (splits L Rule.Two s p W) ts → Between L a b (lines_all ts + 1) W (joined Rule.Two s W (read_all L (splits L Rule.Two s p W) ts))
    two_joins (Two c d) (more t (more u none)) e on says g =
        two_between L a b s W (W.left s) (W.right s) refl refl on (side c.0 c.1) (side d.0 d.1) (lines t) (lines u) _ _ (λ m k w o x. says m w x) g.0 g.1.0
    two_joins (Two c d) none e on says g = absurd g
    two_joins (Two c d) (more t none) e on says g = absurd g.1
    two_joins (Two c d) (more t (more u (more v vs))) e on says g = absurd g.1.1
    two_joins _ ts e on says g = absurd (false≢true e)

    step_joins : (c : Signed) (ts : Forest Signed) → (W.left s || W.right s) ≡ true → Reaches L a b s (added trees L s c) →
        AreBetween (splits L Rule.Step s (Pi c) W) ts → Between L a b (lines_all ts + 1) W (joined Rule.Step s W (read_all L (splits L Rule.Step s (Pi c) W) ts))
    step_joins c (more t none) on reach g =
        step_between L a b s W (W.left s) (W.right s) refl refl on (added trees L s c) (lines t) _ reach g.0
    step_joins c none on reach g = absurd g
    step_joins c (more t (more u us)) on reach g = absurd g.1

  step_at : (s : Signed) (X : SignedSet) (W : Sides) (h : Split a b X W) (ts : Forest Signed) → IsTrue (is_pi (parts_of s)) → (W.left s || W.right s) ≡ true →
      AreBetween (splits L Rule.Step s (parts_of s) W) ts → Between L a b (lines_all ts + 1) W (joined Rule.Step s W (read_all L (splits L Rule.Step s (parts_of s) W) ts))
  step_at (F, nec c) X W h ts e on g = step_joins (F, nec c) X W h (F, c) ts on (λ m k w o x. target m L k w (F, nec c) (F, c) refl (means m w (F, nec c) x)) g
  step_at (T, poss c) X W h ts e on g = step_joins (T, poss c) X W h (T, c) ts on (λ m k w o x. target m L k w (T, poss c) (T, c) refl (means m w (T, poss c) x)) g
  step_at _ X W h ts e on g = absurd (false≢true e)

  -- no proof is left
  leaf : (ts : Forest Signed) → AreBetween [] ts → (W : Sides) (i : Formula) → Between L a b 1 W i → Between L a b (lines_all ts + 1) W i
  leaf none g W i h = h
  leaf (more t ts) g W i h = absurd g

  close_at : (cuts : SignedSet) (s : Signed) (X : SignedSet) (W : Sides) → Split a b X W → Applies trees cuts L X Rule.Close s → Between L a b 1 W (joined Rule.Close s W [])
  close_at cuts (T, c) X W h e = close_between L a b c X W h (h.cover (T, c) e.1) (h.cover (F, c) e.2) (W.left (T, c)) (W.left (F, c)) refl refl
  close_at cuts (F, c) X W h e = absurd (clash e.0)
    where
      clash : F ≡ T → ⊥
      clash k = cc

  no_root : (s : Signed) (f : Signed → Bool) → f (F, impl a b) ≡ false → f s ≡ true → s ≡ (F, impl a b) → ⊥
  no_root s f n e same = false≢true (sym n ∙ subst (λ t. f t ≡ true) same e)

  -- each last step: its interpolant from those of its premises
  joins : (cuts : SignedSet) (r : Rule) (s : Signed) (X : SignedSet) (W : Sides) (ts : Forest Signed) → Split a b X W → Applies trees cuts L X r s →
      AreBetween (splits L r s (parts_of s) W) ts → Between L a b (lines_all ts + 1) W (joined r s W (read_all L (splits L r s (parts_of s) W) ts))
  joins cuts Rule.Close s X W ts h c g = leaf ts g W _ (close_at cuts s X W h c)
  joins cuts Rule.Absurd s X W ts h c g = leaf ts g W _ (absurd_between L a b s W (W.left s) (W.right s) refl refl (on_side a b W s (h.cover s c.1) (no_root s is_absurd refl c.0)) c.0)
  joins cuts Rule.One s X W ts h c g = one_joins s X W h (parts_of s) ts c.0 (λ m w x. means m w s x) g
  joins cuts Rule.Two s X W ts h c g = two_joins s X W h (parts_of s) ts c.0 (on_side a b W s (h.cover s c.1) (no_root s (λ t. is_two (parts_of t)) refl c.0)) (λ m w x. means m w s x) g
  joins cuts Rule.Refl s X W ts h c g = refl_joins s X W h (parts_of s) ts c.1 c.0 (λ m w x. means m w s x) g
  joins cuts Rule.Step s X W ts h c g = step_at s X W h ts c.0 (on_side a b W s (h.cover s c.1) (no_root s (λ t. is_pi (parts_of t)) refl c.0)) g
  joins cuts Rule.Serial s X W ts h c g = absurd (no_serial L known c.0)
  joins cuts Rule.Cut s X W ts h c g = absurd (no_cut L known c.0)

  module _ (cuts : SignedSet) where
    mutual
      -- what is read off a proof that closes a set is an interpolant for its sides
      pub read_between : (t : Tree Signed) (X : SignedSet) (W : Sides) → Closed trees cuts L X t → Split a b X W → Between L a b (lines t) W (read_off L W t)
      read_between (node r s ts) X W c h =
          joins cuts r s X W ts h c.0
          (all_between ts (premises trees L r s (parts_of s) X) (splits L r s (parts_of s) W) c.1 (premises_split a b L known s X W h cuts r c.0))

      all_between : (ts : Forest Signed) (Xs : List SignedSet) (Ws : List Sides) → ClosedAll trees cuts L Xs ts → AreSplit a b Xs Ws → AreBetween Ws ts
      all_between none [] [] c h = tt
      all_between none [] (W ∷ Ws) c h = absurd h
      all_between none (X ∷ Xs) Ws c h = absurd c
      all_between (more t ts) [] Ws c h = absurd c
      all_between (more t ts) (X ∷ Xs) [] c h = absurd h
      all_between (more t ts) (X ∷ Xs) (W ∷ Ws) c h = (read_between t X W c.0 h.0, all_between ts Xs Ws c.1 h.1)

  proof_between : (P : Tree Signed) → Closed trees (goal_cuts (impl a b)) L (only (F, impl a b)) P → Between L a b (lines P) (start a b) (interpolant_of L a b P)
  proof_between P c = read_between (goal_cuts (impl a b)) P (only (F, impl a b)) (start a b) c (start_split a b)

pub read_is_interpolant : ReadOffIsInterpolant
read_is_interpolant L known P a b proves =
    let h = proof_between L known a b P proves in
    record {
      of_left = h.in_left;
      of_right = h.in_right;
      implied = λ m c w o x. h.true_left m c w o (satisfies_only m w (T, a) x);
      implies = λ m c w o i. elim (decided m w b) [ inl y ↦ y | inr n ↦ absurd (h.false_right m c w o (satisfies_only m w (F, b) n) i) ];
    }

pub read_is_small : ReadOffIsSmall
read_is_small L known P a b proves = (proof_between L known a b P proves).few
