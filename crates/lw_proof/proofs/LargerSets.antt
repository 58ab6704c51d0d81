-- What closes a set closes each set that has all its members.
use Rattle.std.proofs.Common.{◌≡◌, Bool, true, ◌&&◌, ◌||◌, List, [], ◌∷◌, inl, inr}
use Rattle.std.specs.Bool.{⊤}
use Rattle.std.specs.List.{list_any}
use Rattle.std.proofs.lemmas.Bool.{or_cases, or_left, or_right, and_parts, and_from}
use Rattle.lw_formula.specs.declared.logic.Logic.{Logic}
use Rattle.lw_formula.specs.declared.logic.Logic.TheVariants.{K, KT, S4, S5, GL, Grz, K4, KD}
use Rattle.lw_formula.specs.declared.parts.Parts.{Parts}
use Rattle.lw_proof.specs.declared.rule.Rule.{Rule}
use Rattle.lw_proof.specs.Tree.{Tree, Forest, node, none, more}
use Rattle.lw_proof.specs.System.{Set, IsWithin, System, trees, nu_of}
use Rattle.lw_proof.specs.Derivation.{is_nu, is_modal_part, side, plus, added, kept, premises, Applies, Closed, ClosedAll, goal_cuts}
use Rattle.lw_proof.specs.Laws.{LargerSetsAreClosed, EqualSetsAreClosedAlike}

-- the same of two lists of sets, one by one
abbrev pub AreWithin : {I : Type 0} → List (Set I) → List (Set I) → Type 0
AreWithin [] [] = ⊤
AreWithin (X ∷ Xs) (Y ∷ Ys) = IsWithin X Y × AreWithin Xs Ys
AreWithin _ _ = ⊥

both_within : (b x y : Bool) → (x ≡ true → y ≡ true) → (b && x) ≡ true → (b && y) ≡ true
both_within b x y h e = let both = and_parts b x e in and_from b y both.0 (h both.1)

either_within : (a b x y : Bool) → (a ≡ true → b ≡ true) → (x ≡ true → y ≡ true) → (a || x) ≡ true → (b || y) ≡ true
either_within a b x y g h e = elim (or_cases a x e) [ inl l ↦ or_left b y (g l) | inr r ↦ or_right b y (h r) ]

module _ {I : Type 0} (S : System I) (under_within : (X Y : Set I) → IsWithin X Y → IsWithin (S.under X) (S.under Y)) where
  pub plus_within : (cs : List I) (X Y : Set I) → IsWithin X Y → IsWithin (plus S cs X) (plus S cs Y)
  plus_within cs X Y h s = either_within (list_any (λ c. S.same c s) cs) (list_any (λ c. S.same c s) cs) (X s) (Y s) (λ e. e) (h s)

  pub kept_within : (L : Logic) (X Y : Set I) → IsWithin X Y → IsWithin (kept S L X) (kept S L Y)
  kept_within K X Y h s e = under_within X Y h s e
  kept_within KT X Y h s e = under_within X Y h s e
  kept_within S4 X Y h s e = both_within (is_nu (S.parts s)) (X s) (Y s) (h s) e
  kept_within S5 X Y h s e = both_within (is_modal_part (S.parts s)) (X s) (Y s) (h s) e
  kept_within GL X Y h s e =
      either_within (is_nu (S.parts s) && X s) (is_nu (S.parts s) && Y s) (S.under X s) (S.under Y s)
      (both_within (is_nu (S.parts s)) (X s) (Y s) (h s)) (under_within X Y h s) e
  kept_within Grz X Y h s e = both_within (is_nu (S.parts s)) (X s) (Y s) (h s) e
  kept_within K4 X Y h s e =
      either_within (is_nu (S.parts s) && X s) (is_nu (S.parts s) && Y s) (S.under X s) (S.under Y s)
      (both_within (is_nu (S.parts s)) (X s) (Y s) (h s)) (under_within X Y h s) e
  kept_within KD X Y h s e = under_within X Y h s e

  pub premises_within : (L : Logic) (r : Rule) (s : I) (p : Parts I) (X Y : Set I) → IsWithin X Y → AreWithin (premises S L r s p X) (premises S L r s p Y)
  premises_within L Rule.One s (Parts.One c d) X Y h = (plus_within (side c d) X Y h, tt)
  premises_within L Rule.Two s (Parts.Two a b) X Y h = (plus_within (side a.0 a.1) X Y h, (plus_within (side b.0 b.1) X Y h, tt))
  premises_within L Rule.Refl s (Parts.Nu c) X Y h = (plus_within (c ∷ []) X Y h, tt)
  premises_within L Rule.Step s (Parts.Pi c) X Y h = (plus_within (added S L s c) (kept S L X) (kept S L Y) (kept_within L X Y h), tt)
  premises_within L Rule.Serial s (Parts.Nu c) X Y h = (kept_within L X Y h, tt)
  premises_within L Rule.Cut s p X Y h = (plus_within (s ∷ []) X Y h, (plus_within (S.flip s ∷ []) X Y h, tt))
  premises_within L _ s p X Y h = tt

  applies_within : (cuts : Set I) (L : Logic) (X Y : Set I) → IsWithin X Y → (r : Rule) (s : I) → Applies S cuts L X r s → Applies S cuts L Y r s
  applies_within cuts L X Y h Rule.Close s a = (a.0, h s a.1, h (S.flip s) a.2)
  applies_within cuts L X Y h Rule.Absurd s a = (a.0, h s a.1)
  applies_within cuts L X Y h Rule.One s a = (a.0, h s a.1)
  applies_within cuts L X Y h Rule.Two s a = (a.0, h s a.1)
  applies_within cuts L X Y h Rule.Refl s a = (a.0, a.1, h s a.2)
  applies_within cuts L X Y h Rule.Step s a = (a.0, h s a.1)
  applies_within cuts L X Y h Rule.Serial s a = (a.0, a.1, h s a.2)
  applies_within cuts L X Y h Rule.Cut s a = a

  module _ (cuts : Set I) (L : Logic) where
    mutual
      pub closed_within : (t : Tree I) (X Y : Set I) → IsWithin X Y → Closed S cuts L X t → Closed S cuts L Y t
      closed_within (node r s ts) X Y h c = (
        applies_within cuts L X Y h r s c.0,
        all_within ts (premises S L r s (S.parts s) X) (premises S L r s (S.parts s) Y) (premises_within L r s (S.parts s) X Y h) c.1,
      )

      all_within : (ts : Forest I) (Xs Ys : List (Set I)) → AreWithin Xs Ys → ClosedAll S cuts L Xs ts → ClosedAll S cuts L Ys ts
      all_within none [] [] h c = tt
      all_within none [] (Y ∷ Ys) h c = absurd h
      all_within none (X ∷ Xs) Ys h c = absurd c
      all_within (more t ts) [] Ys h c = absurd c
      all_within (more t ts) (X ∷ Xs) [] h c = absurd h
      all_within (more t ts) (X ∷ Xs) (Y ∷ Ys) h c = (closed_within t X Y h.0 c.0, all_within ts Xs Ys h.1 c.1)

pub larger_closed : LargerSetsAreClosed
larger_closed L goal X Y proof h c = closed_within trees (λ X Y h s e. h (nu_of s) e) (goal_cuts goal) L proof X Y h c

pub equal_closed : EqualSetsAreClosedAlike
equal_closed L goal X Y proof h = (larger_closed L goal X Y proof (λ s. (h s).0), larger_closed L goal Y X proof (λ s. (h s).1))
