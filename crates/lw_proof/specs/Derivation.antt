-- The calculi of the eight logics (Goré, Tableau methods for modal and temporal logics, in the signed notation of Smullyan and Fitting).
use Rattle.std.specs.Prelude.{◌≡◌, Bool, true, false, IsTrue, ◌&&◌, ◌||◌, ⊤, List, [], ◌∷◌, Option, option_to_list}
use Rattle.std.specs.List.{list_any}
use Rattle.lw_formula.specs.declared.logic.Logic.{Logic}
use Rattle.lw_formula.specs.declared.logic.Logic.TheVariants.{K, KT, S4, S5, GL, Grz, K4, KD}
use Rattle.lw_formula.specs.declared.sign.Sign.TheVariants.{T, F}
use Rattle.lw_formula.specs.declared.parts.Parts.{Parts}
use Rattle.lw_formula.specs.Formula.{Formula, same_formula, subformulas}
use Rattle.lw_formula.specs.Signed.{Signed, SignedSet}
use Rattle.lw_proof.specs.declared.rule.Rule.{Rule}
use Rattle.lw_proof.specs.Tree.{Tree, Forest, node, none, more}
use Rattle.lw_proof.specs.System.{Set, System, trees, same_signed}

-- the logics whose worlds see themselves
abbrev pub has_refl : Logic → Bool
has_refl K = false
has_refl KT = true
has_refl S4 = true
has_refl S5 = true
has_refl GL = false
has_refl Grz = true
has_refl K4 = false
has_refl KD = false

-- the logic in which a proof may cut, on subformulas of its goal alone
abbrev pub has_cut : Logic → Bool
has_cut K = false
has_cut KT = false
has_cut S4 = false
has_cut S5 = true
has_cut GL = false
has_cut Grz = false
has_cut K4 = false
has_cut KD = false

-- the logic whose worlds each see one, whatever it is
abbrev pub has_serial : Logic → Bool
has_serial K = false
has_serial KT = false
has_serial S4 = false
has_serial S5 = false
has_serial GL = false
has_serial Grz = false
has_serial K4 = false
has_serial KD = true

-- there is one premise, with all components
abbrev pub is_one : {I : Type 0} → Parts I → Bool
is_one (Parts.One c d) = true
is_one _ = false

-- there are two premises, one for each side
abbrev pub is_two : {I : Type 0} → Parts I → Bool
is_two (Parts.Two c d) = true
is_two _ = false

-- the component holds at every world that is seen
abbrev pub is_nu : {I : Type 0} → Parts I → Bool
is_nu (Parts.Nu c) = true
is_nu _ = false

-- the component holds at some world that is seen
abbrev pub is_pi : {I : Type 0} → Parts I → Bool
is_pi (Parts.Pi c) = true
is_pi _ = false

-- a ν or a π: the formula begins with `box` or `dia`
abbrev pub is_modal_part : {I : Type 0} → Parts I → Bool
is_modal_part p = is_nu p || is_pi p

-- the components of one side, of which there are one or two
abbrev pub side : {I : Type 0} → I → Option I → List I
side c d = c ∷ option_to_list d

module _ {I : Type 0} (S : System I) where
  -- the set with these
  abbrev pub plus : List I → Set I → Set I
  plus cs X s = list_any (λ c. S.same c s) cs || X s

  -- what a step keeps of a set: the components of its ν, the ν themselves, or all that is modal
  abbrev pub kept : Logic → Set I → Set I
  kept K X s = S.under X s
  kept KT X s = S.under X s
  kept S4 X s = is_nu (S.parts s) && X s
  kept S5 X s = is_modal_part (S.parts s) && X s
  kept GL X s = (is_nu (S.parts s) && X s) || S.under X s
  kept Grz X s = is_nu (S.parts s) && X s
  kept K4 X s = (is_nu (S.parts s) && X s) || S.under X s
  kept KD X s = S.under X s

  -- what the step on the π s with the component c adds: c, in GL also s under the other sign, in Grz also the guard of s
  abbrev pub added : Logic → I → I → List I
  added K s c = c ∷ []
  added KT s c = c ∷ []
  added S4 s c = c ∷ []
  added S5 s c = c ∷ []
  added GL s c = c ∷ S.flip s ∷ []
  added Grz s c = c ∷ option_to_list (S.guard s)
  added K4 s c = c ∷ []
  added KD s c = c ∷ []

  -- the sets that are left to be closed by a rule on s, which comes to p; none where p isn't what the rule takes
  abbrev pub premises : Logic → Rule → I → Parts I → Set I → List (Set I)
  premises L Rule.Close s p X = []
  premises L Rule.Absurd s p X = []
  premises L Rule.One s (Parts.One c d) X = plus (side c d) X ∷ []
  premises L Rule.One s _ X = []
  premises L Rule.Two s (Parts.Two a b) X = plus (side a.0 a.1) X ∷ plus (side b.0 b.1) X ∷ []
  premises L Rule.Two s _ X = []
  premises L Rule.Refl s (Parts.Nu c) X = plus (c ∷ []) X ∷ []
  premises L Rule.Refl s _ X = []
  premises L Rule.Step s (Parts.Pi c) X = plus (added L s c) (kept L X) ∷ []
  premises L Rule.Step s _ X = []
  premises L Rule.Serial s (Parts.Nu c) X = kept L X ∷ []
  premises L Rule.Serial s _ X = []
  premises L Rule.Cut s p X = plus (s ∷ []) X ∷ plus (S.flip s ∷ []) X ∷ []

  -- the rule may be used on s where X is to be closed, with `cuts` for what may be cut: a line for each rule
  abbrev pub Applies : Set I → Logic → Set I → Rule → I → Type 0
  Applies cuts L X Rule.Close s = (S.sign s ≡ T) × IsTrue (X s) × IsTrue (X (S.flip s))
  Applies cuts L X Rule.Absurd s = IsTrue (S.is_absurd s) × IsTrue (X s)
  Applies cuts L X Rule.One s = IsTrue (is_one (S.parts s)) × IsTrue (X s)
  Applies cuts L X Rule.Two s = IsTrue (is_two (S.parts s)) × IsTrue (X s)
  Applies cuts L X Rule.Refl s = IsTrue (has_refl L) × IsTrue (is_nu (S.parts s)) × IsTrue (X s)
  Applies cuts L X Rule.Step s = IsTrue (is_pi (S.parts s)) × IsTrue (X s)
  Applies cuts L X Rule.Serial s = IsTrue (has_serial L) × IsTrue (is_nu (S.parts s)) × IsTrue (X s)
  Applies cuts L X Rule.Cut s = IsTrue (has_cut L) × (S.sign s ≡ T) × IsTrue (is_modal_part (S.parts s)) × IsTrue (cuts s)

  -- the proof closes the set: its rule may be used, and a subproof closes each premise
  abbrev mutual
    pub Closed : Set I → Logic → Set I → Tree I → Type 0
    Closed cuts L X (node r s ts) = Applies cuts L X r s × ClosedAll cuts L (premises L r s (S.parts s) X) ts

    pub ClosedAll : Set I → Logic → List (Set I) → Forest I → Type 0
    ClosedAll cuts L [] none = ⊤
    ClosedAll cuts L (X ∷ Xs) (more t ts) = Closed cuts L X t × ClosedAll cuts L Xs ts
    ClosedAll cuts L _ _ = ⊥

-- whether a is a subformula of the goal
abbrev pub is_subformula : Formula → Formula → Bool
is_subformula goal a = list_any (same_formula a) (subformulas goal)

-- what may be cut on the way to the goal: its subformulas
abbrev pub goal_cuts : Formula → SignedSet
goal_cuts goal s = is_subformula goal s.1

-- the proof closes the set of signed formulas for the goal
abbrev pub Derives : Logic → Formula → SignedSet → Tree Signed → Type 0
Derives L goal X P = Closed trees (goal_cuts goal) L X P

-- the set of s alone
abbrev pub only : Signed → SignedSet
only s = same_signed s

-- the proof proves the formula: it closes the set of `F a` alone
abbrev pub Proves : Logic → Tree Signed → Formula → Type 0
Proves L P a = Derives L a (only (F, a)) P
