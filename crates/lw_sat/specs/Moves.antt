-- The moves of a saturation: rules that leave the set with components of an item that it has, or cut.
use Rattle.std.specs.Prelude.{◌≡◌, ℕ, ◌<◌, ◌⊎◌, Bool, IsTrue, List, [], ◌∷◌, map, Option}
use Rattle.lw_formula.specs.declared.logic.Logic.{Logic}
use Rattle.lw_formula.specs.declared.parts.Parts.{Parts}
use Rattle.lw_formula.specs.declared.parts.Parts.TheVariants.{One, Two, Nu}
use Rattle.lw_proof.specs.declared.rule.Rule.{Rule}
use Rattle.lw_proof.specs.System.{Set}
use Rattle.lw_proof.specs.Derivation.{has_refl, side, premises, Applies}
use Rattle.lw_proof.specs.Lean.{own_steps, AllHaveNew, HasNew}
use Rattle.lw_closure.specs.Table.{Table, item_count, entry_at}
use Rattle.lw_closure.specs.Items.{items, cuts}
use Rattle.lw_sat.specs.Sets.{adding, either, without, HasEach, AreAllBelow}

-- the components of a first and perhaps a second
abbrev pub listed : ℕ × Option ℕ → List ℕ
listed s = side s.0 s.1

-- what the rule on the item wants in the set: the item, but for a cut
abbrev pub needed : Rule → ℕ → List ℕ
needed Rule.Close item = item ∷ []
needed Rule.Absurd item = item ∷ []
needed Rule.One item = item ∷ []
needed Rule.Two item = item ∷ []
needed Rule.Refl item = item ∷ []
needed Rule.Step item = item ∷ []
needed Rule.Serial item = item ∷ []
needed Rule.Cut item = []

-- what a proof that begins with the rule uses, where the one above the rule uses U
abbrev pub used_alone : Rule → ℕ → ℕ × Option ℕ → Set ℕ → Set ℕ
used_alone rule item side U = adding (needed rule item) (without (listed side) U)

-- the same where those above the rule's two sides use U and V
abbrev pub used_branches : Rule → ℕ → ℕ × Option ℕ → ℕ × Option ℕ → Set ℕ → Set ℕ → Set ℕ
used_branches rule item first second U V = adding (needed rule item) (either (without (listed first) U) (without (listed second) V))

-- the rule on the item is no Step, and leaves a set for each side: the set with that side
pub record Leaves (t : Table) (rule : Rule) (item : ℕ) (css : List (List ℕ)) : Type 0 where
  pub applies : (X : Set ℕ) → HasEach (needed rule item) X → Applies (items t) (cuts t) t.logic X rule item
  pub still : own_steps rule ≡ 0
  pub left : (X : Set ℕ) → premises (items t) t.logic rule item (entry_at t item).parts X ≡ map (λ cs. adding cs X) css

-- the rule on the item, which leaves these sides, has something new for each of them
pub record Moves (t : Table) (X : Set ℕ) (rule : Rule) (item : ℕ) (css : List (List ℕ)) : Type 0 where
  pub below : item < item_count t
  pub sides : AreAllBelow (item_count t) css
  pub leaves : Leaves t rule item css
  pub there : HasEach (needed rule item) X
  pub gains : AllHaveNew X (map (λ cs. adding cs X) css)

-- cs are components of what has these parts, which the set of a label has where the item is in it: those of One, of a side of Two, and, in the
-- logics whose worlds see themselves, that of a ν
abbrev pub IsSide : Logic → Parts ℕ → List ℕ → Type 0
IsSide L (One a b) cs = cs ≡ side a b
IsSide L (Two p q) cs = (cs ≡ listed p) ⊎ (cs ≡ listed q)
IsSide L (Nu c) cs = IsTrue (has_refl L) × (cs ≡ c ∷ [])
IsSide L _ cs = ⊥

-- the test goes on to hold where components of a member are added
abbrev pub Survives : Table → (Set ℕ → Bool) → Type 0
Survives t test = (X : Set ℕ) (i : ℕ) (cs : List ℕ) → i < item_count t → IsTrue (X i) → IsSide t.logic (entry_at t i).parts cs → HasNew X (adding cs X) → IsTrue (test X) → IsTrue (test (adding cs X))
