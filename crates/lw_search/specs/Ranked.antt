-- Why a search ends: what a rule for steps owes to the loop.
use Rattle.std.specs.Prelude.{◌≡◌, ℕ, ◌-◌, ◌<◌, ◌≤◌, ◌⊎◌, Bool, false, IsTrue, Contains, List, [], ◌∷◌, ⊤}
use Rattle.lw_formula.specs.declared.logic.Logic.{Logic}
use Rattle.lw_formula.specs.declared.parts.Parts.TheVariants.{Nu, Pi}
use Rattle.lw_formula.specs.declared.sign.Sign.TheVariants.{F}
use Rattle.lw_formula.specs.Formula.{Formula, depth, modal_count}
use Rattle.lw_pool.specs.Region.{tree_at}
use Rattle.lw_model.specs.Bounds.{step_bound}
use Rattle.lw_proof.specs.System.{Set, IsWithin}
use Rattle.lw_proof.specs.Derivation.{has_cut, has_refl, has_serial, kept}
use Rattle.lw_closure.specs.Table.{Table, entry_at, item_count, signed_of}
use Rattle.lw_closure.specs.Items.{items}
use Rattle.lw_closure.specs.Keeps.{Keeps}
use Rattle.lw_closure.specs.Unclosed.{IsUnclosedLabel}
use Rattle.lw_counter.specs.FragmentPaths.{has_links}
use Rattle.lw_sat.specs.Moves.{Survives}
use Rattle.lw_sat.specs.Sets.{among, IsOfItems}
use Rattle.lw_search.specs.Step.{is_asker, seed}

-- a world on the way to a label: its number, its own label, and the item on which the step went on from there
pub record Past : Type 0 where
  pub world : ℕ
  pub label : Set ℕ
  pub item : ℕ

-- a step on the item leads to a label with the component c: the item is a π, or in the serial logic a ν
abbrev pub StepsTo : Table → ℕ → ℕ → Type 0
StepsTo t item c = ((entry_at t item).parts ≡ Pi c) ⊎ (IsTrue (has_serial t.logic) × ((entry_at t item).parts ≡ Nu c))

-- the path, from the last world back to the root, leads to the label X: each label has the seed of the step that leads to it
abbrev pub LeadsTo : Table → List Past → Set ℕ → Type 0
LeadsTo t [] X = ⊤
LeadsTo t (p ∷ path) X = ((c : ℕ) × StepsTo t p.item c × IsWithin (seed t p.label p.item c) X) × LeadsTo t path p.label

-- a link from a world with the label X to one with the label Y serves a π with the component c: Y has it, and all that a step from X keeps
abbrev pub IsServedBy : Table → Set ℕ → Set ℕ → ℕ → Type 0
IsServedBy t X Y c = IsTrue (has_links t.logic) × IsTrue (Y c) × IsWithin (kept (items t) t.logic X) Y

-- the label X, to which the path leads, asks for a step on `item` with the component c: it is unclosed, its world doesn't serve the item
-- itself, and no link to its own world or to one of the path does
pub record AsksFor (t : Table) (path : List Past) (X : Set ℕ) (item c : ℕ) : Type 0 where
  pub items : IsOfItems t X
  pub unclosed : IsUnclosedLabel t X
  pub leads : LeadsTo t path X
  pub there : IsTrue (X item)
  pub steps : StepsTo t item c
  pub alone : IsTrue (has_refl t.logic) → ¬ IsTrue (X c)
  pub own : ¬ IsServedBy t X X c
  pub far : (p : Past) → Contains path p → ¬ IsServedBy t X p.label c

-- a test of labels: so many Steps, one above the other, are enough above a label to which the path leads, where a pool has the formulas ts
abbrev pub Ranking : Type 0
Ranking = List Formula → Table → List Past → ℕ → Set ℕ → Bool

-- the closure is one of the logic, and the pool with the formulas ts has kept it
pub record IsFor (L : Logic) (ts : List Formula) (t : Table) : Type 0 where
  pub logic : t.logic ≡ L
  pub keeps : Keeps ts t

-- X is the set of the goal's item under the sign F
pub record IsGoal (ts : List Formula) (t : Table) (X : Set ℕ) : Type 0 where
  pub item : ℕ
  pub below : item < item_count t
  pub signed : signed_of ts t item ≡ (F, tree_at ts t.goal)
  pub only : X ≡ among (item ∷ [])

-- the logic has no cuts, and the ranking tells of each label that comes up how many Steps are enough: so many as the bound says above the goal, no more above a label with
-- components of its items added, and one less above the seed of a step, so that one at least is left where a label asks for a step
pub record IsRanked (L : Logic) (suffice : Ranking) (bound : List Formula → Table → ℕ) : Type 0 where
  pub uncut : has_cut L ≡ false
  pub begins : (ts : List Formula) (t : Table) (X : Set ℕ) → IsFor L ts t → IsGoal ts t X → IsTrue (suffice ts t [] (bound ts t) X)
  pub few : (ts : List Formula) (t : Table) → IsFor L ts t → bound ts t ≤ step_bound L (modal_count (tree_at ts t.goal)) (depth (tree_at ts t.goal))
  pub goes_on : (ts : List Formula) (t : Table) (path : List Past) (n : ℕ) → IsFor L ts t → Survives t (suffice ts t path n)
  pub falls :
      (ts : List Formula) (t : Table) (path : List Past) (n : ℕ) (X : Set ℕ) (item c w : ℕ) → IsFor L ts t →
      IsTrue (suffice ts t path n X) → AsksFor t path X item c →
      (0 < n) × ((entry_at t item).parts ≡ Pi c → IsTrue (is_asker t item)) × IsTrue (suffice ts t ((record { world = w; label = X; item = item }) ∷ path) (n - 1) (seed t X item c))
