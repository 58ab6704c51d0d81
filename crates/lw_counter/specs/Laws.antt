-- The laws of fragments.
use Rattle.std.specs.Prelude.{ℕ, ◌<◌, Contains, List, length}
use Rattle.lw_formula.specs.declared.logic.Logic.{Logic}
use Rattle.lw_formula.specs.Formula.{Formula}
use Rattle.lw_formula.specs.FiniteModel.{FiniteModel}
use Rattle.lw_formula.specs.Class.{Class}
use Rattle.lw_formula.specs.Signed.{SignedSet, HoldsSigned, Satisfies}
use Rattle.lw_proof.specs.System.{trees}
use Rattle.lw_closure.specs.Table.{Table, signed_of}
use Rattle.lw_closure.specs.Items.{items}
use Rattle.lw_closure.specs.Keeps.{Keeps}
use Rattle.lw_counter.specs.Fragment.{Fragment, world_at, items_of, formulas_of, HasItemsOf}
use Rattle.lw_counter.specs.Open.{IsOpen}
use Rattle.lw_counter.specs.Countermodel.{IsModelOf}

-- the model is of the logic's class, and every label holds at its world
abbrev pub IsCountermodel : Logic → Fragment → (ℕ → SignedSet) → FiniteModel → Type 0
IsCountermodel L f label m = Class L m × ((w : ℕ) → w < length f.worlds → Satisfies m w (label w))

-- the model of an open fragment is such a model
abbrev pub OpenFragmentsAreModels : Type 0
OpenFragmentsAreModels =
    (L : Logic) (f : Fragment) (label : ℕ → SignedSet) (m : FiniteModel) →
    IsOpen trees L f label → IsModelOf L f label m → IsCountermodel L f label m

-- a fragment that is open by a closure's table is open by the formulas of a pool that has kept the closure's
abbrev pub OpenItemsAreOpenFormulas : Type 0
OpenItemsAreOpenFormulas =
    (ts : List Formula) (t : Table) → Keeps ts t → (f : Fragment) → HasItemsOf t f →
    IsOpen (items t) t.logic f (items_of f) → IsOpen trees t.logic f (formulas_of ts t f)

-- so its model is of the logic's class, and the signed formula of each item of a label holds at the label's world
abbrev pub OpenItemsMakeCountermodels : Type 0
OpenItemsMakeCountermodels =
    (ts : List Formula) (t : Table) → Keeps ts t → (f : Fragment) → HasItemsOf t f → IsOpen (items t) t.logic f (items_of f) →
    (m : FiniteModel) → IsModelOf t.logic f (formulas_of ts t f) m →
    Class t.logic m × ((w i : ℕ) → w < length f.worlds → Contains (world_at f w).label i → HoldsSigned m w (signed_of ts t i))
