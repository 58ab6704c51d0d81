-- What it means that a pool has a closure's formulas, and that its table tells of them.
use Rattle.std.specs.Prelude.{◌≡◌, ℕ, ◌<◌, ◌⊎◌, ◌↔◌, Bool, true, false, if◌then◌else◌, Option, Some, None, All, List, length}
use Rattle.std.specs.Option.{option_map}
use Rattle.lw_formula.specs.declared.logic.Logic.{Logic}
use Rattle.lw_formula.specs.declared.logic.Logic.TheVariants.{K, KT, S4, S5, GL, Grz, K4, KD}
use Rattle.lw_formula.specs.Formula.{Formula, IsOperand, IsSubformula}
use Rattle.lw_formula.specs.Signed.{Signed}
use Rattle.lw_formula.specs.Components.{parts_of, guard_of, is_absurd}
use Rattle.lw_pool.specs.declared.id.FormId.{FormId}
use Rattle.lw_pool.specs.Region.{tree_at, IsLive}
use Rattle.lw_proof.specs.Derivation.{is_subformula}
use Rattle.lw_closure.specs.Mapping.{map_parts}
use Rattle.lw_closure.specs.Table.{Table, IsTable, item_count, form_at, signed_of, entry_at}

-- the logic in which a step wants a guard
abbrev pub has_guards : Logic → Bool
has_guards K = false
has_guards KT = false
has_guards S4 = false
has_guards S5 = false
has_guards GL = false
has_guards Grz = true
has_guards K4 = false
has_guards KD = false

-- the guard that a search in the logic adds for s: in Grz, that of a π of one of the goal's subformulas
abbrev pub guard_in : Logic → Formula → Signed → Option Signed
guard_in K goal s = None
guard_in KT goal s = None
guard_in S4 goal s = None
guard_in S5 goal s = None
guard_in GL goal s = None
guard_in Grz goal s = if is_subformula goal s.1 then guard_of s else None
guard_in K4 goal s = None
guard_in KD goal s = None

-- c is a subformula of such a guard
abbrev pub IsOfGuard : Logic → Formula → Formula → Type 0
IsOfGuard logic goal c = (s : Signed) × (g : Signed) × (guard_in logic goal s ≡ Some g) × IsSubformula c g.1

-- c is a formula of the closure: a subformula of the goal or of a guard
abbrev pub IsOfClosure : Logic → Formula → Formula → Type 0
IsOfClosure logic goal c = IsSubformula c goal ⊎ IsOfGuard logic goal c

-- c is one of the first n formulas
abbrev pub StandsBelow : List Formula → List FormId → ℕ → Formula → Type 0
StandsBelow ts forms n c = (i : ℕ) × (i < n) × (form_at ts forms i ≡ c)

-- formula i is a subformula of the goal
abbrev pub IsOfGoal : List Formula → Table → ℕ → Type 0
IsOfGoal ts t i = IsSubformula (form_at ts t.forms i) (tree_at ts t.goal)

-- the guard that a search adds for item i
abbrev pub item_guard : List Formula → Table → ℕ → Option Signed
item_guard ts t i = guard_in t.logic (tree_at ts t.goal) (signed_of ts t i)

-- the pool with the formulas ts has kept the closure's formulas: they are there, each once and behind its operands, they are the formulas
-- of the closure, the goal's subformulas first, and the table tells of each item what is so of its signed formula
pub record Keeps (ts : List Formula) (t : Table) : Type 0 where
  pub table : IsTable t
  pub live : All (IsLive ts) t.forms
  pub distinct : (i j : ℕ) → i < length t.forms → j < length t.forms → form_at ts t.forms i ≡ form_at ts t.forms j → i ≡ j
  pub operands : (i : ℕ) (c : Formula) → i < length t.forms → IsOperand c (form_at ts t.forms i) → StandsBelow ts t.forms i c
  pub exact : (c : Formula) → StandsBelow ts t.forms (length t.forms) c ↔ IsOfClosure t.logic (tree_at ts t.goal) c
  pub goal_first : (i j : ℕ) → i < j → j < length t.forms → IsOfGoal ts t j → IsOfGoal ts t i
  pub parts : (i : ℕ) → i < item_count t → map_parts (signed_of ts t) (entry_at t i).parts ≡ parts_of (signed_of ts t i)
  pub guard : (i : ℕ) → i < item_count t → option_map (signed_of ts t) (entry_at t i).guard ≡ item_guard ts t i
  pub absurd : (i : ℕ) → i < item_count t → (entry_at t i).absurd ≡ is_absurd (signed_of ts t i)
