-- What contracts see of a closure: signed formulas by number, and what the rules have to know of them.
use Rattle.std.specs.Prelude.{◌≡◌, ℕ, ◌+◌, ◌-◌, ◌*◌, ◌/◌, ◌%◌, ◌<◌, ◌≤◌, ◌==◌, if◌then◌else◌, false, None, Contains, List, length}
use Rattle.std.specs.List.{slice_index_or}
use Rattle.lw_formula.specs.declared.logic.Logic.{Logic}
use Rattle.lw_formula.specs.declared.parts.Parts.TheVariants.{Nothing}
use Rattle.lw_formula.specs.declared.sign.Sign.{Sign}
use Rattle.lw_formula.specs.declared.sign.Sign.TheVariants.{T, F}
use Rattle.lw_formula.specs.Formula.{Formula}
use Rattle.lw_formula.specs.Signed.{Signed}
use Rattle.lw_pool.specs.declared.id.FormId.{FormId}
use Rattle.lw_pool.specs.declared.id.SignedId.{SignedId}
use Rattle.lw_pool.specs.Region.{tree_at, signed_at}
use Rattle.lw_closure.specs.declared.entry.Entry.{Entry}
use Rattle.lw_closure.specs.declared.fault.TheConstants.{SUBFORMULA_LIMIT}
use Rattle.lw_closure.specs.Mapping.{OfParts}
use Rattle.std.specs.Option.{ForSome}

-- a closure: the ids of its formulas, and for each item what the rules have to know of it. Item 2i is `T` and item 2i + 1 is `F` of
-- formula i
pub record Table : Type 0 where
  pub logic : Logic
  pub goal : FormId
  pub forms : List FormId
  pub entries : List Entry

-- how many items there are
abbrev pub item_count : Table → ℕ
item_count t = 2 * length t.forms

-- the sign of an item
abbrev pub sign_of : ℕ → Sign
sign_of i = if i % 2 == 0 then T else F

-- the same formula under the other sign
abbrev pub flip_item : ℕ → ℕ
flip_item i = if i % 2 == 0 then i + 1 else i - 1

-- formula i, by its id
abbrev pub form_of : List FormId → ℕ → FormId
form_of forms i = slice_index_or forms i (record { 0 = 0 })

-- item i, by the id of its formula
abbrev pub item_of : List FormId → ℕ → SignedId
item_of forms i = record { sign = sign_of i; form = form_of forms (i / 2) }

-- item i of the table
abbrev pub item_at : Table → ℕ → SignedId
item_at t i = item_of t.forms i

-- formula i, where the pool has the formulas ts
abbrev pub form_at : List Formula → List FormId → ℕ → Formula
form_at ts forms i = tree_at ts (form_of forms i)

-- the signed formula of an item, where the pool has the formulas ts
abbrev pub signed_of : List Formula → Table → ℕ → Signed
signed_of ts t i = signed_at ts (item_at t i)

-- what the table has for an item, where what is no item has nothing
abbrev pub entry_at : Table → ℕ → Entry
entry_at t i = slice_index_or t.entries i (record { parts = Nothing; guard = None; absurd = false })

-- the most formulas that a closure can have: the goal's subformulas, of which one at least isn't modal, and for each other three of a guard
abbrev pub most_forms : ℕ
most_forms = SUBFORMULA_LIMIT + 3 * (SUBFORMULA_LIMIT - 1)

-- the table is as each closure's is: the goal is among the formulas, of which there aren't too many, each item has an entry, and what an
-- entry speaks of are items
pub record IsTable (t : Table) : Type 0 where
  pub goal : Contains t.forms t.goal
  pub few : length t.forms ≤ most_forms
  pub whole : length t.entries ≡ item_count t
  pub parts : (i : ℕ) → i < item_count t → OfParts (λ j. j < item_count t) (entry_at t i).parts
  pub guard : (i : ℕ) → i < item_count t → ForSome (entry_at t i).guard (λ j. j < item_count t)
