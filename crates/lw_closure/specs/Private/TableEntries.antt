-- What is put into the table while a closure is built.
use Rattle.std.specs.Prelude.{◌≡◌, ℕ, ◌*◌, ◌/◌, ◌<◌, if◌then◌else◌, Option, None, List, length}
use Rattle.std.specs.List.{slice_index_or}
use Rattle.lw_formula.specs.Formula.{Formula}
use Rattle.lw_formula.specs.Components.{parts_of, is_absurd}
use Rattle.lw_pool.specs.declared.id.FormId.{FormId}
use Rattle.lw_pool.specs.Region.{signed_at}
use Rattle.lw_proof.specs.Derivation.{is_pi}
use Rattle.lw_closure.specs.declared.entry.Entry.{Entry}
use Rattle.lw_closure.specs.Mapping.{OfParts, map_parts}
use Rattle.lw_closure.specs.Table.{item_of}

-- what the table is to have for an item of these formulas, where these are the numbers of their own guards
pub record IsEntry (ts : List Formula) (forms : List FormId) (guards : List (Option ℕ)) (item : ℕ) (e : Entry) : Type 0 where
  pub parts : map_parts (λ i. signed_at ts (item_of forms i)) e.parts ≡ parts_of (signed_at ts (item_of forms item))
  pub within : OfParts (λ i. i < 2 * length forms) e.parts
  pub guard : e.guard ≡ (if is_pi e.parts then slice_index_or guards (item / 2) None else None)
  pub absurd : e.absurd ≡ is_absurd (signed_at ts (item_of forms item))

-- each entry is so
abbrev pub AreEntries : List Formula → List FormId → List (Option ℕ) → List Entry → Type 0
AreEntries ts forms guards es = (i : ℕ) (d : Entry) → i < length es → IsEntry ts forms guards i (slice_index_or es i d)
