use Rattle.std.proofs.Common.{◌≡◌, ℕ, ◌<◌, true}
use Rattle.lw_proof.specs.System.{IsWithin}
use Rattle.lw_sat.specs.Sets.{among, top}
use Rattle.lw_search.specs.Private.StepUse.{kept_of}
use Rattle.lw_search.proofs.tableau.Tableau.has_kept.Given as goal

abbrev pub invariant-loop-item : goal.invariant-loop-item
invariant-loop-item g l = (i : ℕ) → i < l.item → top l.label.labels i ≡ true → IsWithin (kept_of l.self i) (among l.items)
