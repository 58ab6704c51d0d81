use Rattle.std.proofs.Common.{ℕ, ◌≡◌, ◌*◌, ◌<◌, true}
use Rattle.lw_proof.specs.Derivation.{is_modal_part}
use Rattle.lw_closure.specs.Table.{entry_at}
use Rattle.lw_sat.specs.Course.{label}
use Rattle.lw_s5.specs.Private.RootedSearch.{decides}
use Rattle.lw_s5.proofs.child.undecided.Given as goal

abbrev pub invariant-loop-formula : goal.invariant-loop-formula
invariant-loop-formula l =
    (f : ℕ) → f < l.formula → is_modal_part (entry_at l.closure (2 * f)).parts ≡ true → decides (label l.child) f ≡ true → decides (label l.root) f ≡ true
