-- The state of a saturation after a fold of its frames.
use Rattle.std.specs.Prelude.{Option, Some, None}
use Rattle.lw_pool.specs.declared.id.SignedId.{SignedId}
use Rattle.lw_proof.specs.Tree.{Tree}
use Rattle.lw_sat.specs.declared.saturation.State.{State}
use Rattle.lw_sat.specs.declared.saturation.State.TheVariants.{Working, Closed}

-- the state that a fold of frames leads to
abbrev pub state_from : Option (Tree SignedId) → State
state_from None = Working
state_from (Some p) = Closed p
