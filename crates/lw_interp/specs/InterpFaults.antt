-- Why there is no interpolant.
use Rattle.std.specs.Prelude.{◌≡◌, false, IsTrue}
use Rattle.lw_formula.specs.declared.logic.Logic.{Logic}
use Rattle.lw_interp.specs.declared.fault.InterpFault.{InterpFault}
use Rattle.lw_interp.specs.declared.fault.InterpFault.TheVariants.{NoInterpolants, Memory}
use Rattle.lw_interp.specs.Interpolant.{has_interpolants}

-- the fault names the logic where no interpolants are read off its proofs, and elsewhere is want of memory
abbrev pub IsFaultOf : Logic → InterpFault → Type 0
IsFaultOf L (NoInterpolants logic) = (logic ≡ L) × (has_interpolants L ≡ false)
IsFaultOf L Memory = IsTrue (has_interpolants L)
