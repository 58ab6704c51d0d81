-- What has a fixed point here, and why a formula has none.
use Rattle.std.specs.Prelude.{◌≡◌, ℕ, ◌<◌, ◌≤◌, List, length, ⊤}
use Rattle.lw_formula.specs.Formula.{Formula}
use Rattle.lw_fix.specs.declared.fault.FixFault.{FixFault}
use Rattle.lw_fix.specs.declared.fault.FixFault.TheVariants.{NotModalised, TooManyBoxes, Memory}
use Rattle.lw_fix.specs.Outermost.{StandsBare, Modalised, outermost}

-- how many outermost modal subformulas with the variable there may be
abbrev pub box_limit : ℕ
box_limit = 10

-- every occurrence of p is under a modality, and there are not too many outermost modal subformulas with p
abbrev pub IsWithinLimit : List ℕ → Formula → Type 0
IsWithinLimit p a = Modalised p a × (length (outermost p a) ≤ box_limit)

-- the fault names what is in the way, an occurrence under no modality first, or is want of memory
abbrev pub IsFaultOf : List ℕ → Formula → FixFault → Type 0
IsFaultOf p a NotModalised = StandsBare p a
IsFaultOf p a (TooManyBoxes count) = Modalised p a × (count ≡ length (outermost p a)) × (box_limit < count)
IsFaultOf p a Memory = ⊤
