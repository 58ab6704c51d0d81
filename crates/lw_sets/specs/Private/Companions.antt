-- What a step adds beside the component of its π.
use Rattle.std.specs.Prelude.{◌≡◌, List, Option, option_map}
use Rattle.lw_formula.specs.declared.logic.Logic.{Logic}
use Rattle.lw_formula.specs.Formula.{Formula}
use Rattle.lw_formula.specs.Signed.{Signed}
use Rattle.lw_pool.specs.declared.id.SignedId.{SignedId}
use Rattle.lw_pool.specs.Region.{Grows, signed_at}
use Rattle.lw_proof.specs.System.{trees}
use Rattle.lw_proof.specs.Derivation.{side, added}

-- what the step on x adds beside a component is this, if anything
abbrev pub IsCompanion : Logic → List Formula → SignedId → Option SignedId → Type 0
IsCompanion L now x o =
    (ts : List Formula) (c : Signed) → Grows now ts → added trees L (signed_at ts x) c ≡ side c (option_map (signed_at ts) o)
