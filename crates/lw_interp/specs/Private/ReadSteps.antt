-- The steps of a proof of which an interpolant is read off.
use Rattle.std.specs.Prelude.{◌≡◌, Bool, true, false, IsTrue, ⊤, List, Option, option_map}
use Rattle.lw_formula.specs.declared.logic.Logic.{Logic}
use Rattle.lw_formula.specs.declared.parts.Parts.{Parts}
use Rattle.lw_formula.specs.declared.parts.Parts.TheVariants.{Nothing}
use Rattle.lw_formula.specs.Formula.{Formula}
use Rattle.lw_formula.specs.Signed.{Signed}
use Rattle.lw_formula.specs.Components.{parts_of}
use Rattle.lw_pool.specs.declared.id.SignedId.{SignedId}
use Rattle.lw_pool.specs.Region.{signed_at}
use Rattle.lw_proof.specs.declared.rule.Rule.{Rule}
use Rattle.lw_proof.specs.Tree.{Tree, Forest, node, none, more, count_of}
use Rattle.lw_proof.specs.System.{trees}
use Rattle.lw_proof.specs.Derivation.{is_one, is_two, is_nu, is_pi, side, added}
use Rattle.lw_proof.specs.Break.{arity}
use Rattle.lw_proof.specs.Pooled.{proof_at, IsProofLive}
use Rattle.lw_interp.specs.Interpolant.{has_interpolants}

-- the components of the principal, which comes to p, that the rule adds
abbrev pub components_of : Rule → Parts Signed → Parts Signed
components_of Rule.Close p = Nothing
components_of Rule.Absurd p = Nothing
components_of Rule.One p = p
components_of Rule.Two p = p
components_of Rule.Refl p = p
components_of Rule.Step p = p
components_of Rule.Serial p = Nothing
components_of Rule.Cut p = Nothing

-- whether the rule takes a principal that comes to p; no logic with interpolants has Serial, and a cut has no side
abbrev pub takes : Rule → Parts Signed → Bool
takes Rule.Close p = true
takes Rule.Absurd p = true
takes Rule.One p = is_one p
takes Rule.Two p = is_two p
takes Rule.Refl p = is_nu p
takes Rule.Step p = is_pi p
takes Rule.Serial p = false
takes Rule.Cut p = false

-- each step's rule takes its principal, and has a subproof for each of its premises
abbrev mutual
  pub IsShaped : Tree Signed → Type 0
  IsShaped (node r s ts) = IsTrue (takes r (parts_of s)) × (count_of ts ≡ arity r) × AreShaped ts

  pub AreShaped : Forest Signed → Type 0
  AreShaped none = ⊤
  AreShaped (more t ts) = IsShaped t × AreShaped ts

-- the pool has the proof's ids, and its steps have their shape
abbrev pub IsReadable : List Formula → Tree SignedId → Type 0
IsReadable ts P = IsProofLive ts P × IsShaped (proof_at ts P)

-- what the step on the π x adds beside its component is this, if anything
abbrev pub IsCompanion : Logic → SignedId → Option SignedId → Type 0
IsCompanion L x o =
    IsTrue (has_interpolants L) → (ts : List Formula) (c : Signed) →
    added trees L (signed_at ts x) c ≡ side c (option_map (signed_at ts) o)
