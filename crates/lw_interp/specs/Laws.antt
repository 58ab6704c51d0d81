-- The law of interpolants.
use Rattle.std.specs.Prelude.{ℕ, ◌+◌, ◌*◌, ◌≤◌, IsTrue}
use Rattle.lw_formula.specs.declared.logic.Logic.{Logic}
use Rattle.lw_formula.specs.Formula.{Formula, impl, nodes}
use Rattle.lw_formula.specs.Signed.{Signed}
use Rattle.lw_proof.specs.Tree.{Tree, lines}
use Rattle.lw_proof.specs.Derivation.{Proves}
use Rattle.lw_interp.specs.Interpolant.{Interpolant, has_interpolants}
use Rattle.lw_interp.specs.Maehara.{interpolant_of}

-- a bound on the nodes of the interpolant that is read off the proof of `a -> b`
abbrev pub node_bound : Tree Signed → Formula → Formula → ℕ
node_bound P a b = lines P * (nodes (impl a b) + 1)

-- what is read off any proof of `a -> b` is an interpolant
abbrev pub ReadOffIsInterpolant : Type 0
ReadOffIsInterpolant =
    (logic : Logic) → IsTrue (has_interpolants logic) → (P : Tree Signed) (a b : Formula) → Proves logic P (impl a b) →
    Interpolant logic a (interpolant_of logic a b P) b

-- and has few nodes
abbrev pub ReadOffIsSmall : Type 0
ReadOffIsSmall =
    (logic : Logic) → IsTrue (has_interpolants logic) → (P : Tree Signed) (a b : Formula) → Proves logic P (impl a b) →
    nodes (interpolant_of logic a b P) ≤ node_bound P a b
