-- What is read off a proof whose principals, and the two sides of the implication that it proves, are ids of a pool.
use Rattle.std.specs.Prelude.{ℕ, List}
use Rattle.lw_formula.specs.declared.logic.Logic.{Logic}
use Rattle.lw_formula.specs.Formula.{Formula}
use Rattle.lw_pool.specs.declared.id.FormId.{FormId}
use Rattle.lw_pool.specs.declared.id.SignedId.{SignedId}
use Rattle.lw_pool.specs.Region.{tree_at}
use Rattle.lw_proof.specs.Tree.{Tree}
use Rattle.lw_proof.specs.Pooled.{proof_at}
use Rattle.lw_interp.specs.Laws.{node_bound}
use Rattle.lw_interp.specs.Maehara.{interpolant_of}

-- the interpolant
abbrev pub interpolant_at : Logic → List Formula → Tree SignedId → FormId → FormId → Formula
interpolant_at L ts P left right = interpolant_of L (tree_at ts left) (tree_at ts right) (proof_at ts P)

-- the bound on its nodes
abbrev pub node_bound_at : List Formula → Tree SignedId → FormId → FormId → ℕ
node_bound_at ts P left right = node_bound (proof_at ts P) (tree_at ts left) (tree_at ts right)
