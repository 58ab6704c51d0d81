-- Proofs whose principals are ids of a pool.
use Rattle.std.specs.Prelude.{List}
use Rattle.lw_formula.specs.Formula.{Formula}
use Rattle.lw_formula.specs.Signed.{Signed}
use Rattle.lw_pool.specs.declared.id.SignedId.{SignedId}
use Rattle.lw_pool.specs.Region.{IsLive, signed_at}
use Rattle.lw_proof.specs.Tree.{Tree, map_tree, EachPrincipal}

-- the proof with the signed formulas of its ids
abbrev pub proof_at : List Formula → Tree SignedId → Tree Signed
proof_at ts P = map_tree (signed_at ts) P

-- the pool has each id of the proof
abbrev pub IsProofLive : List Formula → Tree SignedId → Type 0
IsProofLive ts P = EachPrincipal (λ s. IsLive ts s.form) P
