-- A proof that proves its goal goes on to do so in a pool that has grown.
use Rattle.std.proofs.Common.{List, sym, subst}
use Rattle.lw_formula.specs.declared.logic.Logic.{Logic}
use Rattle.lw_formula.specs.Formula.{Formula}
use Rattle.lw_formula.specs.Signed.{Signed}
use Rattle.lw_pool.specs.declared.id.FormId.{FormId}
use Rattle.lw_pool.specs.declared.id.SignedId.{SignedId}
use Rattle.lw_pool.specs.Region.{IsLive, Grows, tree_at}
use Rattle.lw_proof.specs.Tree.{Tree}
use Rattle.lw_proof.specs.Derivation.{Proves}
use Rattle.lw_proof.specs.Pooled.{proof_at, IsProofLive}
use Rattle.lw_sets.proofs.GrownPools.{proof_grows}

pub proves_later : (L : Logic) (old now : List Formula) (P : Tree SignedId) (goal : FormId) → Grows old now → IsProofLive old P → IsLive old goal →
    Proves L (proof_at old P) (tree_at old goal) → Proves L (proof_at now P) (tree_at now goal)
proves_later L old now P goal g p l h =
    subst (λ (a : Formula). Proves L (proof_at now P) a) (sym (g.same goal l))
    (subst (λ (Q : Tree Signed). Proves L Q (tree_at old goal)) (sym (proof_grows old now g P p)) h)
