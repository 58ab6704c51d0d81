-- The parts of a certificate's lines.
use Rattle.std.proofs.Common.{◌≡◌, List, [], ◌∷◌, refl, sym, ◌∙◌, ap}
use Rattle.lw_formula.specs.declared.logic.Logic.{Logic}
use Rattle.lw_formula.specs.Formula.{Formula}
use Rattle.lw_formula.specs.Signed.{Signed}
use Rattle.lw_proof.specs.Tree.{Tree}
use Rattle.lw_cert.specs.Lines.{Line, heading, logic_is, formula_is, proof_follows}
use Rattle.lw_cert.specs.Sheet.{Content, Steps, Table, steps, content_lines, IsRegular}
use Rattle.lw_cert.specs.Private.StageViews.{grown, steps_in}
use Rattle.lw_cert.proofs.MachineRuns.{closing}
use Rattle.lw_cert.proofs.PreOrder.{grown-steps}

pub parts-same : (L M : Logic) (a b : Formula) (ls ms : List Line) → heading ∷ logic_is L ∷ formula_is a ∷ ls ≡ heading ∷ logic_is M ∷ formula_is b ∷ ms → (L ≡ M) × (a ≡ b) × (ls ≡ ms)
parts-same L M a b ls ms same = (cc, cc, cc)

-- the lines behind `proof` are those of a proof, which they make
pub proof-told : (b : Content) (ls : List Line) → IsRegular b → content_lines b ≡ proof_follows ∷ ls → (t : Tree Signed) × (b ≡ Steps t) × (grown (steps_in ls) [] ≡ t ∷ [])
proof-told (Steps t) ls full same = let tail : steps 1 t closing ≡ ls = cc in (t, refl, ap (λ ks. grown (steps_in ks) []) (sym tail) ∙ grown-steps 1 t closing full)
proof-told (Table w rows) ls full same = absurd (cc)
