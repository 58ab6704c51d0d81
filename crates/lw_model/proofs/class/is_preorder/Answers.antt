use Rattle.std.proofs.Common.{refl}
use Rattle.lw_model.proofs.class.is_preorder.Goals as goal

pub returns-then-is_reflexive : goal.returns-then-is_reflexive
returns-then-is_reflexive c = (λ t. (c.if-is_reflexive.ensures.0 refl, c.is_transitive.ensures.0 t), λ h. c.is_transitive.ensures.1 h.1)
