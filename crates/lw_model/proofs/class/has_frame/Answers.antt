use Rattle.std.proofs.Common.{refl}
use Rattle.lw_model.proofs.class.has_frame.Goals as goal

pub returns-then-is_transitive : goal.returns-then-is_transitive
returns-then-is_transitive c = rw c.in-GL.is (λ t. (c.if-is_transitive.ensures.0 refl, c.is_irreflexive.ensures.0 t), λ h. c.is_irreflexive.ensures.1 h.1)

pub returns-then-is_preorder-2 : goal.returns-then-is_preorder-2
returns-then-is_preorder-2 c =
    let order = c.if-is_preorder-2.ensures.0 refl in
    rw c.in-Grz.is (λ t. (order.0, order.1, c.is_antisymmetric.ensures.0 t), λ h. c.is_antisymmetric.ensures.1 h.2)

pub returns-in-K4 : goal.returns-in-K4
returns-in-K4 c = rw c.in-K4.is c.is_transitive-in-K4.ensures
