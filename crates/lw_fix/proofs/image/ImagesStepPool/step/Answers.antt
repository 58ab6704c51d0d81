use Rattle.std.proofs.Common.{◌≡◌, refl, sym, ap, subst, ◌∙◌, inl, inr}
use Rattle.lw_formula.specs.Formula.{neg, conj, disj, impl, equi, IsOperand}
use Rattle.lw_pool.specs.Region.{tree_at, tree_of_node, AreChildrenBelow}
use Rattle.lw_fix.proofs.ImagesFound.{put-neg, put-conj, put-disj, put-impl, put-equi}
use Rattle.lw_fix.proofs.image.ImagesStepPool.step.Goals as goal

pub returns-in-Not-clause-right : goal.returns-in-Not-clause-right
returns-in-Not-clause-right c =
    let is : tree_at c.args.pool.now c.args.at ≡ neg (tree_at c.args.pool.now c.in-Not.a) = sym c.node.ensures.tree ∙ ap (tree_of_node c.args.pool.now) c.in-Not.is in
    let small = subst (AreChildrenBelow c.args.at.0) c.in-Not.is c.node.ensures.below in
    put-neg c.args.pool.now c.make.new.self c.args.self.now.images.now c.args.at c.in-Not.a _ c.make.result c.make.ensures.grows c.requires.suits is
    (c.requires.operands c.in-Not.a _ small (subst (IsOperand (tree_at c.args.pool.now c.in-Not.a)) (sym is) refl))
    c.make.ensures.at

pub returns-in-And-clause-right : goal.returns-in-And-clause-right
returns-in-And-clause-right c =
    let is : tree_at c.args.pool.now c.args.at ≡ conj (tree_at c.args.pool.now c.in-And.a) (tree_at c.args.pool.now c.in-And.b) =
    sym c.node.ensures.tree ∙ ap (tree_of_node c.args.pool.now) c.in-And.is in
    let small = subst (AreChildrenBelow c.args.at.0) c.in-And.is c.node.ensures.below in
    put-conj c.args.pool.now c.make-in-And.new.self c.args.self.now.images.now c.args.at c.in-And.a c.in-And.b _ _ c.make-in-And.result c.make-in-And.ensures.grows c.requires.suits is
    (c.requires.operands c.in-And.a _ small.0 (subst (IsOperand (tree_at c.args.pool.now c.in-And.a)) (sym is) (inl refl)))
    (c.requires.operands c.in-And.b _ small.1 (subst (IsOperand (tree_at c.args.pool.now c.in-And.b)) (sym is) (inr refl)))
    c.make-in-And.ensures.at

pub returns-in-Or-clause-right : goal.returns-in-Or-clause-right
returns-in-Or-clause-right c =
    let is : tree_at c.args.pool.now c.args.at ≡ disj (tree_at c.args.pool.now c.in-Or.a) (tree_at c.args.pool.now c.in-Or.b) =
    sym c.node.ensures.tree ∙ ap (tree_of_node c.args.pool.now) c.in-Or.is in
    let small = subst (AreChildrenBelow c.args.at.0) c.in-Or.is c.node.ensures.below in
    put-disj c.args.pool.now c.make-in-Or.new.self c.args.self.now.images.now c.args.at c.in-Or.a c.in-Or.b _ _ c.make-in-Or.result c.make-in-Or.ensures.grows c.requires.suits is
    (c.requires.operands c.in-Or.a _ small.0 (subst (IsOperand (tree_at c.args.pool.now c.in-Or.a)) (sym is) (inl refl)))
    (c.requires.operands c.in-Or.b _ small.1 (subst (IsOperand (tree_at c.args.pool.now c.in-Or.b)) (sym is) (inr refl)))
    c.make-in-Or.ensures.at

pub returns-in-Imp-clause-right : goal.returns-in-Imp-clause-right
returns-in-Imp-clause-right c =
    let is : tree_at c.args.pool.now c.args.at ≡ impl (tree_at c.args.pool.now c.in-Imp.a) (tree_at c.args.pool.now c.in-Imp.b) =
    sym c.node.ensures.tree ∙ ap (tree_of_node c.args.pool.now) c.in-Imp.is in
    let small = subst (AreChildrenBelow c.args.at.0) c.in-Imp.is c.node.ensures.below in
    put-impl c.args.pool.now c.make-in-Imp.new.self c.args.self.now.images.now c.args.at c.in-Imp.a c.in-Imp.b _ _ c.make-in-Imp.result c.make-in-Imp.ensures.grows c.requires.suits is
    (c.requires.operands c.in-Imp.a _ small.0 (subst (IsOperand (tree_at c.args.pool.now c.in-Imp.a)) (sym is) (inl refl)))
    (c.requires.operands c.in-Imp.b _ small.1 (subst (IsOperand (tree_at c.args.pool.now c.in-Imp.b)) (sym is) (inr refl)))
    c.make-in-Imp.ensures.at

pub returns-in-Iff-clause-right : goal.returns-in-Iff-clause-right
returns-in-Iff-clause-right c =
    let is : tree_at c.args.pool.now c.args.at ≡ equi (tree_at c.args.pool.now c.in-Iff.a) (tree_at c.args.pool.now c.in-Iff.b) =
    sym c.node.ensures.tree ∙ ap (tree_of_node c.args.pool.now) c.in-Iff.is in
    let small = subst (AreChildrenBelow c.args.at.0) c.in-Iff.is c.node.ensures.below in
    put-equi c.args.pool.now c.make-in-Iff.new.self c.args.self.now.images.now c.args.at c.in-Iff.a c.in-Iff.b _ _ c.make-in-Iff.result c.make-in-Iff.ensures.grows c.requires.suits is
    (c.requires.operands c.in-Iff.a _ small.0 (subst (IsOperand (tree_at c.args.pool.now c.in-Iff.a)) (sym is) (inl refl)))
    (c.requires.operands c.in-Iff.b _ small.1 (subst (IsOperand (tree_at c.args.pool.now c.in-Iff.b)) (sym is) (inr refl)))
    c.make-in-Iff.ensures.at
