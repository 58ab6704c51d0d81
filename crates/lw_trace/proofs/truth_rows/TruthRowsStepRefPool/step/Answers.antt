use Rattle.std.proofs.Common.{◌≡◌, Bool, List, not, ◌&&◌, ◌||◌, map, IfOk, inl, inr, ⊎_elim, refl, sym, ap, subst, ◌∙◌}
use Rattle.std.specs.Bool.{beq}
use Rattle.std.specs.List.{zip}
use Rattle.lw_formula.specs.Formula.{verum, neg, conj, disj, impl, equi, nec, poss, IsOperand}
use Rattle.lw_pool.specs.Region.{tree_at, tree_of_node, AreChildrenBelow}
use Rattle.lw_trace.specs.Private.TruthRows.{truth_row, all_before, some_before}
use Rattle.lw_trace.proofs.RowTruth.{letter_row, falsum_row, verum_row, neg_row, conj_row, disj_row, impl_row, equi_row, nec_row, poss_row}
use Rattle.lw_trace.proofs.truth_rows.TruthRowsStepRefPool.step.Goals as goal

pub returns-in-Var-clause-right : goal.returns-in-Var-clause-right
returns-in-Var-clause-right c =
    let ts = c.args.pool.now.now in
    let n = c.args.self.now.heights in
    subst (λ (row : List Bool). IfOk c.constant-in-Var.result (λ values. values.items ≡ row))
    (⊎_elim
    (λ var. letter_row var.0 n ∙ ap (λ a. truth_row a n) (sym (ap (tree_of_node ts) var.1) ∙ c.node.ensures.tree))
    (λ bot. falsum_row n ∙ ap (λ a. truth_row a n) (sym (ap (tree_of_node ts) bot) ∙ c.node.ensures.tree))
    c.in-Var.is)
    c.constant-in-Var.ensures

pub returns-in-Top-clause-right : goal.returns-in-Top-clause-right
returns-in-Top-clause-right c =
    let ts = c.args.pool.now.now in
    let n = c.args.self.now.heights in
    let is : tree_at ts c.args.at ≡ verum = sym c.node.ensures.tree ∙ ap (tree_of_node ts) c.in-Top.is in
    subst (λ (row : List Bool). IfOk c.constant.result (λ values. values.items ≡ row)) (verum_row n ∙ ap (λ a. truth_row a n) (sym is)) c.constant.ensures

pub returns-in-Not-clause-right : goal.returns-in-Not-clause-right
returns-in-Not-clause-right c =
    let ts = c.args.pool.now.now in
    let n = c.args.self.now.heights in
    let a = tree_at ts c.in-Not.a in
    let is : tree_at ts c.args.at ≡ neg a = sym c.node.ensures.tree ∙ ap (tree_of_node ts) c.in-Not.is in
    let small = subst (AreChildrenBelow c.args.at.0) c.in-Not.is c.node.ensures.below in
    let own : c.deref.result.now ≡ truth_row a n =
    c.deref.ensures.value ∙ ap (λ v. v.items) c.index-done-a.is ∙ c.requires.operands c.in-Not.a c.index-done-a.result small (subst (IsOperand a) (sym is) refl) in
    subst (λ (row : List Bool). IfOk c.negation.result (λ values. values.items ≡ row)) (ap (map (λ b. not b)) own ∙ neg_row a n ∙ ap (λ a. truth_row a n) (sym is)) c.negation.ensures

pub returns-in-And-clause-right : goal.returns-in-And-clause-right
returns-in-And-clause-right c =
    let ts = c.args.pool.now.now in
    let n = c.args.self.now.heights in
    let a = tree_at ts c.in-And.a in
    let b = tree_at ts c.in-And.b in
    let is : tree_at ts c.args.at ≡ conj a b = sym c.node.ensures.tree ∙ ap (tree_of_node ts) c.in-And.is in
    let small = subst (AreChildrenBelow c.args.at.0) c.in-And.is c.node.ensures.below in
    let left : c.deref-in-And.result.now ≡ truth_row a n =
    c.deref-in-And.ensures.value ∙ ap (λ v. v.items) c.index-done-a-in-And.is ∙ c.requires.operands c.in-And.a c.index-done-a-in-And.result small.0 (subst (IsOperand a) (sym is) (inl refl)) in
    let right : c.deref-in-And-2.result.now ≡ truth_row b n =
    c.deref-in-And-2.ensures.value ∙ ap (λ v. v.items) c.index-done-b.is ∙ c.requires.operands c.in-And.b c.index-done-b.result small.1 (subst (IsOperand b) (sym is) (inr refl)) in
    subst (λ (row : List Bool). IfOk c.conjunction.result (λ values. values.items ≡ row)) ((λ i. map (λ p. p.0 && p.1) (zip (left i) (right i))) ∙ conj_row a b n ∙ ap (λ a. truth_row a n) (sym is)) c.conjunction.ensures

pub returns-in-Or-clause-right : goal.returns-in-Or-clause-right
returns-in-Or-clause-right c =
    let ts = c.args.pool.now.now in
    let n = c.args.self.now.heights in
    let a = tree_at ts c.in-Or.a in
    let b = tree_at ts c.in-Or.b in
    let is : tree_at ts c.args.at ≡ disj a b = sym c.node.ensures.tree ∙ ap (tree_of_node ts) c.in-Or.is in
    let small = subst (AreChildrenBelow c.args.at.0) c.in-Or.is c.node.ensures.below in
    let left : c.deref-in-Or.result.now ≡ truth_row a n =
    c.deref-in-Or.ensures.value ∙ ap (λ v. v.items) c.index-done-a-in-Or.is ∙ c.requires.operands c.in-Or.a c.index-done-a-in-Or.result small.0 (subst (IsOperand a) (sym is) (inl refl)) in
    let right : c.deref-in-Or-2.result.now ≡ truth_row b n =
    c.deref-in-Or-2.ensures.value ∙ ap (λ v. v.items) c.index-done-b-in-Or.is ∙ c.requires.operands c.in-Or.b c.index-done-b-in-Or.result small.1 (subst (IsOperand b) (sym is) (inr refl)) in
    subst (λ (row : List Bool). IfOk c.disjunction.result (λ values. values.items ≡ row)) ((λ i. map (λ p. p.0 || p.1) (zip (left i) (right i))) ∙ disj_row a b n ∙ ap (λ a. truth_row a n) (sym is)) c.disjunction.ensures

pub returns-in-Imp-clause-right : goal.returns-in-Imp-clause-right
returns-in-Imp-clause-right c =
    let ts = c.args.pool.now.now in
    let n = c.args.self.now.heights in
    let a = tree_at ts c.in-Imp.a in
    let b = tree_at ts c.in-Imp.b in
    let is : tree_at ts c.args.at ≡ impl a b = sym c.node.ensures.tree ∙ ap (tree_of_node ts) c.in-Imp.is in
    let small = subst (AreChildrenBelow c.args.at.0) c.in-Imp.is c.node.ensures.below in
    let left : c.deref-in-Imp.result.now ≡ truth_row a n =
    c.deref-in-Imp.ensures.value ∙ ap (λ v. v.items) c.index-done-a-in-Imp.is ∙ c.requires.operands c.in-Imp.a c.index-done-a-in-Imp.result small.0 (subst (IsOperand a) (sym is) (inl refl)) in
    let right : c.deref-in-Imp-2.result.now ≡ truth_row b n =
    c.deref-in-Imp-2.ensures.value ∙ ap (λ v. v.items) c.index-done-b-in-Imp.is ∙ c.requires.operands c.in-Imp.b c.index-done-b-in-Imp.result small.1 (subst (IsOperand b) (sym is) (inr refl)) in
    subst (λ (row : List Bool). IfOk c.implication.result (λ values. values.items ≡ row)) ((λ i. map (λ p. not p.0 || p.1) (zip (left i) (right i))) ∙ impl_row a b n ∙ ap (λ a. truth_row a n) (sym is)) c.implication.ensures

pub returns-in-Iff-clause-right : goal.returns-in-Iff-clause-right
returns-in-Iff-clause-right c =
    let ts = c.args.pool.now.now in
    let n = c.args.self.now.heights in
    let a = tree_at ts c.in-Iff.a in
    let b = tree_at ts c.in-Iff.b in
    let is : tree_at ts c.args.at ≡ equi a b = sym c.node.ensures.tree ∙ ap (tree_of_node ts) c.in-Iff.is in
    let small = subst (AreChildrenBelow c.args.at.0) c.in-Iff.is c.node.ensures.below in
    let left : c.deref-in-Iff.result.now ≡ truth_row a n =
    c.deref-in-Iff.ensures.value ∙ ap (λ v. v.items) c.index-done-a-in-Iff.is ∙ c.requires.operands c.in-Iff.a c.index-done-a-in-Iff.result small.0 (subst (IsOperand a) (sym is) (inl refl)) in
    let right : c.deref-in-Iff-2.result.now ≡ truth_row b n =
    c.deref-in-Iff-2.ensures.value ∙ ap (λ v. v.items) c.index-done-b-in-Iff.is ∙ c.requires.operands c.in-Iff.b c.index-done-b-in-Iff.result small.1 (subst (IsOperand b) (sym is) (inr refl)) in
    subst (λ (row : List Bool). IfOk c.equivalence.result (λ values. values.items ≡ row)) ((λ i. map (λ p. beq p.0 p.1) (zip (left i) (right i))) ∙ equi_row a b n ∙ ap (λ a. truth_row a n) (sym is)) c.equivalence.ensures

pub returns-in-Nec-clause-right : goal.returns-in-Nec-clause-right
returns-in-Nec-clause-right c =
    let ts = c.args.pool.now.now in
    let n = c.args.self.now.heights in
    let a = tree_at ts c.in-Nec.a in
    let is : tree_at ts c.args.at ≡ nec a = sym c.node.ensures.tree ∙ ap (tree_of_node ts) c.in-Nec.is in
    let small = subst (AreChildrenBelow c.args.at.0) c.in-Nec.is c.node.ensures.below in
    let own : c.deref-in-Nec.result.now ≡ truth_row a n =
    c.deref-in-Nec.ensures.value ∙ ap (λ v. v.items) c.index-done-a-in-Nec.is ∙ c.requires.operands c.in-Nec.a c.index-done-a-in-Nec.result small (subst (IsOperand a) (sym is) refl) in
    subst (λ (row : List Bool). IfOk c.all_before.result (λ values. values.items ≡ row)) (ap (all_before) own ∙ nec_row a n ∙ ap (λ a. truth_row a n) (sym is)) c.all_before.ensures

pub returns-in-Poss-clause-right : goal.returns-in-Poss-clause-right
returns-in-Poss-clause-right c =
    let ts = c.args.pool.now.now in
    let n = c.args.self.now.heights in
    let a = tree_at ts c.in-Poss.a in
    let is : tree_at ts c.args.at ≡ poss a = sym c.node.ensures.tree ∙ ap (tree_of_node ts) c.in-Poss.is in
    let small = subst (AreChildrenBelow c.args.at.0) c.in-Poss.is c.node.ensures.below in
    let own : c.deref-in-Poss.result.now ≡ truth_row a n =
    c.deref-in-Poss.ensures.value ∙ ap (λ v. v.items) c.index-done-a-in-Poss.is ∙ c.requires.operands c.in-Poss.a c.index-done-a-in-Poss.result small (subst (IsOperand a) (sym is) refl) in
    subst (λ (row : List Bool). IfOk c.some_before.result (λ values. values.items ≡ row)) (ap (some_before) own ∙ poss_row a n ∙ ap (λ a. truth_row a n) (sym is)) c.some_before.ensures
