use Rattle.std.proofs.Common.{subst, sym, ◌∙◌}
use Rattle.std.proofs.lemmas.Result.{IfOk-weaker}
use Rattle.lw_pool.specs.Region.{AreMarks}
use Rattle.lw_pool.proofs.MarkedIds.{collected_from}
use Rattle.lw_pool.proofs.pool.Pool.subformulas.Goals as goal

pub returns-clause-ids : goal.returns-clause-ids
returns-clause-ids c =
    let m : AreMarks c.args.self.now c.args.id c.deref.result.now = subst (AreMarks c.args.self.now c.args.id) (sym c.deref.ensures.value) c.in_ok-marks.ensures in
    IfOk-weaker c.marked.result _ _
    (λ ids e. (collected_from c.args.self.now c.args.id c.deref.result.now ids.items c.requires c.allocator.ensures.ids c.allocator.ensures.operands m e).0)
    c.marked.ensures

pub returns-clause-count : goal.returns-clause-count
returns-clause-count c =
    let m : AreMarks c.args.self.now c.args.id c.deref.result.now = subst (AreMarks c.args.self.now c.args.id) (sym c.deref.ensures.value) c.in_ok-marks.ensures in
    IfOk-weaker c.marked.result _ _
    (λ ids e. ids.ok.0 ∙ (collected_from c.args.self.now c.args.id c.deref.result.now ids.items c.requires c.allocator.ensures.ids c.allocator.ensures.operands m e).1)
    c.marked.ensures
