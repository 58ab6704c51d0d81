use Rattle.std.proofs.Common.{reverse, ◌∙◌}
use Rattle.lw_cert.proofs.PreOrder.{grown-pop}
use Rattle.lw_cert.proofs.build.built.Goals as goal

pub loop-step-preserved : goal.loop-step-preserved
loop-step-preserved c =
    grown-pop c.loop-step.steps.items c.pop.new.self.items c.in-Some.step (reverse c.loop-step.proofs.items) (reverse c.put.new.proofs.items) c.in-Some.ensures.items c.in_ok-put.ensures
    ∙ c.loop-step.invariant
