use Rattle.std.proofs.Common.{refl}
use Rattle.lw_model.proofs.FrameTests.{some_from_list}
use Rattle.lw_model.proofs.class.sees_any.Goals as goal

pub returns : goal.returns
returns c = some_from_list c.args.model.now c.args.from c.successors.result.now c.is_empty.result _ c.successors.ensures.exact c.is_empty.ensures refl
