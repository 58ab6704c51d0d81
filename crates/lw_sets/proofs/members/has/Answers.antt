use Rattle.lw_sets.proofs.SetMembers.{set_of-Contains}
use Rattle.lw_sets.proofs.members.has.Goals as goal

pub returns : goal.returns
returns c = set_of-Contains c.args.pool.now c.count.ensures.ids c.args.item c.requires.item c.args.items.now c.requires.items c.has.result c.has.ensures
