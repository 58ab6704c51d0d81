use Rattle.std.proofs.Common.{take}
use Rattle.lw_share.specs.Private.PremiseLists.{HaveOneSet, AreAsLive}
use Rattle.lw_share.proofs.sets.collected.Given as goal

abbrev pub invariant-loop-item : goal.invariant-loop-item
invariant-loop-item l = record {
  set : HaveOneSet (take l.item-index l.items) l.set;
  live : AreAsLive l.items l.set;
}
