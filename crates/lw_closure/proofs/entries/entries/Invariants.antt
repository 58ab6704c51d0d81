use Rattle.std.proofs.Common.{◌≡◌, length}
use Rattle.lw_closure.specs.Private.TableEntries.{AreEntries}
use Rattle.lw_closure.proofs.entries.entries.Given as goal

abbrev pub invariant-loop-item : goal.invariant-loop-item
invariant-loop-item l = record {
  entries : AreEntries l.pool l.forms.keys l.guards l.entries.items;
  count : length l.entries.items ≡ l.item;
}
