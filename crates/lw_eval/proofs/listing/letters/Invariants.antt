use Rattle.std.proofs.Common.{◌≡◌, drop}
use Rattle.lw_pool.specs.Region.{Grows}
use Rattle.lw_value.specs.Values.{vals, seen_all, AreItemsLive}
use Rattle.lw_eval.specs.Private.Given.{letters_of}
use Rattle.lw_eval.specs.Private.Remaining.{followed_by}
use Rattle.lw_eval.proofs.listing.letters.Given as goal

-- the letters so far and those of the names that are left are all
abbrev pub invariant-loop-name : goal.invariant-loop-name
invariant-loop-name l = record {
  live : AreItemsLive l.pool (vals l.letters);
  grows : Grows l.fn.pool l.pool;
  seen : followed_by (seen_all l.pool (vals l.letters)) (vals (letters_of (drop l.name-index l.names))) ≡ vals (letters_of l.names);
}
