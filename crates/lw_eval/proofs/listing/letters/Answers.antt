use Rattle.std.proofs.Common.{◌∙◌}
use Rattle.lw_pool.proofs.RegionGrowth.{Grows-trans}
use Rattle.lw_value.specs.Values.{vals, seen_all, formula}
use Rattle.lw_value.proofs.GrowingPools.{items_seen_grow, items_live_grow}
use Rattle.lw_eval.specs.Private.Given.{letters_of}
use Rattle.std.proofs.Common.{drop, ◌+◌}
use Rattle.lw_eval.proofs.EvaluationsRepeated.{pushed_live}
use Rattle.lw_eval.proofs.ItemsSeen.{next_letter, left_letters, all_letters}
use Rattle.lw_eval.proofs.listing.letters.Goals as goal

pub loop-name-preserved : goal.loop-name-preserved
loop-name-preserved c = record {
  live = pushed_live c.make.new.self c.loop-name.letters c.push.new.self (formula c.in_ok-letter.letter) c.in_ok-push.ensures.pushed
      (items_live_grow c.loop-name.pool c.make.new.self (vals c.loop-name.letters) c.in_ok-letter.ensures.grows c.loop-name.invariant.live) c.in_ok-letter.ensures.at.0;
  grows = Grows-trans _ _ _ c.loop-name.invariant.grows c.in_ok-letter.ensures.grows;
  seen = next_letter c.loop-name.pool c.make.new.self c.loop-name.letters c.push.new.self c.in_ok-letter.letter c.in_ok-try_clone.field-0
      (vals (letters_of (drop (c.loop-name.name-index + 1) c.args.names.now))) c.in_ok-push.ensures.pushed
      (items_seen_grow c.loop-name.pool c.make.new.self (vals c.loop-name.letters) c.in_ok-letter.ensures.grows c.loop-name.invariant.live) c.in_ok-letter.ensures.at.1
      ∙ left_letters (seen_all c.loop-name.pool (vals c.loop-name.letters)) c.loop-name.name-index c.args.names.now c.name-item.result c.in_ok-try_clone.field-0
      c.loop-name-test.true (c.in_ok-try_clone.ensures ∙ c.name-item.is)
      ∙ c.loop-name.invariant.seen;
}

pub returns-clause-seen : goal.returns-clause-seen
returns-clause-seen c = all_letters _ _ c.loop-name.name-index c.args.names.now c.loop-name-test.false c.loop-name.invariant.seen
