-- The sets that the steps of a proof close are counted in one way.
use Rattle.std.proofs.Common.{sym, ◌∙◌}
use Rattle.lw_pool.proofs.EqualLengths.{length-same_members}
use Rattle.lw_share.specs.Laws.{OneSetCount}

pub one_count : OneSetCount
one_count logic goal proof m n one other =
    sym one.2
    ∙ length-same_members one.0 other.0 one.1.distinct other.1.distinct
    (λ X h. (other.1.same X).0 ((one.1.same X).1 h)) (λ X h. (one.1.same X).0 ((other.1.same X).1 h))
    ∙ other.2
