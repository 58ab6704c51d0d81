use Rattle.lw_value.specs.Views.{value_of}
use Rattle.lw_value.proofs.LikeValues.{equal-as-alike, unequal-weights}
use Rattle.lw_value.proofs.equality.are_equal.Goals as goal

pub returns-then-weight : goal.returns-then-weight
returns-then-weight c = (
  (λ f. absurd cc),
  (λ same. absurd (unequal-weights c.args.pool.now (value_of c.args.left.now) (value_of c.args.right.now) c.weight.result c.weight-2.result _
      c.count.ensures.ids c.requires.left_live c.requires.right_live c.requires.left_comparable c.weight.ensures c.weight-2.ensures c.if-weight.true same)),
)

pub returns : goal.returns
returns c =
    equal-as-alike c.args.pool.now (value_of c.args.left.now) (value_of c.args.right.now)
    c.count.ensures.ids c.requires.left_live c.requires.right_live c.requires.left_comparable c.are_alike.result c.are_alike.ensures
