use Rattle.std.proofs.Common.{refl, sym, subst, IsTrue}
use Rattle.lw_value.proofs.LikeValues.{heads-needed, pairs-kept, pairs-lighter}
use Rattle.lw_value.proofs.equality.are_alike.Goals as goal

pub returns-then-not-have_like_heads : goal.returns-then-not-have_like_heads
returns-then-not-have_like_heads c = (
  (λ f. absurd cc),
  (λ alike. let head = heads-needed c.loop-left.pairs.items c.pop.new.self.items (c.in-Some.left, c.in-Some.right) c.in-Some.ensures.items (c.loop-left.invariant.1 alike) in
      subst IsTrue c.if-not-have_like_heads.true (c.have_like_heads.ensures.1 head)),
)

pub loop-left-smaller : goal.loop-left-smaller
loop-left-smaller c = pairs-lighter c.loop-left.pairs.items c.pop.new.self.items (c.in-Some.left, c.in-Some.right) c.in-Some.ensures.items c.push_pairs.new.pairs.items c.in_ok-push_pairs.ensures

pub loop-left-preserved : goal.loop-left-preserved
loop-left-preserved c =
    let head = c.have_like_heads.ensures.0 (subst IsTrue (sym c.if-not-have_like_heads.false) refl) in
    let kept = pairs-kept c.loop-left.pairs.items c.pop.new.self.items (c.in-Some.left, c.in-Some.right) c.in-Some.ensures.items c.push_pairs.new.pairs.items c.in_ok-push_pairs.ensures head in
    ((λ h. c.loop-left.invariant.0 (kept.0 h)), (λ h. kept.1 (c.loop-left.invariant.1 h)))
