use Rattle.std.proofs.Common.{◌≡◌, ◌+◌, ◌<◌, ℕ, length, refl, ap, subst, sym, ◌∙◌, arith}
use Rattle.std.specs.List.{remove}
use Rattle.std.proofs.lemmas.List.{get_or_default}
use Rattle.std.proofs.lemmas.List.Edits.{length-remove}
use Rattle.std.proofs.lemmas.List.Elements.{Contains-get_or}
use Rattle.lw_pool.specs.Region.{tree_at}
use Rattle.lw_pool.proofs.RegionGrowth.{Grows-trans}
use Rattle.lw_fix.specs.declared.image.Image.{Image}
use Rattle.lw_fix.specs.Private.Images.{AreImagesLive}
use Rattle.lw_fix.specs.Private.Solved.{AreSolved}
use Rattle.lw_fix.proofs.BoxImages.{rest_of, boxes-taken, left-live}
use Rattle.lw_fix.proofs.SolvedFormulas.{AreSolved-grows, kept-point, kept-more}
use Rattle.lw_fix.proofs.BuiltFixedPoints.{AreBuilt, built-grows, built-live, built-step, image-made, point-made}
use Rattle.lw_fix.proofs.construction.+solve.Goals as goal

-- what is read where nothing stands
abbrev none : Image
none = record { of = record { 0 = 0 }; by = record { 0 = 0 } }

pub returns-in-Some-clause-at : goal.returns-in-Some-clause-at
returns-in-Some-clause-at t c =
    kept-point c.args.pool.now c.put.new.pool c.args.name.now c.args.id c.in_ok-rest.rest c.in-Some.point.now c.args.taken.now c.args.left.now c.args.solved.now.entries
    c.in_ok-rest.ensures.grows c.requires.boxes c.requires.solved c.in_ok-rest.ensures.at (sym c.in-Some.ensures.value)

pub solve-requires : goal.solve-requires
solve-requires t c =
    let l : c.loop-at.at < length c.args.left.now = omega (arith, c.loop-at-test.true, c.loop-at.auto.at-end) in
    let grows = Grows-trans c.args.pool.now c.put.new.pool c.loop-at.pool c.in_ok-rest.ensures.grows c.loop-at.invariant.0 in
    let less : c.deref-in-loop-at.result.now ≡ remove c.args.left.now c.loop-at.at = c.deref-in-loop-at.ensures.value ∙ c.in_ok-fewer.ensures in (
      omega (arith, ap length less, length-remove c.args.left.now c.loop-at.at l, c.decreases),
      (
        omega (arith, c.requires.id, grows.longer),
        (
          boxes-taken c.args.pool.now c.loop-at.pool c.args.name.now c.args.id c.args.taken.now c.args.left.now c.deref.result.now c.deref-in-loop-at.result.now c.loop-at.at none
              grows c.requires.id c.requires.boxes l (c.deref.ensures.value ∙ c.in_ok-more.ensures) less,
          c.loop-at.invariant.1,
        ),
      ),
    )

pub substitute-requires-clause-id : goal.substitute-requires-clause-id
substitute-requires-clause-id t c =
    let l : c.loop-at.at < length c.args.left.now = omega (arith, c.loop-at-test.true, c.loop-at.auto.at-end) in
    let v = left-live c.args.pool.now c.args.name.now (tree_at c.args.pool.now c.args.id) c.args.taken.now c.args.left.now c.loop-at.at none c.requires.boxes l in
    omega (arith, v, c.in_ok-rest.ensures.grows.longer, c.loop-at.invariant.0.longer, c.in_ok-point.ensures.grows.longer)

pub loop-at-preserved : goal.loop-at-preserved
loop-at-preserved t c =
    let l : c.loop-at.at < length c.args.left.now = omega (arith, c.loop-at-test.true, c.loop-at.auto.at-end) in
    let grows = Grows-trans c.args.pool.now c.put.new.pool c.loop-at.pool c.in_ok-rest.ensures.grows c.loop-at.invariant.0 in
    let further = Grows-trans c.loop-at.pool c.solve.new.pool c.substitute.new.self c.in_ok-point.ensures.grows c.in_ok-by.ensures.grows in
    let rest = rest_of c.args.pool.now c.args.taken.now (tree_at c.args.pool.now c.args.id) in
    let made =
    image-made c.args.pool.now c.loop-at.pool c.solve.new.pool c.substitute.new.self c.args.name.now c.args.id c.args.taken.now c.args.left.now c.deref.result.now _ c.in_ok-point.point c.in_ok-by.by
    grows c.in_ok-point.ensures.grows c.in_ok-by.ensures.grows c.requires.id c.requires.boxes (Contains-get_or c.args.left.now c.loop-at.at none l) (c.deref.ensures.value ∙ c.in_ok-more.ensures)
    c.in_ok-point.ensures.at c.in_ok-by.ensures.at in (
      Grows-trans c.put.new.pool c.loop-at.pool c.substitute.new.self c.loop-at.invariant.0 further,
      AreSolved-grows c.solve.new.pool c.substitute.new.self c.args.name.now c.solve.new.solved.entries c.in_ok-by.ensures.grows c.in_ok-point.ensures.solved,
      subst (AreBuilt c.substitute.new.self c.args.name.now rest c.args.taken.now c.args.left.now (c.loop-at.at + 1)) (sym c.in_ok-push.ensures.items)
          (built-step c.substitute.new.self c.args.name.now rest c.args.taken.now c.args.left.now c.loop-at.at c.loop-at.images.items _ _
          (built-grows c.loop-at.pool c.substitute.new.self c.args.name.now rest c.args.taken.now c.args.left.now c.loop-at.at c.loop-at.images.items further c.loop-at.invariant.2)
          made l (get_or_default c.args.left.now c.loop-at.at none _ l) refl),
    )

pub put-requires-2-clause-images : goal.put-requires-2-clause-images
put-requires-2-clause-images t c =
    let grows = Grows-trans c.args.pool.now c.put.new.pool c.loop-at.pool c.in_ok-rest.ensures.grows c.loop-at.invariant.0 in
    subst (AreImagesLive c.loop-at.pool) (sym c.deref-2.ensures.value)
    (built-live c.args.pool.now c.loop-at.pool c.args.name.now (tree_at c.args.pool.now c.args.id) (rest_of c.args.pool.now c.args.taken.now (tree_at c.args.pool.now c.args.id))
    c.args.taken.now c.args.left.now c.loop-at.at c.loop-at.images.items grows c.requires.boxes c.loop-at.invariant.2)

pub returns-clause-at : goal.returns-clause-at
returns-clause-at t c =
    let all : c.loop-at.at ≡ length c.args.left.now = omega (arith, c.loop-at-test.false, c.loop-at.auto.at-end) in
    let grows = Grows-trans c.args.pool.now c.put.new.pool c.loop-at.pool c.in_ok-rest.ensures.grows c.loop-at.invariant.0 in
    let rest = rest_of c.args.pool.now c.args.taken.now (tree_at c.args.pool.now c.args.id) in
    point-made c.args.pool.now c.loop-at.pool c.put-2.new.pool c.args.name.now c.args.id c.args.taken.now c.args.left.now c.deref-2.result.now c.in_ok-point-2.point
    grows c.in_ok-point-2.ensures.grows c.requires.id c.requires.boxes
    (subst (AreBuilt c.loop-at.pool c.args.name.now rest c.args.taken.now c.args.left.now (length c.args.left.now)) (sym c.deref-2.ensures.value)
    (subst (λ (k : ℕ). AreBuilt c.loop-at.pool c.args.name.now rest c.args.taken.now c.args.left.now k c.loop-at.images.items) all c.loop-at.invariant.2))
    c.in_ok-point-2.ensures.at

pub returns-clause-solved : goal.returns-clause-solved
returns-clause-solved t c =
    subst (AreSolved c.put-2.new.pool c.args.name.now) (sym c.in_ok-insert.ensures.entries)
    (kept-more c.args.pool.now c.put.new.pool c.loop-at.pool c.put-2.new.pool c.args.name.now c.args.id c.in_ok-rest.rest c.in_ok-point-2.point c.args.taken.now c.args.left.now c.loop-at.solved.entries
    c.in_ok-rest.ensures.grows c.loop-at.invariant.0 c.in_ok-point-2.ensures.grows c.requires.boxes c.in_ok-rest.ensures.at c.loop-at.invariant.1
    (returns-clause-at t c))
