use Rattle.std.proofs.Common.{ap, ◌∙◌, sym, ⊎_elim, inl, inr, ◌≡◌, ◌++◌}
use Rattle.lw_value.specs.Values.{items, vals}
use Rattle.lw_value.specs.Views.{value_of, values_of}
use Rattle.lw_value.specs.Private.Likeness.{pairs_under, pairs_in}
use Rattle.lw_value.proofs.LikeValues.{all-paired}
use Rattle.lw_value.proofs.walk.push_pairs.Goals as goal

pub returns-in-None : goal.returns-in-None
returns-in-None c =
    let old = pairs_under c.args.pairs.now.items in
    let now = pairs_under c.loop-pair.pairs.items in
    let iterator = c.loop-pair.pair-iterator in
    let begun = c.into_iter-pair-iterator.ensures.into_iter_gives in
    let lefts = c.as_slice.result.now in
    let rights = c.as_slice-in-Items-right.result.now in
    let first : c.into_iter-pair-iterator.result.a.rest.now ≡ lefts = ap (λ z. z.a.rest.now) begun ∙ ap (λ a. a.rest.now) c.zip-pair-items.ensures.first ∙ c.iter.ensures.rest in
    let second : c.into_iter-pair-iterator.result.b.rest.now ≡ rights = ap (λ z. z.b.rest.now) begun ∙ c.zip-pair-items.ensures.second.0 in
    all-paired now old iterator.a.rest.now iterator.b.rest.now lefts rights (value_of c.args.left.now) (value_of c.args.right.now)
    (⊎_elim (λ h. inl h.1.0) (λ h. inr h.1.0) c.in-None.ensures.steps)
    (c.loop-pair.invariant ∙ (λ i. old ++ pairs_in (values_of (first i)) (values_of (second i))))
    (ap value_of c.in-Items.is ∙ ap (λ vs. items (vals vs)) (sym c.as_slice.ensures))
    (ap value_of c.in-Items-right.is ∙ ap (λ vs. items (vals vs)) (sym c.as_slice-in-Items-right.ensures))
