use Rattle.std.proofs.Common.{◌∷◌, [], ◌∙◌, ◌++◌, ap, reverse, replicate, sym, add-one}
use Rattle.std.proofs.lemmas.List.{reverse-append}
use Rattle.lw_cert.proofs.next.push_all.Goals as goal

pub loop-preserved : goal.loop-preserved
loop-preserved c =
    ap reverse c.in_ok-push.ensures.items ∙ reverse-append c.loop.depths.items (c.args.depth ∷ []) ∙ ap (λ xs. c.args.depth ∷ xs) c.loop.invariant
    ∙ ap (λ n. replicate n c.args.depth ++ reverse c.args.depths.now.items) (sym (add-one c.loop.counter))
