use Rattle.std.proofs.Common.{◌∙◌, ◌++◌, ◌∷◌, [], ap}
use Rattle.lw_cert.proofs.WordReaders.{same-bytes}
use Rattle.lw_cert.proofs.StageLines.{leads-proof, leads-model}
use Rattle.lw_cert.proofs.next.followed.Goals as goal

pub returns-in_ok-push : goal.returns-in_ok-push
returns-in_ok-push c = λ ts.
    leads-proof ts c.args.line.now c.args.head c.push.new.self c.new.result
    (c.in_ok-push.ensures.items ∙ ap (λ xs. xs ++ 1 ∷ []) c.new-depths.ensures.items) c.new.ensures.items
    (same-bytes _ _ c.if-eq.ensures ∙ c.as_slice.ensures)

pub returns-then-eq-2 : goal.returns-then-eq-2
returns-then-eq-2 c = λ ts. leads-model ts c.args.line.now c.args.head (same-bytes _ _ c.if-eq-2.ensures ∙ c.as_slice-else-eq.ensures)
