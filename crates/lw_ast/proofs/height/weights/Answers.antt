use Rattle.std.proofs.Common.{◌^◌, ◌-◌, min, sum_by, sym, ◌∙◌, ap}
use Rattle.std.proofs.lemmas.List.{take_all}
use Rattle.lw_ast.specs.Private.ScriptMachine.{weight}
use Rattle.lw_ast.specs.Private.ReaderViews.{frame}
use Rattle.lw_ast.proofs.StackWeights.{frames-weight}
use Rattle.lw_ast.proofs.height.weights.Goals as goal

pub returns : goal.returns
returns c =
    let stack = c.args.stack.now in
    let loop = c.loop-construct in
    loop.invariant
    ∙ ap (λ us. min (sum_by (λ u. weight (frame u)) us) (2 ^ 64 - 1)) (take_all loop.construct-index stack c.loop-construct-test.false)
    ∙ ap (λ total. min total (2 ^ 64 - 1)) (sym (frames-weight stack))
