use Rattle.std.proofs.Common.{◌≡◌, ◌<◌, refl, ◌∙◌, ap, subst, arith}
use Rattle.std.specs.List.{slice_range}
use Rattle.lw_read.specs.Places.{nesting_limit}
use Rattle.lw_ast.specs.ScriptLexemes.{kind_script_lexeme, script_lexeme_of}
use Rattle.lw_ast.specs.Private.ScriptMachine.{step, height}
use Rattle.lw_ast.specs.Private.ReaderViews.{lexeme, state_of, IsStep}
use Rattle.lw_ast.proofs.StackWeights.{afoot}
use Rattle.lw_ast.proofs.reader.ScriptReaderTextReader.take.Goals as goal

pub returns-then-height-clause-fault : goal.returns-then-height-clause-fault
returns-then-height-clause-fault c =
    let text = c.args.text.now in
    let token = c.args.token in
    let bytes = slice_range text token.start token.end in
    let before = state_of c.args.self.progress in
    let next = c.in_ok-progress.progress in
    let t = script_lexeme_of text token in
    let is : lexeme c.part_of-part.result c.line_on-line.result bytes ≡ t =
    c.part_of-part.ensures c.line_on-line.result ∙ ap (λ line. kind_script_lexeme token.kind line bytes) c.line_on-line.ensures in
    let stepped : IsStep t (step t before) next = subst (λ t. IsStep t (step t before) next) is c.in_ok-progress.ensures.ok in
    let counted = c.height-height.ensures in
    let most = c.if-height.true in
    let same = ap height stepped.0 in
    let high : nesting_limit < height (step t before) = omega arith in
    ((λ lost. afoot next (stepped.0 ∙ lost)), stepped.1, high, refl)
