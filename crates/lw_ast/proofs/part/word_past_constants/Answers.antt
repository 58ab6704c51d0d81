use Rattle.std.proofs.Common.{sym, ◌∙◌, ap}
use Rattle.lw_ast.specs.ScriptLexemes.{known, statement_or_name}
use Rattle.lw_ast.specs.Private.ReaderViews.{some_lexeme}
use Rattle.lw_ast.proofs.part.word_past_constants.Goals as goal

pub returns-in-None : goal.returns-in-None
returns-in-None c = λ line.
    let bytes = c.args.word.now in
    let none = sym (ap (λ p. some_lexeme p line bytes) c.in-None.is) ∙ c.operator_part.ensures line in
    c.word_past_operators.ensures line ∙ ap (λ o. known o (statement_or_name line bytes)) none
