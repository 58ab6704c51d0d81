use Rattle.std.proofs.Common.{sym, ◌∙◌, ap}
use Rattle.lw_ast.specs.ScriptLexemes.{known, other_symbol}
use Rattle.lw_ast.specs.Private.ReaderViews.{some_lexeme}
use Rattle.lw_ast.proofs.part.symbol_past_formulas.Goals as goal

pub returns-in-None : goal.returns-in-None
returns-in-None c = λ line.
    let bytes = c.args.symbol.now in
    let none = sym (ap (λ p. some_lexeme p line bytes) c.in-None.is) ∙ c.value_part.ensures line in
    c.other_part.ensures line ∙ ap (λ o. known o (other_symbol bytes)) none
