use Rattle.std.proofs.Common.{sym, ◌∙◌, ap}
use Rattle.lw_ast.specs.ScriptLexemes.{known, value_symbol, other_symbol}
use Rattle.lw_ast.specs.Private.ReaderViews.{some_lexeme}
use Rattle.lw_ast.proofs.part.symbol_part.Goals as goal

pub returns-in-None : goal.returns-in-None
returns-in-None c = λ line.
    let bytes = c.args.symbol.now in
    let none = sym (ap (λ p. some_lexeme p line bytes) c.in-None.is) ∙ c.formula_part.ensures line in
    c.symbol_past_formulas.ensures line ∙ ap (λ o. known o (known (value_symbol bytes) (other_symbol bytes))) none
