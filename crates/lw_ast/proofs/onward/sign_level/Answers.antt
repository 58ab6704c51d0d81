use Rattle.lw_ast.proofs.StrayTokens.{sign_level_none}
use Rattle.lw_ast.proofs.onward.sign_level.Goals as goal

pub returns-in_default : goal.returns-in_default
returns-in_default c = λ line bytes. sign_level_none c.args.part line bytes c.in_default.not-Between c.in_default.not-Compare c.in_default.not-Chained
