use Rattle.std.proofs.Common.{refl, arith}
use Rattle.std.proofs.lemmas.Bool.Decides.{nat_tests}
use Rattle.lw_ast.specs.ScriptViews.{expression}
use Rattle.lw_ast.specs.Private.ReaderViews.{lexeme, frames, setting_of}
use Rattle.lw_ast.proofs.StrayTokens.{leave_all_within, leave_all_stray}
use Rattle.lw_ast.proofs.onward.left.Goals as goal

pub returns-then-not-is_empty-clause-fault : goal.returns-then-not-is_empty-clause-fault
returns-then-not-is_empty-clause-fault c = λ line bytes.
    let some = c.is_empty.ensures in
    let here = c.if-not-is_empty.true in
    (leave_all_within (lexeme c.args.part line bytes) (expression c.args.operand) c.args.stack.items (setting_of c.args.setting) (grind (arith, nat_tests)), refl)

pub returns-in_default : goal.returns-in_default
returns-in_default c = record {
  ok = tt;
  fault = λ line bytes. (
    leave_all_stray c.args.part line bytes (expression c.args.operand) (frames c.args.stack.items) (setting_of c.args.setting)
        c.in_default.not-Semicolon c.in_default.not-Then c.in_default.not-To c.in_default.not-Do,
    refl,
  );
}
