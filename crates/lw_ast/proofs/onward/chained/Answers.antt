use Rattle.std.proofs.Common.{◌≡◌, ◌∷◌, false, refl, subst}
use Rattle.std.proofs.lemmas.Result.{IfErr-weaker}
use Rattle.lw_ast.specs.ScriptLexemes.{ScriptLexeme, Chained, is_long}
use Rattle.lw_ast.specs.ScriptViews.{expression, operands}
use Rattle.lw_ast.specs.Private.ScriptMachine.{Linked, Need, where_fits, is_chained, chain}
use Rattle.lw_ast.specs.Private.ReaderViews.{frames, setting_of, IsRefused}
use Rattle.lw_ast.proofs.StrayTokens.{chain_begins}
use Rattle.lw_ast.proofs.onward.chained.Goals as goal

pub returns-then-not-is_chained-clause-fault : goal.returns-then-not-is_chained-clause-fault
returns-then-not-is_chained-clause-fault c =
    let k = c.args.series in
    let sign = c.args.sign in
    let a = expression c.args.operand in
    let fs = frames c.args.stack.items in
    let p = setting_of c.args.setting in
    let slice = c.as_slice.ensures.value in
    let test = c.is_chained.ensures in
    let none = c.if-not-is_chained.true in
    let fresh : is_chained k fs ≡ false = cc in
    let begins = chain_begins k sign a fs p fresh in
    let level = c.series_level.ensures in
    let terms = c.new.ensures in
    let is : where_fits c.series_level.result fs (Need (Linked k a (operands c.new.result) sign ∷ fs) p) ≡ chain k sign a fs p = cc in
    let known = where_fits c.series_level.result fs (Need (Linked k a (operands c.new.result) sign ∷ fs) p) in
    IfErr-weaker c.fitted.result (λ fault. (t : ScriptLexeme) → is_long t ≡ false → IsRefused t known c.args.token fault)
    (λ fault. IsRefused (Chained k sign) (chain k sign a fs p) c.args.token fault)
    (λ fault told. subst (λ s. IsRefused (Chained k sign) s c.args.token fault) is (told (Chained k sign) refl))
    c.fitted.ensures.fault
