use Rattle.std.proofs.Common.{◌≡◌, false, Err, sym, subst, ap, refl}
use Rattle.lw_formula.specs.Formula.{letter}
use Rattle.lw_formula.specs.Name.{is_name}
use Rattle.lw_read.specs.Lexemes.{Foreign, other_lexeme}
use Rattle.lw_read.specs.Private.FormulaMachine.{Astray, begin}
use Rattle.lw_read.specs.Private.ReaderViews.{IsShortVariable}
use Rattle.lw_read.proofs.NameTests.{IsShortVariable-name, refused, true_unless}
use Rattle.lw_read.proofs.reader.named.Goals as goal

pub returns-in-Ok-clause-ok : goal.returns-in-Ok-clause-ok
returns-in-Ok-clause-ok c =
    let word = c.args.word.now in
    let is = true_unless (is_name word) (λ e. let other = c.in-Ok.ensures.bad.1 e in cc) in
    subst (λ name. IsShortVariable word (letter name)) (sym c.in-Ok.ensures.ok) (IsShortVariable-name word is)

pub returns-else-is_long_variable-clause-fault : goal.returns-else-is_long_variable-clause-fault
returns-else-is_long_variable-clause-fault c =
    let word = c.args.word.now in
    let other : is_name word ≡ false = c.in-Err-BadName.ensures.bad.0 (ap Err c.in-Err-BadName.field-0-is) in
    let is : other_lexeme word ≡ Foreign = (refused word other).0 (sym c.if-is_long_variable.ensures) in
    λ fs. (subst (λ t. begin t fs ≡ Astray) (sym is) refl, refl)
