use Rattle.lw_read.proofs.LetterNames.{letters-named}
use Rattle.lw_read.proofs.laws.letters_are_names.Goals as goal

pub returns : goal.returns
returns c = letters-named
