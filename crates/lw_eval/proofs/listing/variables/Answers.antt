use Rattle.std.proofs.Common.{◌∙◌, ap}
use Rattle.lw_value.specs.Values.{vals}
use Rattle.lw_eval.specs.Private.Given.{letters_of}
use Rattle.lw_eval.proofs.CallsAnswered.{listed}
use Rattle.lw_eval.proofs.listing.variables.Goals as goal

pub returns-clause-value : goal.returns-clause-value
returns-clause-value c = listed _ c.letters.new.pool c.in_ok-names.names.items _ _ c.in_ok-names.ensures (c.in_ok-letters.ensures.seen ∙ ap (λ names. vals (letters_of names)) c.as_slice.ensures.value) (c.list_of.ensures.value c.letters.new.pool)
