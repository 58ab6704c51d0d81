use Rattle.lw_closure.proofs.IdInsertion.{added}
use Rattle.lw_closure.proofs.numbering.add.Goals as goal

pub returns : goal.returns
returns c = added c.args.forms.now.keys c.insert_full.new.self.keys c.args.form c.in_ok-at.at c.in_ok-at.ensures.keys c.in_ok-at.ensures.within c.in_ok-at.ensures.stored
