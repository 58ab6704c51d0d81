use Rattle.std.proofs.Common.{refl, arith}
use Rattle.lw_closure.proofs.IdInsertion.{numbered_more}
use Rattle.lw_closure.proofs.numbering.numbering.Goals as goal

pub loop-form-preserved : goal.loop-form-preserved
loop-form-preserved c =
    numbered_more c.args.forms.now c.args.forms.now c.loop-form.numbered.keys c.insert.new.self.keys c.loop-form.form-index
    c.requires refl (omega arith) c.loop-form.invariant c.in_ok-insert.ensures.keys
