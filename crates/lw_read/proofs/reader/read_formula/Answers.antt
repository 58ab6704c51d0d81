use Rattle.std.proofs.Common.{sym, subst}
use Rattle.std.proofs.lemmas.Result.{err_from_is_err_and}
use Rattle.lw_read.specs.Grammar.{IsFaultOf}
use Rattle.lw_read.proofs.FirstFaults.{formulas-read, fault-of}
use Rattle.lw_read.proofs.reader.read_formula.Goals as goal

pub read_text-requires-clause-reads : goal.read_text-requires-clause-reads
read_text-requires-clause-reads c = formulas-read

pub returns-in_err-read_text-clause-fault : goal.returns-in_err-read_text-clause-fault
returns-in_err-read_text-clause-fault c =
    let k = err_from_is_err_and c.from_residual.result c.from_residual.ensures.1 in
    let text = c.args.text.now in
    rw k.1 (subst (IsFaultOf text) (sym k.2) (fault-of text c.in_err-read_text.field-0.0 c.in_err-read_text.ensures.fault))
