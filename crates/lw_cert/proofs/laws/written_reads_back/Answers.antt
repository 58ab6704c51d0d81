use Rattle.lw_cert.proofs.LinesWithinLimits.{within-reads}
use Rattle.lw_cert.proofs.laws.written_reads_back.Goals as goal

pub returns : goal.returns
returns c = within-reads c.reads_back.ensures
