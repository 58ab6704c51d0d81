use Rattle.lw_cli.proofs.PrintingRuns.{certificate_is_printed}
use Rattle.lw_cli.proofs.laws.certificate_is_printed.Goals as goal

pub returns : goal.returns
returns c = certificate_is_printed
