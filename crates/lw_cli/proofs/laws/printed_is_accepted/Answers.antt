use Rattle.lw_cli.proofs.PrintedCertificates.{printed_is_accepted}
use Rattle.lw_cli.proofs.laws.printed_is_accepted.Goals as goal

pub returns : goal.returns
returns c = printed_is_accepted c.truth_depends_on_variables.ensures c.first_break_is_exact.ensures c.one_answer.ensures c.one_certificate.ensures
