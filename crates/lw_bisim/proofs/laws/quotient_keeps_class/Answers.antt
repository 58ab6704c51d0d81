use Rattle.lw_bisim.proofs.QuotientLaws.{class_kept_by_quotient}
use Rattle.lw_bisim.proofs.laws.quotient_keeps_class.Goals as goal

pub returns : goal.returns
returns c = class_kept_by_quotient
