use Rattle.lw_cases.proofs.verdicts.verdict_in.Goals as goal

pub verdict_on-requires : goal.verdict_on-requires
verdict_on-requires c = (c.in_ok-certificate.ensures.certificate.sheet, c.in_ok-certificate.ensures.certificate.says)
