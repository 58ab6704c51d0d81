use Rattle.lw_cases.proofs.tables.table_line.Goals as goal

pub of_certificate-requires : goal.of_certificate-requires
of_certificate-requires c = (c.in_ok-certificate.ensures.certificate.sheet, c.in_ok-certificate.ensures.certificate.says)
