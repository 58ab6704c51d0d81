use Rattle.std.proofs.Common.{◌≤◌, length, arith}
use Rattle.lw_cli.specs.FileLimit.{file_limit}
use Rattle.lw_cli.specs.Checked.{too_long}
use Rattle.lw_cli.proofs.FileFindings.{finding_of_judged, finding_of_refusal}
use Rattle.lw_cli.proofs.check_file.finding_of.Goals as goal

pub returns-then-bytes-gt-FILE_LIMIT : goal.returns-then-bytes-gt-FILE_LIMIT
returns-then-bytes-gt-FILE_LIMIT c = too_long (omega arith)

pub judged-requires : goal.judged-requires
judged-requires c = (c.in-Ok.ensures.certificate.sheet, c.in-Ok.ensures.certificate.says)

pub returns-in-Ok : goal.returns-in-Ok
returns-in-Ok c =
    let short : length c.args.bytes.now ≤ file_limit = omega arith in
    finding_of_judged _ c.in-Ok.certificate c.args.bytes.now c.judged.result short c.in-Ok.ensures.certificate c.judged.ensures

pub returns : goal.returns
returns c =
    let short : length c.args.bytes.now ≤ file_limit = omega arith in
    finding_of_refusal c.args.bytes.now c.refusal.result short (c.refusal.ensures c.args.bytes.now c.in-Err.ensures.fault)
