use Rattle.std.proofs.Common.{◌∙◌, sym}
use Rattle.lw_cert.proofs.WordReaders.{match-none, match-some}
use Rattle.lw_cert.proofs.RowReading.{prefix-is, row-unbegun, row-unseen, row-end}
use Rattle.lw_cert.proofs.row.read_row.Goals as goal

pub returns-in_default : goal.returns-in_default
returns-in_default c =
    row-unbegun c.args.model.now.worlds c.args.world c.args.line.now
    (λ rest e. c.in_default.ensures rest (e ∙ sym (prefix-is c.args.world c.as_bytes.result.now rest (c.as_bytes.ensures.value ∙ c.in_ok-begins.ensures.ok))))

pub returns-in_default-2 : goal.returns-in_default-2
returns-in_default-2 c =
    row-unseen c.args.model.now.worlds c.args.world c.args.line.now c.in-Some.rest.now
    (c.in-Some.ensures ∙ prefix-is c.args.world c.as_bytes.result.now c.in-Some.rest.now (c.as_bytes.ensures.value ∙ c.in_ok-begins.ensures.ok))
    (match-none _ _ _ c.in_ok-names.ensures c.in_default-2.is)

pub returns : goal.returns
returns c =
    row-end c.in_ok-found.found c.args.world c.args.line.now c.in-Some.rest.now c.in-Some-2.names.now c.args.model.now c.read_seen.new.model c.read_names.new.model
    (c.in-Some.ensures ∙ prefix-is c.args.world c.as_bytes.result.now c.in-Some.rest.now (c.as_bytes.ensures.value ∙ c.in_ok-begins.ensures.ok))
    (match-some _ _ _ _ c.in_ok-names.ensures c.in-Some-2.is)
    c.in_ok-found.ensures
