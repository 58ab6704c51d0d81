use Rattle.lw_cert.proofs.WorldRows.{row-written}
use Rattle.lw_cert.proofs.LineBytes.{writes-row}
use Rattle.lw_cert.proofs.model_writer.write_row.Goals as goal

pub returns : goal.returns
returns c =
    row-written c.args.model.now c.args.world c.successors.result.now c.names.result.now c.args.out.now.items c.push.new.self.items c.requires
    c.successors.ensures.exact c.successors.ensures.ordered c.names.ensures.exact c.names.ensures.ordered c.names.ensures.named
    (writes-row c.args.model.now.worlds c.args.world c.successors.result.now c.names.result.now
    c.args.out.now.items c.extend_from_slice.new.self.items c.write_number.new.out.items c.extend_from_slice-2.new.self.items
    c.write_numbers.new.out.items c.extend_from_slice-3.new.self.items c.write_names.new.out.items c.push.new.self.items
    c.in_ok-extend_from_slice.ensures.items c.in_ok-write_number.ensures c.in_ok-extend_from_slice-2.ensures.items
    c.in_ok-write_numbers.ensures c.in_ok-extend_from_slice-3.ensures.items c.in_ok-write_names.ensures c.in_ok-push.ensures.items)
