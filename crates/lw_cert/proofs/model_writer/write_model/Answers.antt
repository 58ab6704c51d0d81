use Rattle.lw_cert.proofs.WorldRows.{model-written}
use Rattle.lw_cert.proofs.LineBytes.{writes-counts, writes-ending}
use Rattle.lw_cert.proofs.model_writer.write_model.Goals as goal

pub returns : goal.returns
returns c =
    let n = c.worlds-worlds.result in
    model-written c.args.model.now c.args.world n c.args.out.now.items c.write_counted-2.new.out.items c.write_rows.new.out.items c.extend_from_slice-2.new.self.items
    c.worlds-worlds.ensures.worlds c.worlds-worlds.ensures.well_formed
    (writes-counts n c.args.world c.args.out.now.items c.extend_from_slice.new.self.items c.write_counted.new.out.items c.write_counted-2.new.out.items
    c.in_ok-extend_from_slice.ensures.items c.in_ok-write_counted.ensures c.in_ok-write_counted-2.ensures)
    c.in_ok-write_rows.ensures
    (writes-ending c.write_rows.new.out.items c.extend_from_slice-2.new.self.items c.in_ok-extend_from_slice-2.ensures.items)
