use Rattle.std.proofs.Common.{◌<◌, ◌≤◌, arith}
use Rattle.lw_cert.proofs.WordReaders.{match-true, match-false}
use Rattle.lw_cert.proofs.LastLines.{leads-row, blocks-row}
use Rattle.lw_cert.proofs.next.listing.Goals as goal

pub returns-then-next-worlds : goal.returns-then-next-worlds
returns-then-next-worlds c = λ ts.
    let high : c.args.table.model.worlds ≤ c.args.table.next = omega (arith, c.worlds.ensures.worlds) in
    c.listed.ensures ts c.args.table.next high

pub returns-then-found : goal.returns-then-found
returns-then-found c = λ ts.
    let low : c.args.table.next < c.args.table.model.worlds = omega (arith, c.worlds.ensures.worlds) in
    leads-row ts c.args.line.now c.args.head c.args.table.model c.read_row.new.model c.args.table.refuted c.args.table.next low (match-true _ _ _ c.in_ok-found.ensures c.if-found.true)

pub returns-else-found : goal.returns-else-found
returns-else-found c = λ ts ls told.
    let low : c.args.table.next < c.args.table.model.worlds = omega (arith, c.worlds.ensures.worlds) in
    blocks-row c.args.line.now c.args.table.model.worlds c.args.table.next low (match-false _ _ _ c.in_ok-found.ensures c.if-found.false)
