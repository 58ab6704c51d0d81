use Rattle.lw_counter.proofs.BitSquares.{set_bit}
use Rattle.lw_counter.proofs.relation.Relation.add.Goals as goal

pub returns : goal.returns
returns c =
    let from = rw (← c.self.view_is) at c.requires.from in
    let to = rw (← c.self.view_is) at c.requires.to in
    rw (← c.self.view_is) (set_bit (record { count = c.self.inside.count; bits = c.self.inside.bits.items }) c.args.from c.args.to from to c.self.invariant)
