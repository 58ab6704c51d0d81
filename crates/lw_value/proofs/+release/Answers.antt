use Rattle.std.proofs.Common.{rules, arith}
use Rattle.lw_value.proofs.LoadsJoined.{load_append, load_last, most_le-load}
use Rattle.lw_value.proofs.+release.Goals as goal

-- src/value.rt:73:13
pub value::Items::drop-take_apart-requires : goal.value::Items::drop-take_apart-requires
value::Items::drop-take_apart-requires t c = Prim.grind (rules, arith, load_last c.pop.new.self.items c.in-Some-pop.value)

-- src/value.rt:72:9
pub value::Items::drop-loop-value-smaller : goal.value::Items::drop-loop-value-smaller
value::Items::drop-loop-value-smaller t c = Prim.grind (rules, arith, load_last c.pop.new.self.items c.in-Some-pop.value)

-- src/value.rt:72:9
pub value::Items::drop-loop-value-preserved : goal.value::Items::drop-loop-value-preserved
value::Items::drop-loop-value-preserved t c = Prim.grind (rules, arith, load_last c.pop.new.self.items c.in-Some-pop.value)

-- src/value/list.rt:117:21
pub value::list::take_apart-drop-inner-requires : goal.value::list::take_apart-drop-inner-requires
value::list::take_apart-drop-inner-requires t c κs = Prim.grind (rules, arith, most_le-load c.append.new.other.items)

-- src/value/list.rt:115:1
pub value::list::take_apart-returns-in-Some : goal.value::list::take_apart-returns-in-Some
value::list::take_apart-returns-in-Some t c = Prim.grind (rules, arith, load_append c.args.left.now.items c.in-Some.inner.items)
