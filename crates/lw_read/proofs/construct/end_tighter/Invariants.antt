use Rattle.std.proofs.Common.{◌≡◌, vec_len}
use Rattle.lw_read.specs.Constructs.{ended, frames_of}
use Rattle.lw_read.proofs.construct.end_tighter.Given as goal

abbrev pub invariant-tighter : goal.invariant-tighter
invariant-tighter g l =
    let C = g.C.Construct.constructs in
    ended C l.level (g.C.Construct.parsed l.operand) (frames_of g.C.Construct.frame l.stack.items)
    ≡ ended C l.level (g.C.Construct.parsed l.initial.operand) (frames_of g.C.Construct.frame l.initial.stack.items)

abbrev pub decreases-tighter : goal.decreases-tighter
decreases-tighter g l = vec_len l.stack
