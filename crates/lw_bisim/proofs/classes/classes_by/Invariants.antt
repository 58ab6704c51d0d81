use Rattle.lw_bisim.proofs.NumberedKeys.{AreNumberedBy}
use Rattle.lw_bisim.proofs.classes.classes_by.Given as goal

abbrev pub invariant-loop-key : goal.invariant-loop-key
invariant-loop-key g l = record { numbered : AreNumberedBy g.K.PartialEq.eq g.met.K.Eq.laws l.yielded l.known.keys l.places.items }
