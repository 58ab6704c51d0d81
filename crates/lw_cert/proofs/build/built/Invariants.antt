use Rattle.std.proofs.Common.{◌≡◌, [], reverse, map, vec_len}
use Rattle.lw_cert.specs.Private.StageViews.{grown, ruled}
use Rattle.lw_cert.proofs.build.built.Given as goal

abbrev pub invariant-loop-step : goal.invariant-loop-step
invariant-loop-step l = grown (map ruled l.steps.items) (reverse l.proofs.items) ≡ grown (map ruled l.fn.steps.items) []

abbrev pub decreases-loop-step : goal.decreases-loop-step
decreases-loop-step l = vec_len l.steps
