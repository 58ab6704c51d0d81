use Rattle.std.proofs.Common.{◌≡◌, ◌∷◌, map, take}
use Rattle.lw_value.specs.Values.{truth, number}
use Rattle.lw_eval.proofs.tracing.trace_items.Given as goal

-- the truth value, and the heights so far
abbrev pub invariant-loop-height : goal.invariant-loop-height
invariant-loop-height l = l.items ≡ truth l.trace.rest ∷ map number (take l.height-index l.height-items)
