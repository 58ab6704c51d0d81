use Rattle.std.proofs.Common.{◌≡◌, ℕ, ◌<◌, true}
use Rattle.lw_sat.specs.Sets.{top}
use Rattle.lw_search.specs.Private.StepAskers.{goes_before}
use Rattle.lw_search.proofs.tableau.Tableau.others_ask.Given as goal

abbrev pub invariant-loop-other : goal.invariant-loop-other
invariant-loop-other g l = (i : ℕ) → i < l.other → top l.label.labels i ≡ true → goes_before l.self l.item i ≡ true → ⊥
