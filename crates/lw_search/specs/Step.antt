-- What a step keeps of a label for the world that it leads to.
use Rattle.std.specs.Prelude.{ℕ, Bool, true, false, ◌&&◌, ◌||◌, not, zero, suc, ◌+◌, if◌then◌else◌}
use Rattle.std.specs.Option.{is_some}
use Rattle.lw_formula.specs.declared.logic.Logic.{Logic}
use Rattle.lw_formula.specs.declared.logic.Logic.TheVariants.{K, KT, S4, S5, GL, Grz, K4, KD}
use Rattle.lw_proof.specs.System.{Set}
use Rattle.lw_proof.specs.Derivation.{added, is_pi, kept, plus}
use Rattle.lw_closure.specs.Table.{Table, entry_at, item_count}
use Rattle.lw_closure.specs.Items.{items}
use Rattle.lw_closure.specs.Keeps.{has_guards}

-- the logics in which the ν of a label go along themselves
abbrev pub keeps_nu : Logic → Bool
keeps_nu K = false
keeps_nu KT = false
keeps_nu S4 = true
keeps_nu S5 = true
keeps_nu GL = true
keeps_nu Grz = true
keeps_nu K4 = true
keeps_nu KD = false

-- the logics in which the components of the ν go along
abbrev pub keeps_inside : Logic → Bool
keeps_inside K = true
keeps_inside KT = true
keeps_inside S4 = false
keeps_inside S5 = false
keeps_inside GL = true
keeps_inside Grz = false
keeps_inside K4 = true
keeps_inside KD = true

-- with what the label of a new world begins, where the step on `item` with the component c leads to it from the label X
abbrev pub seed : Table → Set ℕ → ℕ → ℕ → Set ℕ
seed t X item c = plus (items t) (added (items t) t.logic item c) (kept (items t) t.logic X)

-- whether a label may ask for a step on the item because it is a π, in Grz one that has a guard
abbrev pub is_asker : Table → ℕ → Bool
is_asker t i = is_pi (entry_at t i).parts && (not (has_guards t.logic) || is_some (entry_at t i).guard)

-- how many numbers below n pass the test
abbrev pub count_below : (ℕ → Bool) → ℕ → ℕ
count_below test zero = 0
count_below test (suc n) = (if test n then 1 else 0) + count_below test n

abbrev pub askers : Table → ℕ
askers t = count_below (is_asker t) (item_count t)
