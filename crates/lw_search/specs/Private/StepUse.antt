-- What a step keeps of each item of a label, and what a Step uses of the label.
use Rattle.std.specs.Prelude.{◌≡◌, ℕ, Bool, ◌&&◌, ◌||◌, nat_eq, if◌then◌else◌}
use Rattle.lw_proof.specs.System.{Set}
use Rattle.lw_proof.specs.declared.rule.Rule.{Rule}
use Rattle.lw_proof.specs.Derivation.{added, is_nu, kept}
use Rattle.lw_closure.specs.Table.{Table, entry_at, item_count}
use Rattle.lw_closure.specs.Items.{any_below, items}
use Rattle.lw_sat.specs.declared.board.Board.{Board}
use Rattle.lw_sat.specs.SeedPath.{spot_of, Becomes}
use Rattle.lw_sat.specs.Sets.{top, without}
use Rattle.lw_search.specs.Ranked.{StepsTo}

-- what a step keeps of the item, where a label has it: what it keeps of the set of the item alone
abbrev pub kept_of : Table → ℕ → Set ℕ
kept_of t item = kept (items t) t.logic (nat_eq item)

-- whether the sets have an item of the table in common
abbrev pub meets : Table → Set ℕ → Set ℕ → Bool
meets t X Y = any_below (λ i. X i && Y i) (item_count t)

-- what of the label X a step on the item sends into W: the item, and each item of which the step keeps something that W has
abbrev pub sent : Table → Set ℕ → ℕ → Set ℕ → Set ℕ
sent t X item W i = nat_eq item i || (X i && meets t (kept_of t i) W)

-- the rule of a step on the item: a Step on a π, or a Serial on a ν
abbrev pub step_rule : Table → ℕ → Rule
step_rule t item = if is_nu (entry_at t item).parts then Rule.Serial else Rule.Step

-- what a step on `item` with the component c uses of the label X, where the proof above it uses U: what it sends into that, but for what it
-- adds there
abbrev pub used_step : Table → Set ℕ → ℕ → ℕ → Set ℕ → Set ℕ
used_step t X item c U = sent t X item (without (added (items t) t.logic item c) U)

-- the label has lost what the step on `item` adds
abbrev pub LosesAdded : Table → ℕ → Board → Board → Type 0
LosesAdded t item old new =
    (c : ℕ) → StepsTo t item c → Becomes old new (record (spot_of old) { set = without (added (items t) t.logic item c) (top old.labels) })

-- of the label is left what the step on the item sends into W
abbrev pub LeavesSent : Table → ℕ → Set ℕ → Board → Board → Type 0
LeavesSent t item W old new = Becomes old new (record (spot_of old) { set = sent t (top old.labels) item W })

-- of the label is left what a step on `item` uses, where the proof above it uses U
abbrev pub LeavesUsed : Table → ℕ → Set ℕ → Board → Board → Type 0
LeavesUsed t item U old new =
    (c : ℕ) → StepsTo t item c → Becomes old new (record (spot_of old) { set = used_step t (top old.labels) item c U })
