-- Which items of a label ask for a step: a π, or in the serial logic, where the label has none, its first ν.
use Rattle.std.specs.Prelude.{ℕ, Bool, ◌&&◌, ◌||◌, nat_lt, not}
use Rattle.lw_proof.specs.System.{Set}
use Rattle.lw_proof.specs.Derivation.{has_serial, is_nu, is_pi}
use Rattle.lw_closure.specs.Table.{Table, entry_at, item_count}
use Rattle.lw_closure.specs.Items.{any_below}
use Rattle.lw_search.specs.Step.{is_asker}

-- whether the item `other` asks in place of the ν `item`: it is a π, or a ν with a smaller number
abbrev pub goes_before : Table → ℕ → ℕ → Bool
goes_before t item other = is_pi (entry_at t other).parts || (is_nu (entry_at t other).parts && nat_lt other item)

-- whether the label has an item that asks in place of the ν
abbrev pub others_ask : Table → Set ℕ → ℕ → Bool
others_ask t X item = any_below (λ i. X i && goes_before t item i) (item_count t)

-- whether the item is a ν that may ask for a step, where the label has it: the logic is serial, and nothing asks in its place
abbrev pub asks_alone : Table → Set ℕ → ℕ → Bool
asks_alone t X i = has_serial t.logic && (is_nu (entry_at t i).parts && not (others_ask t X i))

-- whether the label may ask for a step on the item
abbrev pub may_ask : Table → Set ℕ → ℕ → Bool
may_ask t X i = X i && (is_asker t i || asks_alone t X i)
