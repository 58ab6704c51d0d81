-- Why a search in Grz ends: a step goes to a label with a guard more.
use Rattle.std.specs.Prelude.{ℕ, Bool, false, not, ◌&&◌, nat_le, Option, Some, None}
use Rattle.lw_proof.specs.System.{Set}
use Rattle.lw_proof.specs.Derivation.{is_pi}
use Rattle.lw_closure.specs.Table.{Table, entry_at, item_count}
use Rattle.lw_closure.specs.Items.{any_below}
use Rattle.lw_search.specs.Ranked.{Ranking}
use Rattle.lw_search.specs.Step.{count_below, is_asker}

-- whether there is one and the set has it
abbrev pub is_in : Set ℕ → Option ℕ → Bool
is_in X None = false
is_in X (Some g) = X g

-- whether the item is a π with a guard that the label lacks
abbrev pub lacks_guard : Table → Set ℕ → ℕ → Bool
lacks_guard t X i = is_asker t i && not (is_in X (entry_at t i).guard)

-- how many such π there are in the closure
abbrev pub guards_lacked : Table → Set ℕ → ℕ
guards_lacked t X = count_below (lacks_guard t X) (item_count t)

-- whether each π of the label has a guard. The π of the guards' own formulas, which the closure has too, have none; a search keeps them out
abbrev pub is_guarded : Table → Set ℕ → Bool
is_guarded t X = not (any_below (λ i. X i && (is_pi (entry_at t i).parts && not (is_asker t i))) (item_count t))

-- so many Steps are enough above a label as it lacks guards, where each of its π has one
abbrev pub by_guards : Ranking
by_guards ts t path n X = nat_le (guards_lacked t X) n && is_guarded t X
