-- What the calls of a search come to.
use Rattle.std.specs.Prelude.{◌≡◌, ℕ, ◌+◌, ◌<◌, ◌≤◌, Bool, true, false, IsTrue, Option, Some, None, length}
use Rattle.lw_formula.specs.declared.parts.Parts.TheVariants.{Nu, Pi}
use Rattle.lw_pool.specs.declared.id.SignedId.{SignedId}
use Rattle.lw_proof.specs.Derivation.{has_refl, has_serial, is_nu}
use Rattle.lw_proof.specs.Lean.{steps}
use Rattle.lw_proof.specs.System.{Set}
use Rattle.lw_proof.specs.Tree.{Tree}
use Rattle.lw_closure.specs.Table.{Table, entry_at, item_count}
use Rattle.lw_closure.specs.Unclosed.{IsUnclosedLabel}
use Rattle.lw_counter.specs.Fragment.{Fragment, items_of}
use Rattle.lw_counter.specs.Open.{HasWitness}
use Rattle.lw_sat.specs.declared.board.Board.{Board}
use Rattle.lw_sat.specs.Closing.{Closes}
use Rattle.lw_sat.specs.SeedPath.{root, room_below, spot_of, most_steps, IsClosedAt, IsWide}
use Rattle.lw_sat.specs.Saturated.{room, IsAt}
use Rattle.lw_search.specs.declared.level.Level.{Level}
use Rattle.lw_search.specs.declared.level.Search.{Search}
use Rattle.lw_search.specs.declared.level.Served.{Served}
use Rattle.lw_search.specs.declared.level.Served.TheVariants as served
use Rattle.lw_search.specs.declared.level.Turn.{Turn}
use Rattle.lw_search.specs.declared.level.Turn.TheVariants as turn
use Rattle.lw_search.specs.Explored.{IsExplored}
use Rattle.lw_search.specs.Private.SearchLevels.{Aim, Guides, Place, Waits, IsFallen, IsServing, IsUnderWork, fallen_room, label, serving_room, work_room}
use Rattle.lw_search.specs.Private.StepAskers.{asks_alone, others_ask}
use Rattle.lw_search.specs.Ranked.{IsServedBy, StepsTo}

-- the label asks for a step on `item`, or for a link, with the component c: it has the item, where worlds see themselves not the component of a π,
-- and a ν asks alone
pub record IsAsked (t : Table) (X : Set ℕ) (item c : ℕ) : Type 0 where
  pub there : IsTrue (X item)
  pub steps : StepsTo t item c
  pub alone : IsTrue (has_refl t.logic) → ¬ IsTrue (X c)
  pub first : (entry_at t item).parts ≡ Nu c → IsTrue (asks_alone t X item)

-- the item asks for nothing: the label serves it itself, if it is a π that it has, and another item asks in its place, if it is a ν of the serial logic
pub record ServesItself (t : Table) (X : Set ℕ) (item : ℕ) : Type 0 where
  pub pi : (c : ℕ) → IsTrue (X item) → (entry_at t item).parts ≡ Pi c → IsTrue (has_refl t.logic) × IsTrue (X c)
  pub nu : IsTrue (has_serial t.logic) → IsTrue (X item) → IsTrue (is_nu (entry_at t item).parts) → IsTrue (others_ask t X item)

-- no link to a world of the fragment serves a π with the component c of the label
abbrev pub IsFar : Table → Set ℕ → Fragment → ℕ → Type 0
IsFar t X f c = (w : ℕ) → w < length f.worlds → ¬ IsServedBy t X (items_of f w) c

-- a link to the world w of the fragment serves a π with the component c of the label
abbrev pub ServesAt : Table → Set ℕ → Fragment → ℕ → ℕ → Type 0
ServesAt t X f c w = (w < length f.worlds) × IsServedBy t X (items_of f w) c

-- a link serves the π with the component c of the last level's world, or none does and nothing has changed
abbrev pub LinkFits : Table → Aim → Search → ℕ → Search → Bool → Type 0
LinkFits t aim old c new true = IsServing t aim new × HasWitness t.logic new.fragment (items_of new.fragment) new.level.world c × (new.level ≡ old.level) × (new.below ≡ old.below)
LinkFits t aim old c new false = (new ≡ old) × IsFar t (label old.level) old.fragment c

-- a step led to a label under work
abbrev pub TakesStep : Table → Aim → Search → Search → Type 0
TakesStep t aim old new = IsUnderWork t aim new × (work_room t aim.bound new ≤ serving_room t aim.bound old)

-- after one π: a step was taken, or the next π is to be served
abbrev pub StepFits : Table → Aim → Search → Search → Served → Type 0
StepFits t aim old new served.ByStep = TakesStep t aim old new
StepFits t aim old new served.Done =
    IsServing t aim new × (new.level.item ≡ old.level.item + 1) × (serving_room t aim.bound new ≤ serving_room t aim.bound old) × (new.below ≡ old.below)

-- after all π of a label: a step was taken, or all are served
abbrev pub ServeFits : Table → Aim → Search → Search → Served → Type 0
ServeFits t aim old new served.ByStep = TakesStep t aim old new
ServeFits t aim old new served.Done =
    IsServing t aim new × (new.level.item ≡ item_count t) × (serving_room t aim.bound new ≤ serving_room t aim.bound old) × (new.below ≡ old.below)

-- after all π of all labels: a step was taken, or the fragment is open
abbrev pub RiseFits : Table → Aim → Search → Search → Served → Type 0
RiseFits t aim old new served.ByStep = TakesStep t aim old new
RiseFits t aim old new served.Done = IsExplored t aim.bound aim.seed new.fragment

-- what work on the last label comes to: it is unclosed, or its seed is closed
abbrev pub WorkFits : Table → Aim → Search → Search → Option (Tree SignedId) → Type 0
WorkFits t aim old new None = IsUnderWork t aim new × IsUnclosedLabel t (label new.level) × (work_room t aim.bound new ≤ work_room t aim.bound old)
WorkFits t aim old new (Some p) = IsFallen t aim new p × (fallen_room t aim.bound new ≤ work_room t aim.bound old)

-- the proof p closes, by items that the board u has, the seed of the step for which the level at the place a waits, and which leads to the place b
pub record ClosesStep (t : Table) (aim : Aim) (a : Place) (l : Level) (b : Place) (u : Board) (p : Tree SignedId) : Type 0 where
  pub guides : Guides t aim.rank
  pub waits : Waits t aim a l b
  pub closed : IsClosedAt t (root b.seed) u p

-- what comes of a level at the place a whose label is closed by a Step: the label is under work again, or its seed is closed
abbrev pub ReopensOrCloses : Table → Aim → Place → Level → Level → Option (Tree SignedId) → Type 0
ReopensOrCloses t aim a old new None =
    IsAt t a.seed (aim.rank a.path a.left) new.frames.items new.board × (most_steps new.frames.items ≤ a.left) × (new.parent ≡ old.parent) × (room new.board < room_below old.board.bits (spot_of old.board))
ReopensOrCloses t aim a old new (Some p) = IsWide t new.board × IsClosedAt t (root a.seed) new.board p × (steps p ≤ a.left)

-- what a closed seed comes to: a label under work below it, or the first seed is closed
abbrev pub FallFits : Table → Aim → Search → Search → Option (Tree SignedId) → Type 0
FallFits t aim old new None = IsUnderWork t aim new × (work_room t aim.bound new < fallen_room t aim.bound old)
FallFits t aim old new (Some p) = Closes t aim.seed p × (steps p ≤ aim.bound)

-- what a turn comes to
abbrev pub TurnFits : Table → Aim → Search → Search → Turn → Type 0
TurnFits t aim old new turn.Moved = IsUnderWork t aim new × (work_room t aim.bound new < work_room t aim.bound old)
TurnFits t aim old new turn.Done = IsExplored t aim.bound aim.seed new.fragment
TurnFits t aim old new (turn.Closed p) = Closes t aim.seed p × (steps p ≤ aim.bound)
