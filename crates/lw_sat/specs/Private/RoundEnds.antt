-- What one round of a saturation comes to.
use Rattle.std.specs.Prelude.{ℕ, ◌<◌, ◌≤◌, Bool, List, ⊤}
use Rattle.lw_proof.specs.System.{Set}
use Rattle.lw_proof.specs.Lean.{steps}
use Rattle.lw_closure.specs.Table.{Table}
use Rattle.lw_closure.specs.Unclosed.{IsUnclosedLabel}
use Rattle.lw_sat.specs.declared.board.Board.{Board}
use Rattle.lw_sat.specs.declared.frame.Frame.{Frame}
use Rattle.lw_sat.specs.declared.round.Round.{Round}
use Rattle.lw_sat.specs.declared.round.Round.TheVariants.{Moved, Quiet, Done}
use Rattle.lw_sat.specs.Sets.{top}
use Rattle.lw_sat.specs.Moves.{Survives}
use Rattle.lw_sat.specs.SeedPath.{root, most_steps, IsClosedAt}
use Rattle.lw_sat.specs.Saturated.{IsAt}

-- what one round comes to: a label under work, an unclosed label, or a proof that closes the seed
abbrev pub RoundFits : Table → Set ℕ → (Set ℕ → Bool) → List Frame → Board → Round → Type 0
RoundFits t X test frames b Moved = IsAt t X test frames b
RoundFits t X test frames b Quiet = IsAt t X test frames b × IsUnclosedLabel t (top b.labels)
RoundFits t X test frames b (Done p) = IsClosedAt t (root X) b p

-- that comes of one round, from whatever seed and by whatever test that goes on to hold
abbrev pub Advances : Table → List Frame → Board → List Frame → Board → Round → Type 0
Advances t old b new c round = (X : Set ℕ) (test : Set ℕ → Bool) → Survives t test → IsAt t X test old b → RoundFits t X test new c round

-- the greatest number of Steps on a path of a proof that is held
abbrev pub round_steps : List Frame → Round → ℕ
round_steps frames (Done p) = steps p
round_steps frames _ = most_steps frames

-- less is left to do where there is a label under work, and no more where it is unclosed
abbrev pub RoundFalls : ℕ → ℕ → Round → Type 0
RoundFalls old new Moved = new < old
RoundFalls old new Quiet = new ≤ old
RoundFalls old new (Done p) = ⊤
