-- What callers see of a saturation.
use Rattle.std.specs.Prelude.{◌≡◌, ℕ, ◌≤◌, Bool, true, false, IsTrue, Option, Some, None, List, [], ◌∷◌, ⊤}
use Rattle.lw_pool.specs.declared.id.SignedId.{SignedId}
use Rattle.lw_proof.specs.System.{Set, IsWithin}
use Rattle.lw_proof.specs.Tree.{Tree}
use Rattle.lw_proof.specs.Lean.{steps}
use Rattle.lw_closure.specs.Table.{Table}
use Rattle.lw_closure.specs.Unclosed.{IsUnclosedLabel}
use Rattle.lw_sat.specs.declared.board.Board.{Board}
use Rattle.lw_sat.specs.declared.frame.Frame.{Frame}
use Rattle.lw_sat.specs.declared.saturation.Found.{Found}
use Rattle.lw_sat.specs.declared.saturation.Found.TheVariants as found
use Rattle.lw_sat.specs.declared.saturation.State.{State}
use Rattle.lw_sat.specs.declared.saturation.State.TheVariants.{Working, Waiting, Closed, Answered, Failed}
use Rattle.lw_sat.specs.declared.saturation.Saturation.{Saturation}
use Rattle.lw_sat.specs.Closing.{Closes}
use Rattle.lw_sat.specs.SeedPath.{root, most_steps, IsClosedAt}
use Rattle.lw_sat.specs.Saturated.{room, IsAt}
use Rattle.lw_sat.specs.Moves.{Survives}
use Rattle.lw_sat.specs.Sets.{adding, top}

-- the label, as a set of items
abbrev pub label : Saturation → Set ℕ
label s = top s.board.labels

-- an unclosed label waits
abbrev pub is_waiting : State → Bool
is_waiting Waiting = true
is_waiting _ = false

abbrev pub waits : Saturation → Bool
waits s = is_waiting s.state

-- no unclosed label waits, and the closed seed hasn't been answered
abbrev pub is_open : State → Bool
is_open Waiting = false
is_open Answered = false
is_open _ = true

abbrev pub is_ready : Saturation → Bool
is_ready s = is_open s.state

-- memory ran out
abbrev pub IsFailed : Saturation → Type 0
IsFailed s = s.state ≡ Failed

-- the state is one of a saturation of the seed X over the table, and the test holds of each label that is still to be worked on
abbrev pub StateFits : Table → Set ℕ → (Set ℕ → Bool) → List Frame → Board → State → Type 0
StateFits t X test frames b Working = IsAt t X test frames b
StateFits t X test frames b Waiting = IsAt t X test frames b
StateFits t X test frames b (Closed p) = Closes t X p
StateFits t X test frames b _ = ⊤

abbrev pub IsUnderWay : Table → Set ℕ → (Set ℕ → Bool) → Saturation → Type 0
IsUnderWay t X test s = StateFits t X test s.frames.items s.board s.state

-- it is under way from the seed, by whatever test holds of the seed
abbrev pub BeginsFrom : Table → Set ℕ → Saturation → Type 0
BeginsFrom t X s = (test : Set ℕ → Bool) → IsTrue (test X) → IsUnderWay t X test s

-- it is still under way, from the same seed and by the same test
abbrev pub GoesOn : Table → Saturation → Saturation → Type 0
GoesOn t old new = (X : Set ℕ) (test : Set ℕ → Bool) → IsUnderWay t X test old → IsUnderWay t X test new

-- the same, where the test holds of the label with either of two items
abbrev pub GoesOnSplit : Table → ℕ → ℕ → Saturation → Saturation → Type 0
GoesOnSplit t one other old new =
    (X : Set ℕ) (test : Set ℕ → Bool) → IsTrue (test (adding (one ∷ []) (label old))) → IsTrue (test (adding (other ∷ []) (label old))) →
    IsUnderWay t X test old → IsUnderWay t X test new

-- how much is left to do: it falls with each label that is refused or split
abbrev pub state_room : Board → State → ℕ
state_room b Working = room b
state_room b Waiting = room b
state_room b _ = 0

abbrev pub work_left : Saturation → ℕ
work_left s = state_room s.board s.state

-- the greatest number of Steps on a path of a proof that is held: no more than a refused proof had
abbrev pub state_steps : List Frame → State → ℕ
state_steps frames (Closed p) = steps p
state_steps frames _ = most_steps frames

abbrev pub steps_held : Saturation → ℕ
steps_held s = state_steps s.frames.items s.state

-- the unclosed label that waits: it has the seed, nothing but Step, Serial and Cut is left to do, and the test holds of it
pub record IsUnclosedFrom (t : Table) (X : Set ℕ) (test : Set ℕ → Bool) (s : Saturation) : Type 0 where
  pub waits : IsTrue (waits s)
  pub under : IsUnderWay t X test s
  pub seed : IsWithin X (label s)
  pub unclosed : IsUnclosedLabel t (label s)
  pub passes : IsTrue (test (label s))

-- what is found of the seed X: an unclosed label, or a proof that closes the seed and grows from it
abbrev pub FoundFits : Table → Set ℕ → (Set ℕ → Bool) → Saturation → Found → Type 0
FoundFits t X test s found.Unclosed = IsUnclosedFrom t X test s
FoundFits t X test s (found.Closed p) = Closes t X p

-- that is found from whatever seed, by whatever test that goes on to hold
abbrev pub Finds : Table → Saturation → Saturation → Found → Type 0
Finds t old new found = (X : Set ℕ) (test : Set ℕ → Bool) → Survives t test → IsUnderWay t X test old → FoundFits t X test new found

-- the answer is that an unclosed label waits
abbrev pub is_unclosed : Found → Bool
is_unclosed found.Unclosed = true
is_unclosed (found.Closed p) = false

-- no path of what is held or found has more than n Steps
abbrev pub FoundSteps : ℕ → Saturation → Found → Type 0
FoundSteps n s found.Unclosed = steps_held s ≤ n
FoundSteps n s (found.Closed p) = steps p ≤ n

-- what a run of rounds comes to
abbrev pub RunFits : Table → Set ℕ → (Set ℕ → Bool) → List Frame → Board → Option (Tree SignedId) → Type 0
RunFits t X test frames b None = IsAt t X test frames b × IsUnclosedLabel t (top b.labels)
RunFits t X test frames b (Some p) = IsClosedAt t (root X) b p

-- that comes of a run, from whatever seed and by whatever test that goes on to hold
abbrev pub Runs : Table → List Frame → Board → List Frame → Board → Option (Tree SignedId) → Type 0
Runs t old b new c found = (X : Set ℕ) (test : Set ℕ → Bool) → Survives t test → IsAt t X test old b → RunFits t X test new c found
