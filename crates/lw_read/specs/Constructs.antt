-- The constructs that a machine has on its stack, each with the level of the expression that it ends as: a token ends
-- those that bind tighter than it (Floyd, Syntactic analysis and operator precedence).
use Rattle.std.specs.Prelude.{ℕ, ◌≤◌, nat_lt, if◌then◌else◌, List, [], ◌∷◌, map, reverse}

pub record Constructs (F T : Type 0) : Type 0 where
  -- the level of the expression that a construct ends as; 0 where a token of its own alone ends it
  pub rank : F → ℕ
  -- a construct with its last operand
  pub finish : F → T → T

module _ {F T : Type 0} (C : Constructs F T) where
  -- the operand and the stack, the innermost construct first, once those that bind tighter than a level are ended
  abbrev pub ended : ℕ → T → List F → T × List F
  ended level a [] = (a, [])
  ended level a (f ∷ fs) = if nat_lt level (C.rank f) then ended level (C.finish f a) fs else (a, f ∷ fs)

  -- the level of the innermost construct, or 0
  abbrev pub top_rank : List F → ℕ
  top_rank [] = 0
  top_rank (f ∷ fs) = C.rank f

  -- the innermost construct binds no tighter than the level
  abbrev pub BindsNoTighter : ℕ → List F → Type 0
  BindsNoTighter level fs = top_rank fs ≤ level

module _ {F T S : Type 0} (C : Constructs F T) where
  -- ends the constructs that bind tighter than a level, then goes on
  abbrev pub reduce : (T → List F → S) → ℕ → T → List F → S
  reduce go level a fs = go (ended C level a fs).0 (ended C level a fs).1

-- the constructs of a list with the innermost one last
abbrev pub frames_of : {X F : Type 0} → (X → F) → List X → List F
frames_of frame items = reverse (map frame items)
