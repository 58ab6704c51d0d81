-- Tables of lines that cite earlier ones. What is in the sets of the lines is left open, as the principals of proof trees are.
use Rattle.std.specs.Prelude.{◌≡◌, ℕ, ◌<◌, Some, All, List, map}
use Rattle.std.specs.List.{slice_get}
use Rattle.lw_proof.specs.declared.rule.Rule.{Rule}

-- a line: the members of its set, its rule, what the rule is used on, and the numbers of the lines that it cites
pub record Line (A : Type 0) : Type 0 where
  pub members : List A
  pub rule : Rule
  pub principal : A
  pub cites : List ℕ

-- the line with this number, from 0
abbrev pub IsLineAt : {A : Type 0} → List (Line A) → ℕ → Line A → Type 0
IsLineAt table i line = slice_get table i ≡ Some line

-- each line cites earlier lines alone
abbrev pub CitesEarlier : {A : Type 0} → List (Line A) → Type 0
CitesEarlier {A} table = (i : ℕ) (line : Line A) → IsLineAt table i line → All (λ c. c < i) line.cites

-- the line with f of each member and of the principal
abbrev pub map_line : {A B : Type 0} → (A → B) → Line A → Line B
map_line f line = record { members = map f line.members; rule = line.rule; principal = f line.principal; cites = line.cites }
