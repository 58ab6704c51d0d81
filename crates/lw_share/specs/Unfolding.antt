-- The tree that a line unfolds to.
use Rattle.std.specs.Prelude.{◌≡◌, ℕ, List, [], ◌∷◌, ⊤}
use Rattle.lw_proof.specs.Tree.{Tree, Forest, node, none, more}
use Rattle.lw_share.specs.Lines.{Line, IsLineAt}

abbrev mutual
  -- the tree has the line's rule and principal over the trees of the lines that it cites
  pub Unfolds : {A : Type 0} → List (Line A) → ℕ → Tree A → Type 0
  Unfolds {A} table i (node r s ts) =
      (line : Line A) × IsLineAt table i line × (line.rule ≡ r) × (line.principal ≡ s) × UnfoldEach table line.cites ts

  -- the trees are those of the lines with these numbers, in order
  pub UnfoldEach : {A : Type 0} → List (Line A) → List ℕ → Forest A → Type 0
  UnfoldEach table [] none = ⊤
  UnfoldEach table (i ∷ is) (more t ts) = Unfolds table i t × UnfoldEach table is ts
  UnfoldEach table _ _ = ⊥
