-- A certificate as its text has it, and the lines of the text.
use Rattle.std.specs.Prelude.{◌≡◌, ℕ, suc, List, [], ◌∷◌, length, ⊤}
use Rattle.lw_formula.specs.declared.logic.Logic.{Logic}
use Rattle.lw_formula.specs.Formula.{Formula}
use Rattle.lw_formula.specs.Signed.{Signed}
use Rattle.lw_proof.specs.Tree.{Tree, Forest, node, none, more, count_of}
use Rattle.lw_proof.specs.Break.{arity}
use Rattle.lw_cert.specs.Lines.{Line, heading, logic_is, formula_is, proof_follows, step_is, model_follows, worlds_are, refuted_is, world_is, ending, nothing, Row}

-- a proof, or a model by the rows of its worlds with the world that refutes the formula
pub data Content : Type 0 where
  Steps : Tree Signed → Content
  Table : (world : ℕ) → List Row → Content

pub record Sheet : Type 0 where
  pub logic : Logic
  pub formula : Formula
  pub content : Content

-- the steps of a proof in pre-order, the first one at this depth, and then the rest
abbrev mutual
  pub steps : ℕ → Tree Signed → List Line → List Line
  steps d (node r s ts) rest = step_is d r s ∷ all_steps (suc d) ts rest

  pub all_steps : ℕ → Forest Signed → List Line → List Line
  all_steps d none rest = rest
  all_steps d (more t ts) rest = steps d t (all_steps d ts rest)

-- the rows of n worlds, from world i on, and then the rest
abbrev pub rows_from : ℕ → ℕ → List Row → List Line → List Line
rows_from n i [] rest = rest
rows_from n i (row ∷ rows) rest = world_is n i row ∷ rows_from n (suc i) rows rest

-- the lines behind those of the logic and the formula
abbrev pub content_lines : Content → List Line
content_lines (Steps t) = proof_follows ∷ steps 1 t (ending ∷ nothing ∷ [])
content_lines (Table w rows) =
    model_follows ∷ worlds_are (length rows) ∷ refuted_is (length rows) w ∷ rows_from (length rows) 0 rows (ending ∷ nothing ∷ [])

-- the lines of a certificate's text
abbrev pub lines : Sheet → List Line
lines c = heading ∷ logic_is c.logic ∷ formula_is c.formula ∷ content_lines c.content

-- each step has as many subproofs as its rule has premises
abbrev mutual
  pub IsFull : Tree Signed → Type 0
  IsFull (node r s ts) = (count_of ts ≡ arity r) × AreFull ts

  pub AreFull : Forest Signed → Type 0
  AreFull none = ⊤
  AreFull (more t ts) = IsFull t × AreFull ts

-- the certificate has a text: its proof's steps have the subproofs that are read behind them
abbrev pub IsRegular : Content → Type 0
IsRegular (Steps t) = IsFull t
IsRegular (Table w rows) = ⊤
