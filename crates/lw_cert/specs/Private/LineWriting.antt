-- What private contracts say of the writing of certificates.
use Rattle.std.specs.Prelude.{◌≡◌, ℕ, suc, ◌<◌, List, ◌∷◌, ◌++◌, length, drop, All}
use Rattle.lw_formula.specs.Formula.{Formula}
use Rattle.lw_formula.specs.FiniteModel.{FiniteModel}
use Rattle.lw_pool.specs.declared.id.SignedId.{SignedId}
use Rattle.lw_pool.specs.Region.{signed_at}
use Rattle.lw_proof.specs.Pooled.{proof_at}
use Rattle.lw_proof.specs.Tree.{Tree, forest, subs_of, map_forest}
use Rattle.lw_cert.specs.declared.certificate.Body.{Body}
use Rattle.lw_cert.specs.declared.certificate.Body.TheVariants.{Proved, Refuted}
use Rattle.lw_cert.specs.Lines.{Line, proof_follows, model_follows, worlds_are, refuted_is, world_is, ending, Row, IsRow}
use Rattle.lw_cert.specs.Sheet.{steps, all_steps, rows_from}
use Rattle.lw_cert.specs.Certificates.{row_at, IsRowOf, AreRowsOf}
use Rattle.lw_cert.specs.Written.{text_of_lines}

-- of the whole lines so much was written that those are left; each puts its lines before any others
abbrev pub Leaves : (old now : List ℕ) → (whole left : List Line → List Line) → Type 0
Leaves old now whole left = (rest : List Line) → now ++ text_of_lines (left rest) ≡ old ++ text_of_lines (whole rest)

-- the lines were written, and none is left
abbrev pub Writes : (old new : List ℕ) → (List Line → List Line) → Type 0
Writes old new whole = Leaves old new whole (λ rest. rest)

-- the steps of the subproofs from the i-th on, where the proof's first step has this depth, and then the rest
abbrev pub left_steps : List Formula → Tree SignedId → ℕ → ℕ → List Line → List Line
left_steps ts P i d rest = all_steps (suc d) (map_forest (signed_at ts) (forest (drop i (subs_of P)))) rest

-- the line of world w was written, in whose row the worlds stand in order, and the names too
pub record WritesRow (m : FiniteModel) (w : ℕ) (old new : List ℕ) : Type 0 where
  pub row : Row
  pub says : IsRowOf m w row
  pub ordered : IsRow m.worlds row
  pub text : Writes old new (λ rest. world_is m.worlds w row ∷ rest)

-- the lines of the first k worlds were written so
pub record WritesRows (m : FiniteModel) (k : ℕ) (old new : List ℕ) : Type 0 where
  pub rows : List Row
  pub count : length rows ≡ k
  pub says : (w : ℕ) → w < k → IsRowOf m w (row_at rows w)
  pub ordered : All (IsRow m.worlds) rows
  pub text : Writes old new (rows_from m.worlds 0 rows)

-- the lines of the model were written, in whose rows the worlds stand in order, and the names too
pub record WritesModel (m : FiniteModel) (w : ℕ) (old new : List ℕ) : Type 0 where
  pub rows : List Row
  pub count : m.worlds ≡ length rows
  pub says : AreRowsOf m rows
  pub ordered : All (IsRow (length rows)) rows
  pub text : Writes old new (λ rest. model_follows ∷ worlds_are (length rows) ∷ refuted_is (length rows) w ∷ rows_from (length rows) 0 rows (ending ∷ rest))

-- the lines behind that of the formula were written
abbrev pub WritesBody : List Formula → Body → (old new : List ℕ) → Type 0
WritesBody ts (Proved P) old new = Writes old new (λ rest. proof_follows ∷ steps 1 (proof_at ts P) (ending ∷ rest))
WritesBody ts (Refuted m w) old new = WritesModel m w old new
