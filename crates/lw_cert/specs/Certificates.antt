-- What a program's certificate says, by the formulas of its pool: the sheet of its text.
use Rattle.std.specs.Prelude.{◌≡◌, ℕ, ◌<◌, ◌↔◌, List, [], length, Contains}
use Rattle.std.specs.List.{slice_index_or}
use Rattle.lw_formula.specs.Formula.{Formula}
use Rattle.lw_formula.specs.FiniteModel.{FiniteModel, Sees, HasFact}
use Rattle.lw_pool.specs.Region.{IsAt}
use Rattle.lw_proof.specs.Pooled.{proof_at, IsProofLive}
use Rattle.lw_cert.specs.declared.certificate.Body.{Body}
use Rattle.lw_cert.specs.declared.certificate.Body.TheVariants.{Proved, Refuted}
use Rattle.lw_cert.specs.declared.certificate.Certificate.{Certificate}
use Rattle.lw_cert.specs.Lines.{Row, pieces}
use Rattle.lw_cert.specs.Sheet.{Sheet, Content, Steps, Table}
use Rattle.lw_cert.specs.CertificateFaults.{Reads}

-- the row of world w; a world that has none sees none, and nothing is true there
abbrev pub row_at : List Row → ℕ → Row
row_at rows w = slice_index_or rows w (record { sees = []; names = [] })

-- the row tells what world w sees, and what is true there
pub record IsRowOf (m : FiniteModel) (w : ℕ) (row : Row) : Type 0 where
  pub relation : (v : ℕ) → Sees m w v ↔ Contains row.sees v
  pub facts : (p : List ℕ) → HasFact m w p ↔ Contains row.names p

-- the rows tell the model's relation and facts
abbrev pub AreRowsOf : FiniteModel → List Row → Type 0
AreRowsOf m rows = (w : ℕ) → IsRowOf m w (row_at rows w)

-- the content is what the body says
abbrev pub IsContentOf : List Formula → Body → Content → Type 0
IsContentOf ts (Proved P) (Steps t) = IsProofLive ts P × (t ≡ proof_at ts P)
IsContentOf ts (Refuted m w) (Table v rows) = (w ≡ v) × (w < m.worlds) × (m.worlds ≡ length rows) × AreRowsOf m rows
IsContentOf ts _ _ = ⊥

-- the sheet is what the certificate says
pub record IsSheetOf (ts : List Formula) (c : Certificate) (sheet : Sheet) : Type 0 where
  pub logic : c.logic ≡ sheet.logic
  pub formula : IsAt ts sheet.formula c.formula
  pub content : IsContentOf ts c.body sheet.content

-- the text is that of the certificate
pub record IsTextOf (ts : List Formula) (c : Certificate) (text : List ℕ) : Type 0 where
  pub sheet : Sheet
  pub says : IsSheetOf ts c sheet
  pub reads : Reads (pieces text) sheet
