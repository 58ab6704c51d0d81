-- The text that is written of a certificate.
use Rattle.std.specs.Prelude.{◌≡◌, ℕ, ◌<◌, List, [], ◌∷◌, ◌++◌, length, All, ⊤}
use Rattle.lw_formula.specs.Formula.{Formula}
use Rattle.lw_pool.specs.Region.{IsLive}
use Rattle.lw_proof.specs.Pooled.{IsProofLive}
use Rattle.lw_cert.specs.declared.certificate.Body.{Body}
use Rattle.lw_cert.specs.declared.certificate.Body.TheVariants.{Proved, Refuted}
use Rattle.lw_cert.specs.declared.certificate.Certificate.{Certificate}
use Rattle.lw_cert.specs.Lines.{Line, Piece, Whole, Cut, Stop, IsRow, say}
use Rattle.lw_cert.specs.Sheet.{Sheet, Content, Steps, Table, lines}
use Rattle.lw_cert.specs.Certificates.{IsSheetOf}

-- the bytes of a piece, where it is a line with its line feed
abbrev pub piece_text : Piece → List ℕ
piece_text (Whole bytes) = bytes ++ 10 ∷ []
piece_text (Cut bytes) = bytes
piece_text Stop = []

-- the bytes of some lines
abbrev pub text_of_lines : List Line → List ℕ
text_of_lines [] = []
text_of_lines (l ∷ ls) = piece_text (say l) ++ text_of_lines ls

-- in each row of a model the worlds stand in order, and the names of the variables too
abbrev pub IsOrdered : Content → Type 0
IsOrdered (Steps t) = ⊤
IsOrdered (Table w rows) = All (IsRow (length rows)) rows

-- the text is that of the certificate's lines
pub record IsWritten (ts : List Formula) (c : Certificate) (text : List ℕ) : Type 0 where
  pub sheet : Sheet
  pub says : IsSheetOf ts c sheet
  pub ordered : IsOrdered sheet.content
  pub said : text ≡ text_of_lines (lines sheet)

-- the pool has the formulas of the body's proof, and the world of the body is one of its model's
abbrev pub HasLiveBody : List Formula → Body → Type 0
HasLiveBody ts (Proved P) = IsProofLive ts P
HasLiveBody ts (Refuted m w) = w < m.worlds

-- the pool has the certificate's formulas, and its world is one of its model's
pub record IsCertificateLive (ts : List Formula) (c : Certificate) : Type 0 where
  pub formula : IsLive ts c.formula
  pub body : HasLiveBody ts c.body
