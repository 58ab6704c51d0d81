-- Which certificate a text is, and the first line at which it is none.
use Rattle.std.specs.Prelude.{◌≡◌, ℕ, suc, ◌+◌, ◌<◌, Bool, true, false, ◌&&◌, not, List, ◌∷◌, ◌++◌, length, map, take, codes}
use Rattle.std.specs.List.{list_all}
use Rattle.std.specs.Str.{bytes_eq}
use Rattle.lw_cert.specs.declared.fault.CertFault.{CertFault}
use Rattle.lw_cert.specs.declared.fault.CertFault.TheVariants.{ModelText, ProofText, Memory}
use Rattle.lw_cert.specs.Lines.{Line, Piece, Whole, say, pieces, AreAllowed}
use Rattle.lw_cert.specs.Sheet.{Sheet, lines, IsRegular}

-- the pieces are those of the certificate's lines, and each line keeps what it has to keep
pub record Reads (ps : List Piece) (c : Sheet) : Type 0 where
  pub regular : IsRegular c.content
  pub allowed : AreAllowed (lines c)
  pub said : ps ≡ map say (lines c)

-- the lines up to and with the one at this place, from 0, are those with which some certificate begins, and each of
-- them keeps what it has to keep; of the certificate's other lines nothing is asked
pub record IsFine (ps : List Piece) (at : ℕ) : Type 0 where
  pub certificate : Sheet
  pub regular : IsRegular certificate.content
  pub first : List Line
  pub others : List Line
  pub rest : List Piece
  pub begins : lines certificate ≡ first ++ others
  pub count : length first ≡ suc at
  pub allowed : AreAllowed first
  pub said : ps ≡ map say first ++ rest

-- the first line, from 0, that isn't fine
pub record IsFault (ps : List Piece) (at : ℕ) : Type 0 where
  pub within : at < length ps
  pub before : (i : ℕ) → i < at → IsFine ps i
  pub here : IsFine ps at → ⊥

-- whether the piece is a line of these bytes
abbrev pub is_line : List ℕ → Piece → Bool
is_line bytes (Whole own) = bytes_eq own bytes
is_line bytes _ = false

-- whether the next line stands in the body of a model, or in place of the `end` behind it: the fourth line is `model`,
-- and none is `end` yet
abbrev pub is_in_model : List Piece → Bool
is_in_model (p ∷ q ∷ r ∷ s ∷ ps) = is_line (codes "model") s && list_all (λ t. not (is_line (codes "end") t)) ps
is_in_model _ = false

-- the fault is the text's first one: its line, from 1, and whether it stands in a model
abbrev pub IsFaultOf : List ℕ → CertFault → Type 0
IsFaultOf text (ModelText line) = (at : ℕ) × (line ≡ at + 1) × IsFault (pieces text) at × (is_in_model (take at (pieces text)) ≡ true)
IsFaultOf text (ProofText line) = (at : ℕ) × (line ≡ at + 1) × IsFault (pieces text) at × (is_in_model (take at (pieces text)) ≡ false)
IsFaultOf text Memory = Unit {0}
