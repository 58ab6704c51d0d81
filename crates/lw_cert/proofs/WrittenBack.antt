-- What is written of a certificate is its text.
use Rattle.std.proofs.Common.{◌≡◌, ℕ, suc, ◌++◌, not, nat_eq, cond, Bool, true, false, List, [], ◌∷◌, length, map, refl, ◌∙◌, ap}
use Rattle.std.proofs.lemmas.Bool.{false≢true}
use Rattle.std.proofs.lemmas.List.{append_assoc}
use Rattle.lw_formula.specs.Formula.{Formula}
use Rattle.lw_formula.specs.Signed.{Signed}
use Rattle.lw_proof.specs.Tree.{Tree, Forest, node, none, more}
use Rattle.lw_cert.specs.declared.certificate.Certificate.{Certificate}
use Rattle.lw_cert.specs.Lines.{Line, Row, Piece, Whole, Cut, Stop, say, longer, pieces, AreAllowed}
use Rattle.lw_cert.specs.Sheet.{Sheet, Content, Steps, Table, IsRegular, steps, all_steps, rows_from, content_lines, lines}
use Rattle.lw_cert.specs.Written.{IsWritten, piece_text, text_of_lines}
use Rattle.lw_cert.specs.Certificates.{IsTextOf}
use Rattle.lw_cert.proofs.MachineRuns.{closing}
use Rattle.lw_cert.proofs.MarkFreeBytes.{lacks, and-first, and-second}
use Rattle.lw_cert.proofs.LineFeeds.{IsLine, IsThere, is-line}

-- the text of a line is read back as its piece
line-told : (bytes rest : List ℕ) → lacks 10 bytes ≡ true → pieces (bytes ++ (10 ∷ rest)) ≡ Whole bytes ∷ pieces rest
line-told [] rest clean = refl
line-told (b ∷ bytes) rest clean =
    ap (λ c. cond c (Whole [] ∷ pieces (bytes ++ (10 ∷ rest))) (longer b (pieces (bytes ++ (10 ∷ rest))))) (turned (nat_eq b 10) (and-first (not (nat_eq b 10)) (lacks 10 bytes) clean))
    ∙ ap (longer b) (line-told bytes rest (and-second (not (nat_eq b 10)) (lacks 10 bytes) clean))
  where
    turned : (b : Bool) → not b ≡ true → b ≡ false
    turned true h = absurd (false≢true h)
    turned false h = refl

piece-told : (p : Piece) (rest : List ℕ) → IsLine p → pieces (piece_text p ++ rest) ≡ p ∷ pieces rest
piece-told (Whole bytes) rest is = ap pieces (append_assoc bytes (10 ∷ []) rest) ∙ line-told bytes rest is
piece-told (Cut bytes) rest is = absurd is
piece-told Stop rest is = absurd is

-- the text of the lines is read back as them
record AreTold (ls : List Line) : Type 0 where
  pub same : AreAllowed ls → pieces (text_of_lines ls) ≡ map say ls

told : {l : Line} {ls : List Line} → IsThere l → AreTold ls → AreTold (l ∷ ls)
told {l} {ls} there rest = record {
  same = λ allowed. piece-told (say l) (text_of_lines ls) (is-line l there allowed.0) ∙ ap (λ ps. say l ∷ ps) (rest.same allowed.1);
}

mutual
  steps-told : (d : ℕ) (t : Tree Signed) (rest : List Line) → AreTold rest → AreTold (steps d t rest)
  steps-told d (node r s ts) rest is = told tt (all-told (suc d) ts rest is)

  all-told : (d : ℕ) (ts : Forest Signed) (rest : List Line) → AreTold rest → AreTold (all_steps d ts rest)
  all-told d none rest is = is
  all-told d (more t ts) rest is = steps-told d t (all_steps d ts rest) (all-told d ts rest is)

rows-told : (n i : ℕ) (rows : List Row) → AreTold closing → AreTold (rows_from n i rows closing)
rows-told n i [] is = is
rows-told n i (row ∷ rows) is = told tt (rows-told n (suc i) rows is)

content-told : (b : Content) → AreTold closing → AreTold (content_lines b)
content-told (Steps t) is = told tt (steps-told 1 t closing is)
content-told (Table w rows) is = told tt (told tt (told tt (rows-told (length rows) 0 rows is)))

sheet-told : (c : Sheet) → AreTold (lines c)
sheet-told c = told tt (told tt (told tt (content-told c.content (told tt (record { same = λ allowed. refl })))))

pub allowed-reads : (ts : List Formula) (c : Certificate) (text : List ℕ) (is : IsWritten ts c text) → IsRegular is.sheet.content → AreAllowed (lines is.sheet) → IsTextOf ts c text
allowed-reads ts c text is regular allowed = record {
  sheet = is.sheet;
  says = is.says;
  reads = record { regular = regular; allowed = allowed; said = ap pieces is.said ∙ (sheet-told is.sheet).same allowed };
}
