-- What holds of the two commands together: `check` accepts what `run` prints of a certificate.
use Rattle.std.specs.Prelude.{◌≡◌, ℕ, ◌≤◌, ◌↔◌, List, [], ◌∷◌, ◌++◌, length}
use Rattle.lw_formula.specs.declared.logic.Logic.{Logic}
use Rattle.lw_formula.specs.Formula.{Formula}
use Rattle.lw_ast.specs.declared.function.Function.TheVariants.{Certificate}
use Rattle.lw_ast.specs.Trees as tree
use Rattle.lw_ast.specs.Trees.{Expression, Statements}
use Rattle.lw_cert.specs.Lines.{pieces}
use Rattle.lw_cert.specs.CertificateFaults.{Reads}
use Rattle.lw_value.specs.Values.{Evidence, formula, certificate}
use Rattle.lw_value.specs.ValueTexts.{IsCertificateText}
use Rattle.lw_eval.specs.Evaluations.{Got}
use Rattle.lw_eval.specs.Calls.{Certifies}
use Rattle.lw_eval.specs.Expressions.{Eval}
use Rattle.lw_eval.specs.Runs.{Done}
use Rattle.lw_eval.specs.Outputs.{Allows}
use Rattle.lw_cli.specs.declared.finding.Finding.TheVariants.{Accepted}
use Rattle.lw_cli.specs.FileLimit.{file_limit}
use Rattle.lw_cli.specs.FindingLines.{finding_line}
use Rattle.lw_cli.specs.Commands.{CheckOutcome}

-- the bytes are the line that is printed of a certificate that `certificate` may give for the formula in the logic
pub record IsPrintedCertificate (l : Logic) (a : Formula) (bytes : List ℕ) : Type 0 where
  pub evidence : Evidence Formula
  pub certifies : Certifies l a (Got (certificate l a evidence))
  pub text : List ℕ
  pub is_text : IsCertificateText l a evidence text
  pub line : bytes ≡ text ++ 10 ∷ []

-- the bytes read as the certificate that they were printed of
abbrev pub ReadsAsPrinted : (l : Logic) (a : Formula) (bytes : List ℕ) → IsPrintedCertificate l a bytes → Type 0
ReadsAsPrinted l a bytes printed = Reads (pieces bytes) (record { logic = l; formula = a; content = printed.is_text.content })

-- over these bytes `check` allows `accepted` with status 0, and nothing else
abbrev pub IsAcceptedAlone : List ℕ → Type 0
IsAcceptedAlone bytes = (out : List ℕ) (status : ℕ) → CheckOutcome bytes out status ↔ ((out ≡ finding_line Accepted) × (status ≡ 0))

-- so it is with what is printed of a certificate, within the limit, if it reads as that certificate
abbrev pub PrintedIsAccepted : Type 0
PrintedIsAccepted = (l : Logic) (a : Formula) (bytes : List ℕ) (printed : IsPrintedCertificate l a bytes) →
    ReadsAsPrinted l a bytes printed → length bytes ≤ file_limit → IsAcceptedAlone bytes

-- the expression `certificate(L, A)`
abbrev pub certificate_call : Logic → Expression → Expression
certificate_call l e = tree.call Certificate (tree.more (tree.logic l) (tree.more e tree.none))

-- the script `print certificate(L, A);`
abbrev pub prints_certificate : ℕ → Logic → Expression → Statements
prints_certificate line l e = tree.then (tree.at line (tree.print (tree.more (certificate_call l e) tree.none))) tree.over

-- carried out, it writes such bytes, of the formula that its expression comes to
abbrev pub CertificateIsPrinted : Type 0
CertificateIsPrinted = (line : ℕ) (l : Logic) (e : Expression) (out : List ℕ) → Allows (prints_certificate line l e) out Done →
    (a : Formula) × Eval [] e (Got (formula a)) × IsPrintedCertificate l a out
