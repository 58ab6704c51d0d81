-- What holds of texts of certificates as a whole.
use Rattle.std.specs.Prelude.{◌≡◌, ℕ, List, All}
use Rattle.lw_formula.specs.Formula.{Formula}
use Rattle.lw_cert.specs.declared.certificate.Certificate.{Certificate}
use Rattle.lw_cert.specs.declared.fault.CertFault.{CertFault}
use Rattle.lw_cert.specs.declared.fault.CertFault.TheVariants.{Memory}
use Rattle.lw_cert.specs.Lines.{pieces, IsWithinLimits}
use Rattle.lw_cert.specs.Sheet.{Sheet, IsRegular, lines}
use Rattle.lw_cert.specs.CertificateFaults.{Reads, IsFaultOf}
use Rattle.lw_cert.specs.Certificates.{IsTextOf}
use Rattle.lw_cert.specs.Written.{IsWritten}

-- a text is that of at most one certificate
abbrev pub HasOneCertificate : List ℕ → Type 0
HasOneCertificate text = (c d : Sheet) → Reads (pieces text) c → Reads (pieces text) d → c ≡ d

-- a certificate's text has no fault, so it is read but for want of memory
abbrev pub HasOneAnswer : List ℕ → Type 0
HasOneAnswer text = (c : Sheet) → Reads (pieces text) c → (fault : CertFault) → IsFaultOf text fault → fault ≡ Memory

-- a certificate has one text, whatever the order of its model's lists
abbrev pub HasOneText : List Formula → Certificate → Type 0
HasOneText ts c = (text other : List ℕ) → IsWritten ts c text → IsWritten ts c other → text ≡ other

-- what is written of a certificate is its text, where its steps have the subproofs that their rules ask for and its
-- lines are within the limits: no formula's text has a fault, no step is too deep, and a model has at most 2^64 - 1 worlds
abbrev pub ReadsBack : List Formula → Certificate → List ℕ → Type 0
ReadsBack ts c text =
    (is : IsWritten ts c text) → IsRegular is.sheet.content → All IsWithinLimits (lines is.sheet) → IsTextOf ts c text
