-- What the sheet of a certificate says of its proof.
use Rattle.std.proofs.Common.{List}
use Rattle.lw_formula.specs.Formula.{Formula}
use Rattle.lw_pool.specs.declared.id.SignedId.{SignedId}
use Rattle.lw_proof.specs.Tree.{Tree}
use Rattle.lw_proof.specs.Pooled.{IsProofLive}
use Rattle.lw_cert.specs.declared.certificate.Body.TheVariants.{Proved}
use Rattle.lw_cert.specs.Sheet.{Content, Steps, Table}
use Rattle.lw_cert.specs.Certificates.{IsContentOf}

-- the pool has the proof whose content is told
pub live_proof : (ts : List Formula) (P : Tree SignedId) (content : Content) → IsContentOf ts (Proved P) content → IsProofLive ts P
live_proof ts P (Steps t) content = content.0
live_proof ts P (Table w rows) content = absurd content
