-- A program's certificate as a value.
use Rattle.lw_formula.specs.declared.sign.Sign.{Sign}
use Rattle.lw_pool.specs.declared.id.FormId.{FormId}
use Rattle.lw_pool.specs.declared.id.SignedId.{SignedId}
use Rattle.lw_proof.specs.Tree.{map_tree}
use Rattle.lw_cert.specs.declared.certificate.Body.{Body}
use Rattle.lw_cert.specs.declared.certificate.Body.TheVariants.{Proved, Refuted}
use Rattle.lw_cert.specs.declared.certificate.Certificate.{Certificate}
use Rattle.lw_value.specs.Values.{Evidence, proved, refuted, Val, certificate}

-- a signed id as a pair
abbrev pub pair_of : SignedId → Sign × FormId
pair_of s = (s.sign, s.form)

-- what the body of a certificate shows
abbrev pub evidence_of : Body → Evidence FormId
evidence_of (Proved P) = proved (map_tree pair_of P)
evidence_of (Refuted m w) = refuted m w

-- the certificate as a value
abbrev pub certified : Certificate → Val FormId
certified c = certificate c.logic c.formula (evidence_of c.body)
