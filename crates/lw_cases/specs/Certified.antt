-- The certificate of an answer.
use Rattle.lw_formula.specs.declared.logic.Logic.{Logic}
use Rattle.lw_pool.specs.declared.id.FormId.{FormId}
use Rattle.lw_cert.specs.declared.certificate.Body.{Body}
use Rattle.lw_cert.specs.declared.certificate.Body.TheVariants.{Proved, Refuted}
use Rattle.lw_cert.specs.declared.certificate.Certificate.{Certificate}
use Rattle.lw_counter.specs.declared.answer.Answer.{Answer}
use Rattle.lw_counter.specs.declared.answer.Answer.TheVariants.{Yes, No}

-- what shows the answer: its proof, or its model with the world
abbrev pub body_of : Answer → Body
body_of (Yes proof) = Proved proof
body_of (No model world) = Refuted model world

-- the certificate of the answer to the formula
abbrev pub certificate_of : Logic → FormId → Answer → Certificate
certificate_of logic formula answer = record { logic = logic; formula = formula; body = body_of answer }
