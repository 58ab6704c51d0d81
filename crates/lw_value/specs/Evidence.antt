-- What certificates in values are worth.
use Rattle.std.specs.Prelude.{ℕ, ◌<◌, List, [], ◌∷◌, ⊤}
use Rattle.lw_formula.specs.declared.logic.Logic.{Logic}
use Rattle.lw_formula.specs.Formula.{Formula}
use Rattle.lw_formula.specs.Validity.{Refutes}
use Rattle.lw_proof.specs.Derivation.{Proves}
use Rattle.lw_value.specs.Values.{Evidence, proved, refuted, Val, Vals, formula, truth, number, text, items, logic, certificate, naught, empty, item}

-- the proof proves the formula in the logic, or the model refutes it at its world
abbrev pub Shows : Logic → Formula → Evidence Formula → Type 0
Shows l a (proved P) = Proves l P a
Shows l a (refuted m w) = Refutes l m w a

-- the world is one of the model's
abbrev pub HasWorld : {A : Type 0} → Logic → A → Evidence A → Type 0
HasWorld l a (proved P) = ⊤
HasWorld l a (refuted m w) = w < m.worlds

-- P holds of the logic, the formula and the evidence of each certificate in the value, inside lists too
abbrev mutual
  pub EachCertificate : {A : Type 0} → (Logic → A → Evidence A → Type 0) → Val A → Type 0
  EachCertificate P (formula a) = ⊤
  EachCertificate P (truth b) = ⊤
  EachCertificate P (number n) = ⊤
  EachCertificate P (text bytes) = ⊤
  EachCertificate P (items vs) = EachOfCertificates P vs
  EachCertificate P (logic l) = ⊤
  EachCertificate P (certificate l a e) = P l a e
  EachCertificate P naught = ⊤

  pub EachOfCertificates : {A : Type 0} → (Logic → A → Evidence A → Type 0) → Vals A → Type 0
  EachOfCertificates P empty = ⊤
  EachOfCertificates P (item v vs) = EachCertificate P v × EachOfCertificates P vs

-- each certificate in the value shows its formula or refutes it
abbrev pub HasEvidence : Val Formula → Type 0
HasEvidence v = EachCertificate Shows v

-- each certificate in the variables' values does
abbrev pub HaveEvidence : List (List ℕ × Val Formula) → Type 0
HaveEvidence [] = ⊤
HaveEvidence (p ∷ ps) = HasEvidence p.1 × HaveEvidence ps

-- no certificate stands in the value
abbrev pub HasNoCertificate : {A : Type 0} → Val A → Type 0
HasNoCertificate v = EachCertificate (λ l a e. ⊥) v

-- the world of each certificate in the value is one of its model's
abbrev pub HasWorlds : {A : Type 0} → Val A → Type 0
HasWorlds v = EachCertificate HasWorld v

-- so it is in each of the values
abbrev pub HaveWorlds : {A : Type 0} → Vals A → Type 0
HaveWorlds vs = EachOfCertificates HasWorld vs
