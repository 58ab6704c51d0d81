-- What the certificates of a value are worth, of a value of ids and of the same value with its formulas.
use Rattle.lw_formula.specs.Formula.{Formula}
use Rattle.std.proofs.Common.{List}
use Rattle.lw_formula.specs.declared.logic.Logic.{Logic}
use Rattle.lw_pool.specs.declared.id.FormId.{FormId}
use Rattle.lw_pool.specs.Region.{tree_at}
use Rattle.lw_value.specs.Values.{Evidence, proved, refuted, Val, Vals, seen, seen_all, shown_by, formula, truth, number, text, items, logic, certificate, naught, empty, item}
use Rattle.lw_value.specs.Evidence.{Shows, HasWorld, EachOfCertificates, HasEvidence, HasNoCertificate, HasWorlds, HaveWorlds}

world-in : (ts : List Formula) (l : Logic) (a : FormId) (e : Evidence FormId) → Shows l (tree_at ts a) (shown_by (tree_at ts) e) → HasWorld l a e
world-in ts l a (proved P) shows = tt
world-in ts l a (refuted m w) shows = shows.within

-- the world of a model that refutes is one of the model's
mutual
  pub evidence_has_worlds : (ts : List Formula) (v : Val FormId) → HasEvidence (seen ts v) → HasWorlds v
  evidence_has_worlds ts (formula a) has = tt
  evidence_has_worlds ts (truth b) has = tt
  evidence_has_worlds ts (number n) has = tt
  evidence_has_worlds ts (text bytes) has = tt
  evidence_has_worlds ts (items vs) has = evidence_have_worlds ts vs has
  evidence_has_worlds ts (logic l) has = tt
  evidence_has_worlds ts (certificate l a e) has = world-in ts l a e has
  evidence_has_worlds ts naught has = tt

  pub evidence_have_worlds : (ts : List Formula) (vs : Vals FormId) → EachOfCertificates Shows (seen_all ts vs) → HaveWorlds vs
  evidence_have_worlds ts empty has = tt
  evidence_have_worlds ts (item v vs) has = (evidence_has_worlds ts v has.0, evidence_have_worlds ts vs has.1)

-- a value has a certificate exactly where it has one with its formulas
mutual
  pub no_certificate_seen : (ts : List Formula) (v : Val FormId) → HasNoCertificate v → HasNoCertificate (seen ts v)
  no_certificate_seen ts (formula a) none = tt
  no_certificate_seen ts (truth b) none = tt
  no_certificate_seen ts (number n) none = tt
  no_certificate_seen ts (text bytes) none = tt
  no_certificate_seen ts (items vs) none = none-in ts vs none
  no_certificate_seen ts (logic l) none = tt
  no_certificate_seen ts (certificate l a e) none = none
  no_certificate_seen ts naught none = tt

  none-in : (ts : List Formula) (vs : Vals FormId) → EachOfCertificates (λ l a e. ⊥) vs → EachOfCertificates (λ l a e. ⊥) (seen_all ts vs)
  none-in ts empty none = tt
  none-in ts (item v vs) none = (no_certificate_seen ts v none.0, none-in ts vs none.1)

mutual
  pub no_certificate_from_seen : (ts : List Formula) (v : Val FormId) → HasNoCertificate (seen ts v) → HasNoCertificate v
  no_certificate_from_seen ts (formula a) none = tt
  no_certificate_from_seen ts (truth b) none = tt
  no_certificate_from_seen ts (number n) none = tt
  no_certificate_from_seen ts (text bytes) none = tt
  no_certificate_from_seen ts (items vs) none = none-back ts vs none
  no_certificate_from_seen ts (logic l) none = tt
  no_certificate_from_seen ts (certificate l a e) none = none
  no_certificate_from_seen ts naught none = tt

  none-back : (ts : List Formula) (vs : Vals FormId) → EachOfCertificates (λ l a e. ⊥) (seen_all ts vs) → EachOfCertificates (λ l a e. ⊥) vs
  none-back ts empty none = tt
  none-back ts (item v vs) none = (no_certificate_from_seen ts v none.0, none-back ts vs none.1)
