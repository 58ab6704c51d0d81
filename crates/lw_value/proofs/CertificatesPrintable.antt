-- Certificates of a value that is within the limit can be printed.
use Rattle.std.proofs.Common.{◌≤◌, List, arith}
use Rattle.lw_formula.specs.Formula.{Formula}
use Rattle.lw_pool.specs.declared.id.FormId.{FormId}
use Rattle.lw_value.specs.Values.{Val, Vals, seen, seen_all, formula, truth, number, text, items, logic, certificate, naught, empty, item}
use Rattle.lw_value.specs.Evidence.{EachCertificate, EachOfCertificates, HasWorlds, HaveWorlds}
use Rattle.lw_value.specs.ValueTexts.{measure_of, total_of}
use Rattle.lw_value.specs.Private.TextsLeft.{IsPrintable}

-- a value whose worlds are those of its models, and whose measured length is within the limit, can be printed
mutual
  pub printable : (ts : List Formula) (v : Val FormId) → HasWorlds v → measure_of (seen ts v) ≤ 1048576 → EachCertificate (IsPrintable ts) v
  printable ts (formula a) worlds short = tt
  printable ts (truth b) worlds short = tt
  printable ts (number n) worlds short = tt
  printable ts (text bytes) worlds short = tt
  printable ts (items vs) worlds short = all-printable ts vs worlds (omega arith)
  printable ts (logic l) worlds short = tt
  printable ts (certificate l a e) worlds short = (worlds, short)
  printable ts naught worlds short = tt

  pub all-printable : (ts : List Formula) (vs : Vals FormId) → HaveWorlds vs → total_of (seen_all ts vs) ≤ 1048576 → EachOfCertificates (IsPrintable ts) vs
  all-printable ts empty worlds short = tt
  all-printable ts (item v vs) worlds short = (printable ts v worlds.0 (omega arith), all-printable ts vs worlds.1 (omega arith))
