-- A value weighs what it weighs as it is seen.
use Rattle.std.proofs.Common.{◌≡◌, ◌∙◌, sym, ◌+◌, ◌≤◌, ◌<◌, ℕ, List, refl, ap, min, nat_le, true, false, arith}
use Rattle.std.proofs.lemmas.Bool.Decides.{nat_tests}
use Rattle.std.below.core.specs.declared.int.usize.TheConstants.{MAX}
use Rattle.lw_formula.specs.Formula.{Formula}
use Rattle.lw_pool.specs.declared.id.FormId.{FormId}
use Rattle.lw_value.specs.Values.{Val, Vals, seen, seen_all, weight, weights, formula, truth, number, text, items, logic, certificate, naught, empty, item}
use Rattle.std.specs.Prelude.{if◌then◌else◌}
use Rattle.lw_eval.specs.declared.trouble.Trouble.TheVariants.{Range}
use Rattle.lw_eval.specs.Evaluations.{Got, Fails}
use Rattle.lw_eval.specs.Operators.{weight_limit, list_of}

mutual
  pub weight_seen : (ts : List Formula) (v : Val FormId) → weight (seen ts v) ≡ weight v
  weight_seen ts (formula a) = refl
  weight_seen ts (truth b) = refl
  weight_seen ts (number n) = refl
  weight_seen ts (text bytes) = refl
  weight_seen ts (items vs) = ap (λ n. n + 1) (weights_seen ts vs)
  weight_seen ts (logic l) = refl
  weight_seen ts (certificate l a e) = refl
  weight_seen ts naught = refl

  pub weights_seen : (ts : List Formula) (vs : Vals FormId) → weights (seen_all ts vs) ≡ weights vs
  weights_seen ts empty = refl
  weights_seen ts (item v vs) = λ i. weight_seen ts v i + weights_seen ts vs i

-- a list is allowed where its weight, or the greatest number, is
pub light : (ts : List Formula) (vs : Vals FormId) (n : ℕ) → n ≡ min (weights vs + 1) MAX → n ≤ weight_limit → Got (items (seen_all ts vs)) ≡ list_of (seen_all ts vs)
light ts vs n p h =
    let e : nat_le (weights vs + 1) weight_limit ≡ true = grind (arith, nat_tests, p, h) in
    sym (ap (λ k. if nat_le (k + 1) weight_limit then Got (items (seen_all ts vs)) else Fails Range) (weights_seen ts vs) ∙ ap (λ b. if b then Got (items (seen_all ts vs)) else Fails Range) e)

pub heavy : (ts : List Formula) (vs : Vals FormId) (n : ℕ) → n ≡ min (weights vs + 1) MAX → weight_limit < n → Fails Range ≡ list_of (seen_all ts vs)
heavy ts vs n p h =
    let e : nat_le (weights vs + 1) weight_limit ≡ false = grind (arith, nat_tests, p, h) in
    sym (ap (λ k. if nat_le (k + 1) weight_limit then Got (items (seen_all ts vs)) else Fails Range) (weights_seen ts vs) ∙ ap (λ b. if b then Got (items (seen_all ts vs)) else Fails Range) e)
