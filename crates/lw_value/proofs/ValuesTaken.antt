-- What holds of the first values of a slice, and of the next one.
use Rattle.std.proofs.Common.{◌≡◌, ℕ, zero, suc, ◌+◌, ◌<◌, List, [], ◌∷◌, ◌++◌, length, get_or, take, refl, sym, ap, ◌∙◌, subst, arith}
use Rattle.std.proofs.lemmas.List.{take_more}
use Rattle.lw_formula.specs.declared.logic.Logic.{Logic}
use Rattle.lw_formula.specs.Formula.{Formula}
use Rattle.lw_pool.specs.declared.id.FormId.{FormId}
use Rattle.lw_value.specs.declared.value.Value.{Value}
use Rattle.lw_value.specs.Values.{Evidence, AreLive, AreItemsLive, seen, seen_all}
use Rattle.lw_value.specs.ValueTexts.{measure_of, total_of, count_of}
use Rattle.lw_value.specs.Evidence.{EachCertificate, EachOfCertificates}
use Rattle.lw_value.specs.Views.{value_of, values_of}

pub next-taken : (xs : List Value) (i : ℕ) (v : Value) → i < length xs → v ≡ get_or xs i v → take (i + 1) xs ≡ take i xs ++ v ∷ []
next-taken xs i v lt is = take_more xs i v lt ∙ ap (λ w. take i xs ++ w ∷ []) (sym is)

total-last : (ts : List Formula) (xs : List Value) (v : Value) → total_of (seen_all ts (values_of (xs ++ v ∷ []))) ≡ total_of (seen_all ts (values_of xs)) + measure_of (seen ts (value_of v))
total-last ts [] v = omega arith
total-last ts (x ∷ xs) v = omega (arith, total-last ts xs v)

-- the lengths so far with that of the next value
pub total-next : (ts : List Formula) (xs : List Value) (i : ℕ) (v : Value) → i < length xs → v ≡ get_or xs i v
    → total_of (seen_all ts (values_of (take (i + 1) xs))) ≡ total_of (seen_all ts (values_of (take i xs))) + measure_of (seen ts (value_of v))
total-next ts xs i v lt is = ap (λ ys. total_of (seen_all ts (values_of ys))) (next-taken xs i v lt is) ∙ total-last ts (take i xs) v

pub count-values : (ts : List Formula) (xs : List Value) → count_of (seen_all ts (values_of xs)) ≡ length xs
count-values ts [] = refl
count-values ts (x ∷ xs) = omega (arith, count-values ts xs)

live-at : (ts : List Formula) (xs : List Value) (i : ℕ) (d : Value) → i < length xs → AreItemsLive ts (values_of xs) → AreLive ts (value_of (get_or xs i d))
live-at ts [] i d lt live = absurd (omega arith)
live-at ts (x ∷ xs) zero d lt live = live.0
live-at ts (x ∷ xs) (suc i) d lt live = live-at ts xs i d (omega arith) live.1

-- the next value is live
pub live-next : (ts : List Formula) (xs : List Value) (i : ℕ) (v : Value) → i < length xs → v ≡ get_or xs i v → AreItemsLive ts (values_of xs) → AreLive ts (value_of v)
live-next ts xs i v lt is live = subst (λ w. AreLive ts (value_of w)) (sym is) (live-at ts xs i v lt live)

module _ (P : Logic → FormId → Evidence FormId → Type 0) where
  each-at : (xs : List Value) (i : ℕ) (d : Value) → i < length xs → EachOfCertificates P (values_of xs) → EachCertificate P (value_of (get_or xs i d))
  each-at [] i d lt each = absurd (omega arith)
  each-at (x ∷ xs) zero d lt each = each.0
  each-at (x ∷ xs) (suc i) d lt each = each-at xs i d (omega arith) each.1

  -- what holds of each certificate in the values holds of those in the next one
  pub each-next : (xs : List Value) (i : ℕ) (v : Value) → i < length xs → v ≡ get_or xs i v → EachOfCertificates P (values_of xs) → EachCertificate P (value_of v)
  each-next xs i v lt is each = subst (λ w. EachCertificate P (value_of w)) (sym is) (each-at xs i v lt each)
