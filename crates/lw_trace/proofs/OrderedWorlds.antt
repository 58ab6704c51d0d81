-- For each height there is a model of GL with a world of this height: the last but so many of a strict order.
use Rattle.std.proofs.Common.{◌≡◌, ℕ, zero, suc, ◌+◌, ◌<◌, ◌≤◌, ⊎_elim, arith}
use Rattle.std.proofs.lemmas.Bool.{cases_lt}
use Rattle.lw_formula.specs.FiniteModel.{Sees}
use Rattle.lw_fix.proofs.StrictOrders.{order, rises, rising}
use Rattle.lw_trace.specs.Heights.{AreHeights}

module _ (n : ℕ) (heights : ℕ → ℕ) (exact : AreHeights (order n) heights) where
  last : (w : ℕ) → w < n → n ≤ w + 1 → heights w + w + 1 ≡ n
  last w l end =
      let low = exact.lowest w (λ v s. let r = rises n (w, v) s in omega (arith, end, r.0, r.1)) in
      omega (arith, low, l, end)

  not_last : (w : ℕ) → w + 1 < n → ((v : ℕ) → w < v → v < n → heights v + v + 1 ≡ n) → heights w + w + 1 ≡ n
  not_last w more above =
      let s : Sees (order n) w (w + 1) = rising n w (w + 1) (omega arith) more in
      let greatest = exact.higher w (w + 1) s in
      let next = greatest.next in
      let r = rises n (w, next.0) next.1 in
      omega (arith, above (w + 1) (omega arith) more, above next.0 r.0 r.1, greatest.smaller (w + 1) s, next.2, r.0)

  -- at each of the last k worlds
  order-heights_within : (k w : ℕ) → w < n → n ≤ k + w → heights w + w + 1 ≡ n
  order-heights_within zero w l b = absurd (omega (arith, l, b))
  order-heights_within (suc k) w l b =
      ⊎_elim
      (λ more. not_last w more (λ v less m. order-heights_within k v m (omega (arith, b, less))))
      (λ end. last w l end)
      (cases_lt (w + 1) n)

  pub order-heights : (w : ℕ) → w < n → heights w + w + 1 ≡ n
  order-heights w l = order-heights_within n w l (omega arith)
