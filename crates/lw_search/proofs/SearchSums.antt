-- Sums of a search: how many worlds it makes, and how much is left to do.
use Rattle.std.proofs.Common.{◌≡◌, ℕ, zero, suc, ◌+◌, ◌-◌, ◌*◌, ◌<◌, ◌≤◌, Bool, true, cond, refl, sym, ap, subst, ◌∙◌, arith, add-one}
use Rattle.std.proofs.Math.Nat.{mul-le-mul_right}
use Rattle.lw_model.specs.Bounds.{tree_size}
use Rattle.lw_search.specs.Private.SearchLevels.{child_room, child_size, unit}
use Rattle.lw_search.specs.Step.{count_below}

-- a unit is one more than all steps of a label
pub unit_is : (n k : ℕ) → unit n k ≡ 1 + n * child_room n k
unit_is n zero = omega arith
unit_is n (suc k) = refl

-- a tree is its root and the trees of its children
pub tree_is : (m n : ℕ) → tree_size m n ≡ 1 + m * child_size m n
tree_is m zero = omega arith
tree_is m (suc n) = refl

pub few_start : (f w x : ℕ) → f ≡ w + 1 → f ≤ w + 1 + 0 * x
few_start f w x e = omega arith

pub count_more : (test : ℕ → Bool) (k : ℕ) → count_below test (k + 1) ≡ cond (test k) 1 0 + count_below test k
count_more test k = ap (count_below test) (add-one k)

pub few_more : (test : ℕ → Bool) (f w k x : ℕ) → f ≤ w + 1 + count_below test k * x → f ≤ w + 1 + count_below test (k + 1) * x
few_more test f w k x h = go (cond (test k) 1 0) (count_below test k) (count_below test (k + 1)) (count_more test k) h where
  go : (d a b : ℕ) → b ≡ d + a → f ≤ w + 1 + a * x → f ≤ w + 1 + b * x
  go d a b e h = subst (λ c. f ≤ w + 1 + c * x) (sym e) (omega arith)

-- with the worlds of a child that asked for a step
pub few_child : (test : ℕ → Bool) (f g w k m n : ℕ) → test k ≡ true → 0 < n → g ≤ w + 1 + count_below test k * child_size m n → f ≤ g + tree_size m (n - 1) →
    f ≤ w + 1 + count_below test (k + 1) * child_size m n
few_child test f g w k m zero asks some h l = absurd (omega arith)
few_child test f g w k m (suc n) asks some h l =
    go (count_below test k) (count_below test (k + 1)) (tree_size m n) (count_more test k ∙ ap (λ b. cond b 1 0 + count_below test k) asks) h
    (subst (λ j. f ≤ g + tree_size m j) same l)
  where
    same : suc n - 1 ≡ n
    same = omega arith

    go : (a b x : ℕ) → b ≡ 1 + a → g ≤ w + 1 + a * x → f ≤ g + x → f ≤ w + 1 + b * x
    go a b x e h l = subst (λ c. f ≤ w + 1 + c * x) (sym e) (omega arith)

-- a label that becomes a world leaves less to do
pub room_settled : (held b u n c w : ℕ) → u ≡ 1 + n * c → 1 ≤ w → held + (b * u + (n - 0) * c) < held + (b + 2 * w) * u
room_settled held b u n c zero e some = absurd (omega arith)
room_settled held b u n c (suc v) e some = (let same : (n - 0) * c ≡ n * c = ap (λ m. m * c) (let none : n - 0 ≡ n = omega arith in none) in omega (arith, same))

pub room_next : (held b n i c : ℕ) → i < n → held + (b + (n - (i + 1)) * c) ≤ held + (b + (n - i) * c)
room_next held b n i c l = go (n - (i + 1)) (n - i) (omega arith) where
  go : (d e : ℕ) → e ≡ d + 1 → held + (b + d * c) ≤ held + (b + e * c)
  go d e h = subst (λ m. held + (b + d * c) ≤ held + (b + m * c)) (sym h) (omega arith)

-- a step's seed leaves no more to do than one step of the label counted for
pub room_descends : (new old most n i c u room_new b : ℕ) → c ≡ most * u → new ≡ old + (b + (n - (i + 1)) * c) → room_new ≤ most → i < n → new + room_new * u ≤ old + (b + (n - i) * c)
room_descends new old most n i c u room_new b own e few l = go (n - (i + 1)) (n - i) (omega arith) e (mul-le-mul_right u few) where
  go : (d f : ℕ) → f ≡ d + 1 → new ≡ old + (b + d * c) → room_new * u ≤ most * u → new + room_new * u ≤ old + (b + f * c)
  go d f h e less = subst (λ m. new + room_new * u ≤ old + (b + m * c)) (sym h) (omega arith)

-- no more than the trees of all askers, where no more than these ask
pub few_whole : (f w k m n : ℕ) → k ≤ m → f ≤ w + 1 + k * child_size m n → f ≤ w + tree_size m n
few_whole f w k m n few h =
    let whole = tree_is m n in
    let less : k * child_size m n ≤ m * child_size m n = mul-le-mul_right (child_size m n) few in
    omega (arith, whole, less)
