-- How the bounds on models grow with the goal's depth and its number of modal subformulas.
use Rattle.std.proofs.Common.{◌≡◌, ℕ, ◌+◌, ◌*◌, ◌^◌, ◌≤◌, zero, suc, arith}
use Rattle.std.proofs.lemmas.Nat.{mul-le}
use Rattle.std.proofs.Math.Nat.{pow-suc, one-le-pow, mul-le-mul_right}
use Rattle.lw_formula.specs.declared.logic.Logic.{Logic}
use Rattle.lw_formula.specs.declared.logic.Logic.TheVariants.{K, KT, S4, S5, GL, Grz, K4, KD}
use Rattle.lw_model.specs.Bounds.{step_bound, tree_size}

-- a square is no less than its root
square : (m : ℕ) → m + 1 ≤ (m + 1) ^ 2
square m =
    let two : (m + 1) ^ 2 ≡ (m + 1) ^ 1 * (m + 1) = pow-suc (m + 1) 1 in
    let one : 1 ≤ (m + 1) ^ 1 = one-le-pow 1 (m + 1) (omega arith) in
    omega (arith, mul-le-mul_right (m + 1) one)

-- the bound on steps is within the bound of lean proofs
pub step_bound_small : (L : Logic) (m d : ℕ) → d ≤ m → step_bound L m d ≤ (m + 1) ^ 2
step_bound_small K m d l = omega (arith, square m)
step_bound_small KT m d l = omega (arith, square m)
step_bound_small S4 m d l = omega arith
step_bound_small S5 m d l = omega (arith, square m)
step_bound_small GL m d l = omega (arith, square m)
step_bound_small Grz m d l = omega (arith, square m)
step_bound_small K4 m d l = omega arith
step_bound_small KD m d l = omega (arith, square m)

-- a tree of more children is no smaller, and neither is a deeper one
pub tree_wider : (m n b : ℕ) → m ≤ n → tree_size m b ≤ tree_size n b
tree_wider m n zero l = omega arith
tree_wider m n (suc b) l = omega (arith, mul-le m (tree_size m b) n (tree_size n b) l (tree_wider m n b l))

-- a tree has a world
tree_some : (m b : ℕ) → 1 ≤ tree_size m b
tree_some m zero = omega arith
tree_some m (suc b) = omega arith

pub tree_deeper : (m b c : ℕ) → b ≤ c → tree_size m b ≤ tree_size m c
tree_deeper m zero c l = tree_some m c
tree_deeper m (suc b) zero l = absurd (omega arith)
tree_deeper m (suc b) (suc c) l = omega (arith, mul-le m (tree_size m b) m (tree_size m c) (omega arith) (tree_deeper m b c (omega arith)))
