-- Strict linear orders of worlds: models of GL with a path of each length.
use Rattle.std.proofs.Common.{◌≡◌, ◌≤◌, ◌<◌, ◌+◌, ℕ, zero, suc, List, [], ◌∷◌, ◌++◌, ⊎_elim, ap, sym, subst, arith}
use Rattle.std.specs.List.{Contains}
use Rattle.std.proofs.lemmas.Bool.{cases_eq}
use Rattle.std.proofs.lemmas.List.Elements.{All-nil, Contains-append_left, Contains-append_right, Contains-append_cases}
use Rattle.lw_formula.specs.declared.logic.Logic.TheVariants.{GL}
use Rattle.lw_formula.specs.FiniteModel.{FiniteModel, IsWellFormed, AreDistinct}
use Rattle.lw_formula.specs.Class.{Class}
use Rattle.lw_formula.proofs.ListMembers.{Contains-nil, Contains-head, Contains-tail, Contains-cons_cases, All-members, AreDistinct-nil, AreDistinct-cons, AreDistinct-append}

-- what f gives of the numbers below n
abbrev pub each : {X : Type 0} → (ℕ → X) → ℕ → List X
each f zero = []
each f (suc n) = f n ∷ each f n

pub each-cases : {X : Type 0} (f : ℕ → X) (n : ℕ) (x : X) → Contains (each f n) x → (v : ℕ) × (v < n) × (f v ≡ x)
each-cases f zero x h = absurd (Contains-nil x h)
each-cases f (suc n) x h =
    ⊎_elim (λ e. (n, omega arith, e)) (λ r. let b = each-cases f n x r in (b.0, omega (arith, b.1), b.2)) (Contains-cons_cases (f n) (each f n) x h)

pub each-has : {X : Type 0} (f : ℕ → X) (n v : ℕ) → v < n → Contains (each f n) (f v)
each-has f zero v l = absurd (omega (arith, l))
each-has f (suc n) v l =
    ⊎_elim (λ e. subst (λ u. Contains (each f (suc n)) (f u)) (sym e) (Contains-head (f n) (each f n)))
    (λ other. Contains-tail (f n) (each f n) (f v) (each-has f n v (omega arith)))
    (cases_eq v n)

pub each-distinct : {X : Type 0} (f : ℕ → X) (n : ℕ) → ((u v : ℕ) → f u ≡ f v → u ≡ v) → AreDistinct (each f n)
each-distinct f zero one = AreDistinct-nil
each-distinct f (suc n) one =
    AreDistinct-cons (f n) (each f n)
    (λ h. let b = each-cases f n (f n) h in let same : b.0 ≡ n = one b.0 n b.2 in let bad : ⊥ = omega (arith, b.1, same) in bad)
    (each-distinct f n one)

-- the pairs of the numbers below n, the smaller first
abbrev pub upwards : ℕ → List (ℕ × ℕ)
upwards zero = []
upwards (suc n) = each (λ v. (v, n)) n ++ upwards n

-- the worlds below n, each of which sees the greater ones, and p is true nowhere
abbrev pub order : ℕ → FiniteModel
order n = record { worlds = n; pairs = upwards n; facts = [] }

pub rises : (n : ℕ) (x : ℕ × ℕ) → Contains (upwards n) x → (x.0 < x.1) × (x.1 < n)
rises zero x h = absurd (Contains-nil x h)
rises (suc n) x h =
    ⊎_elim
    (λ a. let b = each-cases (λ v. (v, n)) n x a in
    let at : b.0 ≡ x.0 = ap (λ y. y.0) b.2 in let to : n ≡ x.1 = ap (λ y. y.1) b.2 in (omega (arith, at, to, b.1), omega (arith, to)))
    (λ a. let b = rises n x a in (b.0, omega (arith, b.1)))
    (Contains-append_cases (each (λ v. (v, n)) n) (upwards n) x h)

pub rising : (n v w : ℕ) → v < w → w < n → Contains (upwards n) (v, w)
rising zero v w l b = absurd (omega (arith, b))
rising (suc n) v w l b =
    ⊎_elim
    (λ e. Contains-append_left (each (λ u. (u, n)) n) (upwards n) (v, w)
    (subst (λ u. Contains {X = ℕ × ℕ} (each (λ x. (x, n)) n) (v, u)) (sym e) (each-has {X = ℕ × ℕ} (λ u. (u, n)) n v (omega (arith, e, l)))))
    (λ other. Contains-append_right (each (λ u. (u, n)) n) (upwards n) (v, w) (rising n v w l (omega arith)))
    (cases_eq w n)

upwards-distinct : (n : ℕ) → AreDistinct (upwards n)
upwards-distinct zero = AreDistinct-nil
upwards-distinct (suc n) =
    AreDistinct-append (each (λ v. (v, n)) n) (upwards n) (each-distinct (λ v. (v, n)) n (λ u v e. ap (λ y. y.0) e)) (upwards-distinct n) (λ x a b.
    let c = each-cases (λ v. (v, n)) n x a in let to : n ≡ x.1 = ap (λ y. y.1) c.2 in let d = rises n x b in omega (arith, to, d.1))

pub order-IsWellFormed : (n : ℕ) → 1 ≤ n → IsWellFormed (order n)
order-IsWellFormed n some = record {
  inhabited = some;
  pairs_within = All-members (λ x. (x.0 < n) × (x.1 < n)) (upwards n) (λ x h. let r = rises n x h in (omega (arith, r.0, r.1), r.1));
  pairs_distinct = upwards-distinct n;
  facts_within = All-nil (λ f. f.0 < n);
  facts_distinct = AreDistinct-nil;
}

-- the order is a model of GL
pub order-Class : (n : ℕ) → 1 ≤ n → Class GL (order n)
order-Class n some = record {
  well_formed = order-IsWellFormed n some;
  frame = (
    λ u v w s t. let r = rises n (u, v) s in let q = rises n (v, w) t in rising n u w (omega (arith, r.0, q.0)) q.1,
    λ w s. let r = rises n (w, w) s in omega (arith, r.0),
  );
}
