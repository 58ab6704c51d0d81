-- Which sets a step leaves to be closed, by ids.
use Rattle.std.specs.Prelude.{◌≡◌, ℕ, ◌<◌, List, [], ◌∷◌, Option, ⊤}
use Rattle.lw_formula.specs.declared.logic.Logic.{Logic}
use Rattle.lw_formula.specs.Formula.{Formula}
use Rattle.lw_formula.specs.Signed.{SignedSet}
use Rattle.lw_formula.specs.Components.{parts_of}
use Rattle.lw_pool.specs.declared.id.SignedId.{SignedId}
use Rattle.lw_pool.specs.Region.{Grows, signed_at, AreBothBelow}
use Rattle.lw_proof.specs.declared.rule.Rule.{Rule}
use Rattle.lw_proof.specs.System.{trees}
use Rattle.lw_proof.specs.Derivation.{kept, premises}
use Rattle.lw_sets.specs.IdSets.{set_of, with_side, step_set}
use Rattle.lw_check.specs.declared.premise.Left.{Left}
use Rattle.lw_check.specs.declared.premise.Left.TheVariants.{Nothing, One, Two, Stepped, Kept}

-- how many sets are left
abbrev pub count_left : Left → ℕ
count_left Nothing = 0
count_left (One p) = 1
count_left (Two p q) = 2
count_left (Stepped c) = 1
count_left Kept = 1

-- the ids in it are below the bound
abbrev pub IsLeftBelow : ℕ → Left → Type 0
IsLeftBelow n Nothing = ⊤
IsLeftBelow n (One p) = AreBothBelow n p
IsLeftBelow n (Two p q) = AreBothBelow n p × AreBothBelow n q
IsLeftBelow n (Stepped c) = c.form.0 < n
IsLeftBelow n Kept = ⊤

-- their set with the one side, and with the other
abbrev pub with_each : List SignedId → (SignedId × Option SignedId) × (SignedId × Option SignedId) → List Formula → List SignedSet
with_each xs sides ts = with_side xs sides.0 ts ∷ with_side xs sides.1 ts ∷ []

-- the sets that are left of the set of the ids by a step on x
abbrev pub left_of : Logic → SignedId → Left → List SignedId → List Formula → List SignedSet
left_of L x Nothing xs ts = []
left_of L x (One p) xs ts = with_side xs p ts ∷ []
left_of L x (Two p q) xs ts = with_each xs (p, q) ts
left_of L x (Stepped c) xs ts = step_set L x c xs ts ∷ []
left_of L x Kept xs ts = kept trees L (set_of ts xs) ∷ []

-- they are what the rule on x leaves, in each logic and of each set, also in each pool that has grown from this one
abbrev pub Leaves : List Formula → Rule → SignedId → Left → Type 0
Leaves now r x left =
    (L : Logic) (ts : List Formula) → Grows now ts → (xs : List SignedId) →
    premises trees L r (signed_at ts x) (parts_of (signed_at ts x)) (set_of ts xs) ≡ left_of L x left xs ts
