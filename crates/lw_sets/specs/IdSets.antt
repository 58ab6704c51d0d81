-- The sets that lists of ids stand for.
use Rattle.std.specs.Prelude.{◌≡◌, List, [], ◌∷◌, map, All, Option}
use Rattle.std.specs.List.{list_any}
use Rattle.lw_formula.specs.declared.logic.Logic.{Logic}
use Rattle.lw_formula.specs.Formula.{Formula}
use Rattle.lw_formula.specs.Signed.{Signed, SignedSet}
use Rattle.lw_pool.specs.declared.id.SignedId.{SignedId}
use Rattle.lw_pool.specs.Region.{IsLive, Grows, signed_at, both_at}
use Rattle.lw_proof.specs.System.{trees, same_signed}
use Rattle.lw_proof.specs.Derivation.{side, plus, added, kept}
use Rattle.lw_proof.specs.SignedIds.{Adds}

-- the set of these
abbrev pub among : List Signed → SignedSet
among cs s = list_any (λ c. same_signed c s) cs

-- the set that a list of ids stands for
abbrev pub set_of : List Formula → List SignedId → SignedSet
set_of ts xs = among (map (signed_at ts) xs)

-- the pool has each of the ids
abbrev pub AreLive : List Formula → List SignedId → Type 0
AreLive ts xs = All (λ x. IsLive ts x.form) xs

-- each of the ids is added in turn
abbrev pub AddsAll : List SignedId → List SignedId → List SignedId → Type 0
AddsAll old new [] = new ≡ old
AddsAll old new (x ∷ xs) = (mid : List SignedId) × Adds old mid x × AddsAll mid new xs

-- the signed formulas of one side
abbrev pub side_at : List Formula → SignedId × Option SignedId → List Signed
side_at ts p = side (both_at ts p).0 (both_at ts p).1

-- the set of the ids with the signed formulas of one side
abbrev pub with_side : List SignedId → SignedId × Option SignedId → List Formula → SignedSet
with_side xs p ts = plus trees (side_at ts p) (set_of ts xs)

-- the second list stands for what a step keeps of the set of the first, also in each pool that has grown from this one
abbrev pub IsKept : Logic → List Formula → List SignedId → List SignedId → Type 0
IsKept L now xs ys = (ts : List Formula) → Grows now ts → set_of ts ys ≡ kept trees L (set_of ts xs)

-- what the step on the π x, whose component is c, leaves to be closed of the set of the ids
abbrev pub step_set : Logic → SignedId → SignedId → List SignedId → List Formula → SignedSet
step_set L x c xs ts = plus trees (added trees L (signed_at ts x) (signed_at ts c)) (kept trees L (set_of ts xs))

-- the second list stands for what the step on the π x, whose component is c, leaves of the first, also in each pool that has
-- grown from this one
abbrev pub IsStepSet : Logic → List Formula → SignedId → SignedId → List SignedId → List SignedId → Type 0
IsStepSet L now x c xs ys = (ts : List Formula) → Grows now ts → set_of ts ys ≡ step_set L x c xs ts
