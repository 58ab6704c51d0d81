-- Ordered lists, one for each number, laid end to end.
use Rattle.std.specs.Prelude.{◌≡◌, ℕ, suc, ◌<◌, ◌≤◌, ◌⊎◌, ◌↔◌, Contains, List, [], ◌∷◌, ◌++◌, length, map}
use Rattle.std.specs.List.{AllWithin, slice_index_or}
use Rattle.std.specs.declared.cmp.Ordering.{Ordering}
use Rattle.std.specs.declared.cmp.Ordering.TheVariants.{Less}

-- each item with the number
abbrev pub marked : {T : Type 0} → ℕ → List T → List (ℕ × T)
marked k xs = map (λ x. (k, x)) xs

-- each item with its row's number, where the first row has the number k
abbrev pub numbered : {T : Type 0} → ℕ → List (List T) → List (ℕ × T)
numbered k [] = []
numbered k (xs ∷ rows) = marked k xs ++ numbered (suc k) rows

-- the new items are the old ones, and the item with the number
abbrev pub AddsItem : {T : Type 0} → List (ℕ × T) → List (ℕ × T) → ℕ → T → Type 0
AddsItem {T} old new k x = (i : ℕ) (y : T) → Contains new (i, y) ↔ (Contains old (i, y) ⊎ ((k ≡ i) × (x ≡ y)))

-- each of the first i items stands before x, and x before each of the others
pub record IsGapIn {T : Type 0} (cmp : T → T → Ordering) (xs : List T) (x : T) (i : ℕ) : Type 0 where
  pub within : i ≤ length xs
  pub before : AllWithin (λ y. cmp y x ≡ Less) xs 0 i
  pub after : AllWithin (λ y. cmp x y ≡ Less) xs i (length xs)

-- the rows are the old ones, and maybe some of no items behind them
pub record IsGrown {T : Type 0} (old new : List (List T)) : Type 0 where
  pub same : (at : ℕ) → slice_index_or new at [] ≡ slice_index_or old at []
  pub items : numbered 0 new ≡ numbered 0 old

-- the i-th of all items stands at this place of that row
pub record IsPlace {T : Type 0} (rows : List (List T)) (i at place : ℕ) : Type 0 where
  pub row : at < length rows
  pub within : place < length (slice_index_or rows at [])
  pub item : (k : ℕ) (d : T) → slice_index_or (numbered 0 rows) i (k, d) ≡ (at, slice_index_or (slice_index_or rows at []) place d)
