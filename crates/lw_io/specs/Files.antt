use Rattle.std.specs.Prelude.{◌≡◌, ℕ, Bool, List, take, Option, Some, None, IfSome, IsSome, IsTrue}
use Rattle.std.specs.Ordering.{nat_cmp}
use Rattle.std.specs.Cmp.Lexicographic.{slice_cmp}
use Rattle.std.specs.FinMap.{FinMap, get}

-- named files: a finite map from the bytes of a name to the bytes of its file
abbrev pub Files : Type 0
Files = FinMap (slice_cmp nat_cmp) (List ℕ)

-- the bytes of the file of that name, where there is one
abbrev pub bytes_at : Files → List ℕ → Option (List ℕ)
bytes_at files name = get files name

-- where the files are told, the file of that name has these bytes
abbrev pub IsHeld : Option Files → List ℕ → List ℕ → Type 0
IsHeld holds name bytes = IfSome holds (λ files. bytes_at files name ≡ Some bytes)

-- where the files are told, these are the first n bytes of the file of that name, or all of fewer
abbrev pub IsHeldPart : Option Files → List ℕ → ℕ → List ℕ → Type 0
IsHeldPart holds name n part = IfSome holds (λ files. (bytes : List ℕ) × (bytes_at files name ≡ Some bytes) × (part ≡ take n bytes))

-- the files are told, and one of them has that name
abbrev pub IsToldHeld : Option Files → List ℕ → Type 0
IsToldHeld None name = ⊥
IsToldHeld (Some files) name = IsSome (bytes_at files name)

-- a store is sure of a name: it says so of its next fetch, and it tells a file of that name
abbrev pub IsSure : Bool → Option Files → List ℕ → Type 0
IsSure sure holds name = IsTrue sure × IsToldHeld holds name
