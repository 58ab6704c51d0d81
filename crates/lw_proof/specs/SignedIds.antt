-- Sets of signed ids, seen as lists in which none stands twice.
use Rattle.std.specs.Prelude.{◌≡◌, ◌⊎◌, List, [], ◌∷◌, ◌++◌, Contains}
use Rattle.lw_pool.specs.declared.id.SignedId.{SignedId}

-- the item is put at the end of the old list, where it isn't in it
abbrev pub Adds : List SignedId → List SignedId → SignedId → Type 0
Adds old new item = (Contains old item × (new ≡ old)) ⊎ ((¬ Contains old item) × (new ≡ old ++ item ∷ []))
