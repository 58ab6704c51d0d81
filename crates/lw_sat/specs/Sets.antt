-- Sets of items as rows of bits have them, and how much a set lacks.
use Rattle.std.specs.Prelude.{ℕ, zero, suc, ◌+◌, ◌-◌, ◌*◌, ◌<◌, Bool, false, not, IsTrue, ◌&&◌, ◌||◌, if◌then◌else◌, List, [], ◌∷◌, map, take, length, nat_eq, ⊤}
use Rattle.std.specs.List.{list_any, slice_index_or}
use Rattle.lw_proof.specs.System.{Set}
use Rattle.lw_closure.specs.Table.{Table, item_count}
use Rattle.lw_rows.specs.RowStack.{Region, bit_in}

-- the set of the numbers whose bits a row has
abbrev pub has : List Bool → Set ℕ
has row i = slice_index_or row i false

-- the set without members
abbrev pub nothing : Set ℕ
nothing i = false

-- the set of the members of a list
abbrev pub among : List ℕ → Set ℕ
among cs i = list_any (λ c. nat_eq c i) cs

-- the set with these
abbrev pub adding : List ℕ → Set ℕ → Set ℕ
adding cs X i = among cs i || X i

-- the set without these
abbrev pub without : List ℕ → Set ℕ → Set ℕ
without cs X i = not (among cs i) && X i

-- the members of either set
abbrev pub either : Set ℕ → Set ℕ → Set ℕ
either X Y i = X i || Y i

-- the set has each of these
abbrev pub HasEach : List ℕ → Set ℕ → Type 0
HasEach [] X = ⊤
HasEach (c ∷ cs) X = IsTrue (X c) × HasEach cs X

-- these are below n
abbrev pub AreBelow : ℕ → List ℕ → Type 0
AreBelow n [] = ⊤
AreBelow n (c ∷ cs) = (c < n) × AreBelow n cs

-- the same of the lists of a list
abbrev pub AreAllBelow : ℕ → List (List ℕ) → Type 0
AreAllBelow n [] = ⊤
AreAllBelow n (cs ∷ css) = AreBelow n cs × AreAllBelow n css

-- the set has items of the table alone
abbrev pub IsOfItems : Table → Set ℕ → Type 0
IsOfItems t X = (i : ℕ) → IsTrue (X i) → i < item_count t

-- the set of the last row
abbrev pub top : Region → Set ℕ
top r = bit_in r (length r.rows - 1)

-- the sets of all rows, and of those below the last
abbrev pub sets : Region → List (Set ℕ)
sets r = map has r.rows

abbrev pub lower : Region → List (Set ℕ)
lower r = map has (take (length r.rows - 1) r.rows)

-- three times as much for each number below n that the set lacks
abbrev pub weight : Set ℕ → ℕ → ℕ
weight X zero = 1
weight X (suc n) = if X n then weight X n else 3 * weight X n

-- the weights of sets that wait
abbrev pub weights : ℕ → List (Set ℕ) → ℕ
weights n [] = 0
weights n (X ∷ Xs) = weight X n + weights n Xs
