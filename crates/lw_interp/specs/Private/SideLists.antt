-- The two sides of a set, as the program has them: two lists of ids.
use Rattle.std.specs.Prelude.{◌≡◌, Bool, true, false, if◌then◌else◌, List, length, take, Option}
use Rattle.lw_formula.specs.declared.logic.Logic.{Logic}
use Rattle.lw_formula.specs.Formula.{Formula}
use Rattle.lw_formula.specs.Signed.{Signed}
use Rattle.lw_pool.specs.declared.id.SignedId.{SignedId}
use Rattle.lw_sets.specs.IdSets.{set_of, AreLive, AddsAll, IsKept, side_at}
use Rattle.lw_interp.specs.declared.sides.Place.{Place}
use Rattle.lw_interp.specs.declared.sides.Place.TheVariants.{Left, Right, Neither}
use Rattle.lw_interp.specs.declared.sides.Counts.{Counts}
use Rattle.lw_interp.specs.declared.sides.SideIds.{SideIds}
use Rattle.lw_interp.specs.Maehara.{Sides, put}

-- the sides that the ids stand for
abbrev pub sides_at : List Formula → SideIds → Sides
sides_at ts V = record { left = set_of ts V.left; right = set_of ts V.right }

-- where s stands
abbrev pub place_of : Sides → Signed → Place
place_of W s = if W.left s then Left else if W.right s then Right else Neither

abbrev pub is_left : Place → Bool
is_left Left = true
is_left Right = false
is_left Neither = false

abbrev pub is_right : Place → Bool
is_right Left = false
is_right Right = true
is_right Neither = false

-- the sides with the components at the place
abbrev pub put_at : List Formula → Place → SignedId × Option SignedId → Sides → Sides
put_at ts place p W = put (is_left place) (is_right place) (side_at ts p) W

-- how many ids each side has
abbrev pub counts_of : SideIds → Counts
counts_of V = record { left = length V.left; right = length V.right }

-- the first so many ids of each side
abbrev pub cut_to : Counts → SideIds → SideIds
cut_to counts V = record { left = take counts.left V.left; right = take counts.right V.right }

-- the pool has the ids of both sides
abbrev pub AreSidesLive : List Formula → SideIds → Type 0
AreSidesLive ts V = AreLive ts V.left × AreLive ts V.right

-- the second sides are what a step keeps of the first
abbrev pub AreSidesKept : Logic → List Formula → SideIds → SideIds → Type 0
AreSidesKept L now V U = IsKept L now V.left U.left × IsKept L now V.right U.right

-- these are added at the place
abbrev pub IsPut : Place → List SignedId → SideIds → SideIds → Type 0
IsPut Left xs old new = AddsAll old.left new.left xs × (new.right ≡ old.right)
IsPut Right xs old new = AddsAll old.right new.right xs × (new.left ≡ old.left)
IsPut Neither xs old new = new ≡ old
