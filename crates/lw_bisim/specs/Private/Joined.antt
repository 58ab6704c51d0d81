-- The model whose worlds are classes of worlds, world by world.
use Rattle.std.specs.Prelude.{◌≡◌, ℕ, ◌<◌, ◌⊎◌, ◌↔◌, Contains, List}
use Rattle.lw_formula.specs.FiniteModel.{FiniteModel, Sees, HasFact}
use Rattle.lw_bisim.specs.Quotient.{place_of}
use Rattle.lw_bisim.specs.Private.Classes.{HasClass}

-- class c sees the classes of these worlds too, and nothing else is new
pub record AddsSeen (places : List ℕ) (old : FiniteModel) (c : ℕ) (seen : List ℕ) (new : FiniteModel) : Type 0 where
  pub worlds : new.worlds ≡ old.worlds
  pub facts : new.facts ≡ old.facts
  pub sees : (a b : ℕ) → Sees new a b ↔ (Sees old a b ⊎ ((c ≡ a) × HasClass places seen b))

-- these letters are true at class c too, and nothing else is new
pub record AddsNames (old : FiniteModel) (c : ℕ) (names : List (List ℕ)) (new : FiniteModel) : Type 0 where
  pub worlds : new.worlds ≡ old.worlds
  pub pairs : new.pairs ≡ old.pairs
  pub facts : (a : ℕ) (p : List ℕ) → HasFact new a p ↔ (HasFact old a p ⊎ ((c ≡ a) × Contains names p))

-- one of the first i worlds is of class c and sees a world of class d
abbrev pub SeenBelow : FiniteModel → List ℕ → ℕ → ℕ → ℕ → Type 0
SeenBelow m places i c d = (v u : ℕ) × (v < i) × Sees m v u × (place_of places v ≡ c) × (place_of places u ≡ d)

-- one of the first i worlds is of class c, and the letter p is true there
abbrev pub FactBelow : FiniteModel → List ℕ → ℕ → ℕ → List ℕ → Type 0
FactBelow m places i c p = (v : ℕ) × (v < i) × HasFact m v p × (place_of places v ≡ c)

-- each class sees what those of it among the first i worlds see, and has their letters
pub record IsJoinedTo (m : FiniteModel) (places : List ℕ) (count i : ℕ) (joined : FiniteModel) : Type 0 where
  pub worlds : joined.worlds ≡ count
  pub sees : (c d : ℕ) → Sees joined c d ↔ SeenBelow m places i c d
  pub facts : (c : ℕ) (p : List ℕ) → HasFact joined c p ↔ FactBelow m places i c p
