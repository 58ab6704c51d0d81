-- What the reading of a world's line says, part by part.
use Rattle.std.specs.Prelude.{◌≡◌, ◌≢◌, ℕ, List, [], ◌∷◌, ◌++◌, ◌⊎◌, ◌↔◌, Contains, codes, ⊤}
use Rattle.lw_formula.specs.FiniteModel.{FiniteModel, Sees, HasFact}
use Rattle.lw_cert.specs.Lines.{Row, Climb, Rise, IsRow, numbers, words, world_text}

-- no byte is a space
abbrev pub IsSpaceless : List ℕ → Type 0
IsSpaceless [] = ⊤
IsSpaceless (b ∷ bytes) = (b ≢ 32) × IsSpaceless bytes

-- a word ends where these bytes begin
abbrev pub Ends : List ℕ → Type 0
Ends [] = ⊤
Ends (b ∷ bytes) = b ≡ 32

-- the bytes are a space, the word, and the next ones
pub record IsWord (bytes word next : List ℕ) : Type 0 where
  pub said : bytes ≡ 32 ∷ (word ++ next)
  pub spaceless : IsSpaceless word
  pub ends : Ends next

-- world w sees these worlds too, and nothing else is new
pub record AddsPairs (w : ℕ) (vs : List ℕ) (old new : FiniteModel) : Type 0 where
  pub worlds : new.worlds ≡ old.worlds
  pub relation : (u v : ℕ) → Sees new u v ↔ (Sees old u v ⊎ ((w ≡ u) × Contains vs v))
  pub facts : new.facts ≡ old.facts

-- these variables are true at world w too, and nothing else is new
pub record AddsFacts (w : ℕ) (ps : List (List ℕ)) (old new : FiniteModel) : Type 0 where
  pub worlds : new.worlds ≡ old.worlds
  pub pairs : new.pairs ≡ old.pairs
  pub facts : (u : ℕ) (p : List ℕ) → HasFact new u p ↔ (HasFact old u p ⊎ ((w ≡ u) × Contains ps p))

-- the bytes are the numbers of worlds, ascending from `least` on, and then ` true` before what stands behind it
pub record IsSeen (n least : ℕ) (bytes : List ℕ) (vs after : List ℕ) : Type 0 where
  pub climbs : Climb n least vs
  pub ends : Ends after
  pub said : bytes ≡ numbers vs (codes " true" ++ after)

-- the bytes are names, ascending behind `last`
pub record IsNamed (last bytes : List ℕ) (ps : List (List ℕ)) : Type 0 where
  pub rises : Rise last ps
  pub said : bytes ≡ words ps

-- the worlds that the bytes name were added; no other worlds with other bytes behind them have these bytes
pub record ReadsSeen (w : ℕ) (bytes after : List ℕ) (old new : FiniteModel) : Type 0 where
  pub seen : List ℕ
  pub is : IsSeen old.worlds 0 bytes seen after
  pub adds : AddsPairs w seen old new
  pub one : (vs other : List ℕ) → IsSeen old.worlds 0 bytes vs other → other ≡ after

-- the variables that the bytes name were added
pub record ReadsNames (w : ℕ) (bytes : List ℕ) (old new : FiniteModel) : Type 0 where
  pub names : List (List ℕ)
  pub is : IsNamed [] bytes names
  pub adds : AddsFacts w names old new

-- the row of world w was added
pub record AddsRow (w : ℕ) (row : Row) (old new : FiniteModel) : Type 0 where
  pub worlds : new.worlds ≡ old.worlds
  pub relation : (u v : ℕ) → Sees new u v ↔ (Sees old u v ⊎ ((w ≡ u) × Contains row.sees v))
  pub facts : (u : ℕ) (p : List ℕ) → HasFact new u p ↔ (HasFact old u p ⊎ ((w ≡ u) × Contains row.names p))

-- the bytes are the line of world w, whose row was added
pub record ReadsRow (w : ℕ) (bytes : List ℕ) (old new : FiniteModel) : Type 0 where
  pub row : Row
  pub is : IsRow old.worlds row
  pub said : bytes ≡ world_text w row
  pub adds : AddsRow w row old new

-- the bytes are no line of world w
abbrev pub IsNoRow : ℕ → ℕ → List ℕ → Type 0
IsNoRow n w bytes = (row : Row) → IsRow n row → bytes ≢ world_text w row

-- the numbers before the rest were read and added; what is left of a line is left of the rest
pub record HasPassed (w : ℕ) (bytes rest : List ℕ) (least : ℕ) (old now : FiniteModel) : Type 0 where
  pub seen : List ℕ
  pub said : bytes ≡ numbers seen rest
  pub climbs : (vs : List ℕ) → Climb old.worlds least vs → Climb old.worlds 0 (seen ++ vs)
  pub adds : AddsPairs w seen old now
  pub on : (vs other : List ℕ) → IsSeen old.worlds 0 bytes vs other → (us : List ℕ) × IsSeen old.worlds least rest us other

-- the same of names
pub record HasNamed (w : ℕ) (bytes rest last : List ℕ) (old now : FiniteModel) : Type 0 where
  pub names : List (List ℕ)
  pub said : bytes ≡ words names ++ rest
  pub rises : (ps : List (List ℕ)) → Rise last ps → Rise [] (names ++ ps)
  pub adds : AddsFacts w names old now
  pub on : (ps : List (List ℕ)) → IsNamed [] bytes ps → (qs : List (List ℕ)) × IsNamed last rest qs
