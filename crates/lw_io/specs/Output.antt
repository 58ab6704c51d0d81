use Rattle.std.specs.Prelude.{◌≡◌, ℕ, List, ◌++◌, Option, option_map}
use Rattle.std.specs.Io.KnownBytes.{Appends}

-- where the output is told, it is the earlier output and then the whole piece
abbrev pub Adds : Option (List ℕ) → Option (List ℕ) → List ℕ → Type 0
Adds before now piece = now ≡ option_map (λ written. written ++ piece) before

-- where the output is told, it is the earlier output and then a first part of the piece
abbrev pub AddsPart : Option (List ℕ) → Option (List ℕ) → List ℕ → Type 0
AddsPart before now piece = (part : List ℕ) × (rest : List ℕ) × (piece ≡ part ++ rest) × Adds before now part

-- where a writer tells its bytes, they grow by a first part of the piece
abbrev pub AppendsPart : Option (List ℕ) → Option (List ℕ) → List ℕ → Type 0
AppendsPart before now piece = (part : List ℕ) × (rest : List ℕ) × (piece ≡ part ++ rest) × Appends before now part
