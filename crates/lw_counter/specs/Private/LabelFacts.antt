-- The letters that labels say are true.
use Rattle.std.specs.Prelude.{◌≡◌, ℕ, ◌<◌, Contains, List}
use Rattle.lw_formula.specs.declared.sign.Sign.TheVariants.{T}
use Rattle.lw_formula.specs.Formula.{Formula, letter}
use Rattle.lw_closure.specs.Table.{Table, signed_of}
use Rattle.lw_counter.specs.Fragment.{Fragment, world_at}

-- the letter p stands among the items with the sign T
abbrev pub SaysTrue : List Formula → Table → List ℕ → List ℕ → Type 0
SaysTrue ts t items p = (i : ℕ) × Contains items i × (signed_of ts t i ≡ (T, letter p))

-- w is one of the first n worlds, and its label says that p is true
abbrev pub FactsBelow : List Formula → Table → Fragment → ℕ → ℕ → List ℕ → Type 0
FactsBelow ts t f n w p = (w < n) × SaysTrue ts t (world_at f w).label p
