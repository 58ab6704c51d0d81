-- The truth of letterless formulas in GL by the heights of worlds (Boolos, The Logic of Provability, chapter 7).
use Rattle.std.specs.Prelude.{ℕ, Bool, true, false, ◌&&◌, ◌||◌, not, List}
use Rattle.std.specs.Bool.{beq}
use Rattle.std.specs.List.{filter, list_all, list_any, range_with_len}
use Rattle.lw_formula.specs.Formula.{Formula, letter, falsum, verum, neg, conj, disj, impl, equi, nec, poss, depth}
use Rattle.lw_formula.specs.Variables.{Occurs}

-- the formula has no variables
abbrev pub IsLetterless : Formula → Type 0
IsLetterless a = (p : List ℕ) → ¬ Occurs p a

-- the numbers below n, ascending
abbrev pub heights_below : ℕ → List ℕ
heights_below n = range_with_len 0 n

-- whether the letterless formula is true at the worlds of height n: the truth tables, `box` at all heights below n, and
-- `dia` at some. A letter is read as `false`, of which no law speaks
abbrev pub holds_at : Formula → ℕ → Bool
holds_at (letter p) n = false
holds_at falsum n = false
holds_at verum n = true
holds_at (neg a) n = not (holds_at a n)
holds_at (conj a b) n = holds_at a n && holds_at b n
holds_at (disj a b) n = holds_at a n || holds_at b n
holds_at (impl a b) n = not (holds_at a n) || holds_at b n
holds_at (equi a b) n = beq (holds_at a n) (holds_at b n)
holds_at (nec a) n = list_all (holds_at a) (heights_below n)
holds_at (poss a) n = list_any (holds_at a) (heights_below n)

-- the truth value from the modal depth on
abbrev pub rest : Formula → Bool
rest a = holds_at a (depth a)

-- the heights below the modal depth, ascending, at which the truth value is the other one
abbrev pub exceptions : Formula → List ℕ
exceptions a = filter (λ n. not (beq (holds_at a n) (rest a))) (heights_below (depth a))

-- a truth value at all heights but the listed ones, and the other one there
pub record TruthByHeight : Type 0 where
  pub rest : Bool
  pub heights : List ℕ

-- the trace of a letterless formula
abbrev pub trace_of : Formula → TruthByHeight
trace_of a = record { rest = rest a; heights = exceptions a }
