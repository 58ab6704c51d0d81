-- The weight that a list keeps.
use Rattle.std.specs.Prelude.{ℕ, List}
use Rattle.lw_value.specs.Values.{Val, vals, weights}

-- the weights of the values together
abbrev pub load : {A : Type 0} → List (Val A) → ℕ
load vs = weights (vals vs)
