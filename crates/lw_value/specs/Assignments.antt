-- The variables of a script: names with values, in order of first assignment.
use Rattle.std.specs.Prelude.{◌≢◌, ℕ, List, [], ◌∷◌, map, AllPairs, Option, None, Some, if◌then◌else◌, ⊤}
use Rattle.std.specs.Str.{bytes_eq}
use Rattle.lw_formula.specs.Formula.{Formula}
use Rattle.lw_pool.specs.declared.id.FormId.{FormId}
use Rattle.lw_value.specs.Values.{Val, seen, AreLive}

-- the value that the name has, if it has one
abbrev pub value_at : {V : Type 0} → List (List ℕ × V) → List ℕ → Option V
value_at [] x = None
value_at (p ∷ ps) x = if bytes_eq x p.0 then Some p.1 else value_at ps x

-- the variables after the name is given the value: a name that is there keeps its place, a new one comes last
abbrev pub put : {V : Type 0} → List (List ℕ × V) → List ℕ → V → List (List ℕ × V)
put [] x v = (x, v) ∷ []
put (p ∷ ps) x v = if bytes_eq x p.0 then (p.0, v) ∷ ps else p ∷ put ps x v

-- no name stands twice
abbrev pub HaveOwnNames : {V : Type 0} → List (List ℕ × V) → Type 0
HaveOwnNames ps = AllPairs (λ x y. x ≢ y) (map (λ p. p.0) ps)

-- the variables with the formulas of their values' ids
abbrev pub variables_seen : List Formula → List (List ℕ × Val FormId) → List (List ℕ × Val Formula)
variables_seen ts ps = map (λ p. (p.0, seen ts p.1)) ps

-- the pool has each id of the variables' values
abbrev pub AreVariablesLive : List Formula → List (List ℕ × Val FormId) → Type 0
AreVariablesLive ts [] = ⊤
AreVariablesLive ts (p ∷ ps) = AreLive ts p.1 × AreVariablesLive ts ps
