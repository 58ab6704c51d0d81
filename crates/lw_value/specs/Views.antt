-- The value that a program's value stands for.
use Rattle.std.specs.Prelude.{ℕ, List, map, Option, None, Some}
use Rattle.std.proofs.Common.{Bor}
use Rattle.lw_pool.specs.declared.id.FormId.{FormId}
use Rattle.lw_value.specs.declared.value.Value.{Value}
use Rattle.lw_value.specs.declared.value.Value.TheVariants as kind
use Rattle.lw_value.specs.Values.{Val, Vals, vals, formula, truth, number, text, items, logic, naught}
use Rattle.lw_value.specs.Certified.{certified}

-- the value that the program's value stands for
abbrev pub value_of : Value → Val FormId
value_of (kind.Formula a) = formula a
value_of (kind.Truth b) = truth b
value_of (kind.Number n) = number n
value_of (kind.Text bytes) = text bytes.value
value_of (kind.Items vs) = items (vals vs)
value_of (kind.Logic l) = logic l
value_of (kind.Certificate c) = certified c.value
value_of kind.Nothing = naught

-- the values that the program's values stand for
abbrev pub values_of : List Value → Vals FormId
values_of vs = vals (map value_of vs)

-- the name and the value of a variable
abbrev pub assigned : List ℕ × Value → List ℕ × Val FormId
assigned p = (p.0, value_of p.1)

-- the value behind the reference, if there is one
abbrev pub value_under : Option (Bor Value) → Option (Val FormId)
value_under None = None
value_under (Some v) = Some (value_of v.now)
