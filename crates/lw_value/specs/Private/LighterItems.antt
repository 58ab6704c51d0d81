-- The items of a list are lighter than the list.
use Rattle.std.specs.Prelude.{◌≤◌, List, [], ◌∷◌, map, None, Some}
use Rattle.std.proofs.Common.{arith}
use denote.Param.Weighed.{most}
use Rattle.lw_value.specs.declared.value.Value.{Value}
use Rattle.lw_value.specs.declared.value.Value.TheVariants as kind
use Rattle.lw_value.specs.declared.value.Items.TheDeep.{deep-Value, deep-Items}
use Rattle.lw_value.specs.declared.value.Items.TheInside.{Inside}
use Rattle.lw_value.specs.declared.value.Items.TheView.{view}
use Rattle.lw_value.specs.Values.{weight}
use Rattle.lw_value.specs.Views.{value_of}
use Rattle.lw_value.specs.Private.KeptWeight.{load}

pub deep_le-weight : (v : Value) → deep-Value v ≤ weight (value_of v)
deep_le-weight (kind.Formula a) = omega arith
deep_le-weight (kind.Truth b) = omega arith
deep_le-weight (kind.Number n) = omega arith
deep_le-weight (kind.Text bytes) = omega arith
deep_le-weight (kind.Items vs) = omega arith
deep_le-weight (kind.Logic l) = omega arith
deep_le-weight (kind.Certificate c) = omega arith
deep_le-weight kind.Nothing = omega arith

pub most_le-load : (vs : List Value) → most deep-Value vs ≤ load (map value_of vs)
most_le-load [] = omega arith
most_le-load (v ∷ vs) = omega (arith, deep_le-weight v, most_le-load vs)

pub deep_le-load : (a : Inside) → deep-Items a ≤ load (view a)
deep_le-load a = elim a.list as (λ l. deep-Items (record { list = l }) ≤ load (view (record { list = l }))) [
  | None ↦ omega arith
  | Some rc ↦ omega (arith, most_le-load rc.value.values.items)
]
