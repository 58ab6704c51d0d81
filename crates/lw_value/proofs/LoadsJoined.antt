-- The weights of values that are joined, and of values that are let go of.
use Rattle.std.proofs.Common.{◌≡◌, ◌+◌, ◌*◌, ◌≤◌, List, [], ◌∷◌, ◌++◌, map, arith}
use denote.Param.Weighed.{most}
use Rattle.lw_value.specs.declared.value.Value.{Value}
use Rattle.lw_value.specs.declared.value.Value.TheVariants as kind
use Rattle.lw_value.specs.declared.value.Items.TheDeep.{size-Value}
use Rattle.lw_value.specs.Values.{weight}
use Rattle.lw_value.specs.Views.{value_of}
use Rattle.lw_value.specs.Private.KeptWeight.{load}

pub load_append : (xs ys : List Value) → load (map value_of (xs ++ ys)) ≡ load (map value_of xs) + load (map value_of ys)
load_append [] ys = omega arith
load_append (x ∷ xs) ys = omega (arith, load_append xs ys)

pub load_last : (xs : List Value) (v : Value) → load (map value_of (xs ++ v ∷ [])) ≡ load (map value_of xs) + weight (value_of v)
load_last xs v = omega (arith, load_append xs (v ∷ []))

pub size_le-weight : (v : Value) → size-Value v ≤ 3 * weight (value_of v) + 1
size_le-weight (kind.Formula a) = omega arith
size_le-weight (kind.Truth b) = omega arith
size_le-weight (kind.Number n) = omega arith
size_le-weight (kind.Text bytes) = omega arith
size_le-weight (kind.Items vs) = omega arith
size_le-weight (kind.Logic l) = omega arith
size_le-weight (kind.Certificate c) = omega arith
size_le-weight kind.Nothing = omega arith

pub most_le-load : (vs : List Value) → most size-Value vs ≤ 3 * load (map value_of vs) + 1
most_le-load [] = omega arith
most_le-load (v ∷ vs) = omega (arith, size_le-weight v, most_le-load vs)
