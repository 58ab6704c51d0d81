-- The lengths of values that wait to be measured.
use Rattle.std.specs.Prelude.{ℕ, ◌+◌, ◌-◌, ◌*◌, List, [], ◌∷◌, length, codes, map, ⊤}
use Rattle.std.specs.Fmt.{decimal}
use Rattle.std.proofs.Common.{Bor}
use Rattle.lw_formula.specs.Logic.{word_of}
use Rattle.lw_formula.specs.Formula.{Formula}
use Rattle.lw_pool.specs.declared.id.FormId.{FormId}
use Rattle.lw_read.specs.Text.{text_of}
use Rattle.lw_value.specs.declared.value.Value.{Value}
use Rattle.lw_value.specs.Values.{Val, Vals, seen, AreLive, formula, truth, number, text, items, logic, certificate, naught, empty, item}
use Rattle.lw_value.specs.ValueTexts.{truth_text, count_of, measure_of}
use Rattle.lw_value.specs.Views.{value_of}

-- the length without that of the items
abbrev pub own_length : Val Formula → ℕ
own_length (formula a) = length (text_of a)
own_length (truth b) = length (truth_text b)
own_length (number n) = length (decimal n)
own_length (text bytes) = length bytes
own_length (items vs) = 2 + 2 * (count_of vs - 1)
own_length (logic l) = length (word_of l)
own_length (certificate l a e) = length (text_of a)
own_length naught = length (codes "none")

-- the values behind the references
abbrev pub values_under : List (Bor Value) → List (Val FormId)
values_under vs = map (λ v. value_of v.now) vs

-- the lengths together
abbrev pub length_left : List Formula → List (Val FormId) → ℕ
length_left ts [] = 0
length_left ts (v ∷ vs) = measure_of (seen ts v) + length_left ts vs

-- the pool has the ids of each
abbrev pub AreAllLive : List Formula → List (Val FormId) → Type 0
AreAllLive ts [] = ⊤
AreAllLive ts (v ∷ vs) = AreLive ts v × AreAllLive ts vs

-- the items, if it is a list
abbrev pub items_in : Vals FormId → List (Val FormId)
items_in empty = []
items_in (item v vs) = v ∷ items_in vs

abbrev pub items_of : Val FormId → List (Val FormId)
items_of (formula a) = []
items_of (truth b) = []
items_of (number n) = []
items_of (text bytes) = []
items_of (items vs) = items_in vs
items_of (logic l) = []
items_of (certificate l a e) = []
items_of naught = []
