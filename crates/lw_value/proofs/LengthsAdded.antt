-- The length of a list is that of its own signs with those of its items.
use Rattle.std.proofs.Common.{◌≡◌, ◌+◌, ◌<◌, List, [], ◌∷◌, ◌++◌, length, refl, ap, ◌∙◌, arith}
use Rattle.lw_formula.specs.Formula.{Formula}
use Rattle.lw_pool.specs.declared.id.FormId.{FormId}
use Rattle.lw_pool.specs.Region.{tree_at}
use Rattle.lw_value.specs.Values.{Val, Vals, vals, weight, weights, shown_all, seen, AreLive, EachOfItems, formula, truth, number, text, items, logic, certificate, naught, empty, item}
use Rattle.lw_value.specs.ValueTexts.{count_of, measure_of, total_of}
use Rattle.lw_value.specs.Private.KeptWeight.{load}
use Rattle.lw_value.specs.Private.LengthsLeft.{own_length, length_left, AreAllLive, items_in, items_of}

pub count-shown : (f : FormId → Formula) (vs : List (Val FormId)) → count_of (shown_all f (vals vs)) ≡ length vs
count-shown f [] = refl
count-shown f (v ∷ vs) = omega (arith, count-shown f vs)

pub items_in-vals : (vs : List (Val FormId)) → items_in (vals vs) ≡ vs
items_in-vals [] = refl
items_in-vals (v ∷ vs) = ap (λ ws. v ∷ ws) (items_in-vals vs)

pub items-behind : (v : Val FormId) (vs : List (Val FormId)) → v ≡ items (vals vs) → items_of v ≡ vs
items-behind v vs is = ap items_of is ∙ items_in-vals vs

total-items : (ts : List Formula) (vs : Vals FormId) → total_of (shown_all (tree_at ts) vs) ≡ length_left ts (items_in vs)
total-items ts empty = refl
total-items ts (item v vs) = omega (arith, total-items ts vs)

pub measure-parts : (ts : List Formula) (v : Val FormId) → measure_of (seen ts v) ≡ own_length (seen ts v) + length_left ts (items_of v)
measure-parts ts (formula a) = omega arith
measure-parts ts (truth b) = omega arith
measure-parts ts (number n) = omega arith
measure-parts ts (text bytes) = omega arith
measure-parts ts (items vs) = omega (arith, total-items ts vs)
measure-parts ts (logic l) = omega arith
measure-parts ts (certificate l a e) = omega arith
measure-parts ts naught = omega arith

pub length_left-append : (ts : List Formula) (vs ws : List (Val FormId)) → length_left ts (vs ++ ws) ≡ length_left ts vs + length_left ts ws
length_left-append ts [] ws = omega arith
length_left-append ts (v ∷ vs) ws = omega (arith, length_left-append ts vs ws)

live-in : (ts : List Formula) (vs : Vals FormId) → EachOfItems (λ a. a.0 < length ts) vs → AreAllLive ts (items_in vs)
live-in ts empty live = tt
live-in ts (item v vs) live = (live.0, live-in ts vs live.1)

pub live-items : (ts : List Formula) (v : Val FormId) → AreLive ts v → AreAllLive ts (items_of v)
live-items ts (formula a) live = tt
live-items ts (truth b) live = tt
live-items ts (number n) live = tt
live-items ts (text bytes) live = tt
live-items ts (items vs) live = live-in ts vs live
live-items ts (logic l) live = tt
live-items ts (certificate l a e) live = tt
live-items ts naught live = tt

pub live-append : (ts : List Formula) (vs ws : List (Val FormId)) → AreAllLive ts vs → AreAllLive ts ws → AreAllLive ts (vs ++ ws)
live-append ts [] ws first second = second
live-append ts (v ∷ vs) ws first second = (first.0, live-append ts vs ws first.1 second)

pub live-first : (ts : List Formula) (vs ws : List (Val FormId)) → AreAllLive ts (vs ++ ws) → AreAllLive ts vs
live-first ts [] ws live = tt
live-first ts (v ∷ vs) ws live = (live.0, live-first ts vs ws live.1)

pub live-last : (ts : List Formula) (vs : List (Val FormId)) (v : Val FormId) → AreAllLive ts (vs ++ v ∷ []) → AreLive ts v
live-last ts [] v live = live.0
live-last ts (w ∷ vs) v live = live-last ts vs v live.1

load-in : (vs : Vals FormId) → load (items_in vs) ≡ weights vs
load-in empty = refl
load-in (item v vs) = omega (arith, load-in vs)

pub lighter-items : (v : Val FormId) → load (items_of v) < weight v
lighter-items (formula a) = omega arith
lighter-items (truth b) = omega arith
lighter-items (number n) = omega arith
lighter-items (text bytes) = omega arith
lighter-items (items vs) = omega (arith, load-in vs)
lighter-items (logic l) = omega arith
lighter-items (certificate l a e) = omega arith
lighter-items naught = omega arith

pub load-append : (vs ws : List (Val FormId)) → load (vs ++ ws) ≡ load vs + load ws
load-append [] ws = omega arith
load-append (v ∷ vs) ws = omega (arith, load-append vs ws)

-- what is counted with the value that is next, and what is left behind it
pub sum-next : (ts : List Formula) (vs : List (Val FormId)) (v : Val FormId) → length_left ts (vs ++ v ∷ []) ≡ length_left ts (vs ++ items_of v) + own_length (seen ts v)
sum-next ts vs v = omega (arith, length_left-append ts vs (v ∷ []), length_left-append ts vs (items_of v), measure-parts ts v)

pub live-next : (ts : List Formula) (vs : List (Val FormId)) (v : Val FormId) → AreAllLive ts (vs ++ v ∷ []) → AreAllLive ts (vs ++ items_of v)
live-next ts vs v live = live-append ts vs (items_of v) (live-first ts vs (v ∷ []) live) (live-items ts v (live-last ts vs v live))

pub load-next : (vs : List (Val FormId)) (v : Val FormId) → load (vs ++ items_of v) < load (vs ++ v ∷ [])
load-next vs v = omega (arith, load-append vs (v ∷ []), load-append vs (items_of v), lighter-items v)
