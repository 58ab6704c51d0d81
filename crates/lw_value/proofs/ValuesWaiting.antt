-- Taking the last of the values that wait, and putting its items in its place.
use Rattle.std.proofs.Common.{◌≡◌, ◌+◌, ◌<◌, List, [], ◌∷◌, ◌++◌, refl, sym, ap, ◌∙◌, subst, arith, Bor}
use Rattle.lw_formula.specs.Formula.{Formula}
use Rattle.lw_pool.specs.declared.id.FormId.{FormId}
use Rattle.lw_value.specs.declared.value.Value.{Value}
use Rattle.lw_value.specs.Values.{Val, vals, seen, AreLive, items}
use Rattle.lw_value.specs.Views.{value_of}
use Rattle.lw_value.specs.Private.KeptWeight.{load}
use Rattle.lw_value.specs.Private.LengthsLeft.{own_length, length_left, AreAllLive, items_of, values_under}
use Rattle.lw_value.proofs.LengthsAdded.{sum-next, live-next, load-next, live-last, items-behind}

under-append : (xs ys : List (Bor Value)) → values_under (xs ++ ys) ≡ values_under xs ++ values_under ys
under-append [] ys = refl
under-append (x ∷ xs) ys = ap (λ vs. value_of x.now ∷ vs) (under-append xs ys)

module _ (before rest : List (Bor Value)) (v : Bor Value) (last : before ≡ rest ++ v ∷ []) where
  pub under-last : values_under before ≡ values_under rest ++ value_of v.now ∷ []
  under-last = ap values_under last ∙ under-append rest (v ∷ [])

  pub live-under : (ts : List Formula) → AreAllLive ts (values_under before) → AreLive ts (value_of v.now)
  live-under ts live = live-last ts (values_under rest) (value_of v.now) (subst (AreAllLive ts) under-last live)

  module _ (after : List (Bor Value)) (put : values_under after ≡ values_under rest ++ items_of (value_of v.now)) where
    pub live-kept : (ts : List Formula) → AreAllLive ts (values_under before) → AreAllLive ts (values_under after)
    live-kept ts live = subst (AreAllLive ts) (sym put) (live-next ts (values_under rest) (value_of v.now) (subst (AreAllLive ts) under-last live))

    pub load-falls : load (values_under after) < load (values_under before)
    load-falls = omega (arith, ap load under-last, ap load put, load-next (values_under rest) (value_of v.now))

    pub length-after : (ts : List Formula) → length_left ts (values_under before) ≡ length_left ts (values_under after) + own_length (seen ts (value_of v.now))
    length-after ts = omega (arith, ap (length_left ts) under-last, ap (length_left ts) put, sum-next ts (values_under rest) (value_of v.now))

  pub length-before : (ts : List Formula) → length_left ts (values_under before) ≡ length_left ts (values_under rest ++ items_of (value_of v.now)) + own_length (seen ts (value_of v.now))
  length-before ts = omega (arith, ap (length_left ts) under-last, sum-next ts (values_under rest) (value_of v.now))

-- the items of a list behind what waits
pub put-items : (v : Val FormId) (vs : List (Val FormId)) (after rest : List (Val FormId)) → v ≡ items (vals vs) → after ≡ rest ++ vs → after ≡ rest ++ items_of v
put-items v vs after rest is put = put ∙ ap (λ ws. rest ++ ws) (sym (items-behind v vs is))
