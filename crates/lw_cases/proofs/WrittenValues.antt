-- Values that can be written: in a list with others, and where the pool grows.
use Rattle.std.proofs.Common.{◌≡◌, ℕ, ◌<◌, List, [], ◌∷◌, ◌++◌, length, get_or, map, sym, subst}
use Rattle.std.proofs.lemmas.List.{map-append}
use Rattle.lw_formula.specs.Formula.{Formula}
use Rattle.lw_pool.specs.declared.id.FormId.{FormId}
use Rattle.lw_pool.specs.Region.{Grows}
use Rattle.lw_value.specs.declared.value.Value.{Value}
use Rattle.lw_value.specs.Values.{Val, Vals, vals, AreLive, AreItemsLive}
use Rattle.lw_value.specs.Evidence.{HasWorld, HasWorlds, HaveWorlds}
use Rattle.lw_value.specs.Views.{value_of, values_of}
use Rattle.lw_value.proofs.GrowingPools.{live_grows, items_live_grow}
use Rattle.lw_value.proofs.ValuesTaken.{live-next, each-next}
use Rattle.lw_cases.specs.Values.{CanBeWritten, CanAllBeWritten}

live_last : (ts : List Formula) (vs : List (Val FormId)) (v : Val FormId) → AreItemsLive ts (vals vs) → AreLive ts v → AreItemsLive ts (vals (vs ++ v ∷ []))
live_last ts [] v live new = (new, tt)
live_last ts (w ∷ vs) v live new = (live.0, live_last ts vs v live.1 new)

worlds_last : (vs : List (Val FormId)) (v : Val FormId) → HaveWorlds (vals vs) → HasWorlds v → HaveWorlds (vals (vs ++ v ∷ []))
worlds_last [] v have new = (new, tt)
worlds_last (w ∷ vs) v have new = (have.0, worlds_last vs v have.1 new)

-- a value behind others
pub put_written : (ts : List Formula) (vs : List (Val FormId)) (v : Val FormId) → CanAllBeWritten ts (vals vs) → CanBeWritten ts v → CanAllBeWritten ts (vals (vs ++ v ∷ []))
put_written ts vs v all new = record { live = live_last ts vs v all.live new.live; worlds = worlds_last vs v all.worlds new.worlds }

pub put_value_written : (ts : List Formula) (xs : List Value) (x : Value) → CanAllBeWritten ts (values_of xs) → CanBeWritten ts (value_of x) → CanAllBeWritten ts (values_of (xs ++ x ∷ []))
put_value_written ts xs x all new = subst (λ vs. CanAllBeWritten ts (vals vs)) (sym (map-append value_of xs (x ∷ []))) (put_written ts (map value_of xs) (value_of x) all new)

-- a copy of a value behind others
pub copy_written : (ts : List Formula) (vs new : List (Val FormId)) (v copy : Val FormId) → new ≡ vs ++ copy ∷ [] → copy ≡ v → CanAllBeWritten ts (vals vs) → CanBeWritten ts v → CanAllBeWritten ts (vals new)
copy_written ts vs new v copy put same all can = subst (λ ws. CanAllBeWritten ts (vals ws)) (sym put) (put_written ts vs copy all (subst (CanBeWritten ts) (sym same) can))

-- one of some values
pub written_at : (ts : List Formula) (xs : List Value) (i : ℕ) (x : Value) → i < length xs → x ≡ get_or xs i x → CanAllBeWritten ts (values_of xs) → CanBeWritten ts (value_of x)
written_at ts xs i x lt is all = record { live = live-next ts xs i x lt is all.live; worlds = each-next HasWorld xs i x lt is all.worlds }

-- where the pool grows
pub written_grows : (old new : List Formula) (v : Val FormId) → Grows old new → CanBeWritten old v → CanBeWritten new v
written_grows old new v g can = record { live = live_grows old new v g can.live; worlds = can.worlds }

pub all_written_grow : (old new : List Formula) (vs : Vals FormId) → Grows old new → CanAllBeWritten old vs → CanAllBeWritten new vs
all_written_grow old new vs g can = record { live = items_live_grow old new vs g can.live; worlds = can.worlds }
