-- From a closed seed to the label below it.
use Rattle.std.proofs.Common.{◌≡◌, ℕ, suc, ◌+◌, ◌-◌, ◌*◌, ◌<◌, ◌≤◌, Bool, true, false, cond, max, Option, Some, None, Result, Ok, Err, IfOk, OnOk, List, [], ◌∷◌, ◌++◌, length, sym, ap, subst, ◌∙◌, arith}
use Rattle.std.specs.Option.{IfNone}
use Rattle.std.proofs.Math.Nat.{mul-le-mul_right}
use Rattle.lw_pool.specs.declared.id.SignedId.{SignedId}
use Rattle.lw_proof.specs.declared.rule.Rule.{Rule}
use Rattle.lw_proof.specs.System.{Set}
use Rattle.lw_proof.specs.Tree.{Tree, node, none, more}
use Rattle.lw_proof.specs.Derivation.{is_nu}
use Rattle.lw_proof.specs.Lean.{own_steps, steps}
use Rattle.lw_closure.specs.Table.{Table, entry_at, item_at, item_count}
use Rattle.lw_counter.specs.Fragment.{cut_to}
use Rattle.lw_sat.specs.declared.board.Board.{Board}
use Rattle.lw_sat.specs.Closing.{Closes, Rests}
use Rattle.lw_sat.specs.SeedPath.{most_steps, room_below, spot_of, Becomes}
use Rattle.lw_sat.specs.Saturated.{fold_steps, room, IsClosing, Unwinds}
use Rattle.lw_sat.specs.Sets.{top, weights}
use Rattle.lw_sat.proofs.BoardSpots.{kept_of, lower_of, set_of}
use Rattle.lw_sat.proofs.UnwoundFrames.{seed_closed}
use Rattle.lw_sat.proofs.UsedItems.{rests_as}
use Rattle.lw_search.specs.declared.level.Level.{Level}
use Rattle.lw_search.specs.declared.level.Search.{Search}
use Rattle.lw_search.specs.Private.SearchLevels.{Aim, IsFallen, IsUnderWork, Nested, Place, Stands, Waits, child_room, fallen_room, held_room, label, start, unit, waiting_room, work_room}
use Rattle.lw_search.specs.Private.StepUse.{step_rule, used_step}
use Rattle.lw_search.specs.Private.SearchTurns.{ClosesStep, FallFits, ReopensOrCloses}
use Rattle.lw_search.proofs.SearchSums.{unit_is}
use Rattle.lw_search.proofs.WaitingLevels.{held_on, nested_off}
use Rattle.lw_search.proofs.StepSeeds.{rests_step}
use Rattle.lw_search.proofs.NextStates.{label_items}

-- the rule of a step counts for one Step at most
one_step : (t : Table) (item : ℕ) → own_steps (step_rule t item) ≤ 1
one_step t item = by (is_nu (entry_at t item).parts) where
  by : (b : Bool) → own_steps (cond b Rule.Serial Rule.Step) ≤ 1
  by true = omega arith
  by false = omega arith

-- the label of a level that waits is closed by a step
module _ (t : Table) (aim : Aim) (a b : Place) (l : Level) (u : Board) (p : Tree SignedId) (h : ClosesStep t aim a l b u p) where
  abbrev w : Waits t aim a l b
  w = h.waits

  step_rests : Rests t (used_step t (label l) l.item w.inner (top u.labels)) (label l) (node (step_rule t l.item) (item_at t l.item) (more p none))
  step_rests =
      rests_step t h.guides.table h.guides.uncut (label l) (label_items t a.seed (aim.rank a.path a.left) l w.serves.at) l.item w.inner (top u.labels) p (w.asks.items l.item w.asks.there) w.asks.there w.asks.steps
      (subst (λ (X : Set ℕ). Rests t (top u.labels) X p) (ap (λ (x : Place). x.seed) w.next) h.closed.rests)

  pub steps_left : steps p ≤ b.left → (q : Tree SignedId) → q ≡ node (step_rule t l.item) (item_at t l.item) (more p none) → steps q ≤ a.left
  steps_left few q e =
      let left = ap (λ (x : Place). x.left) w.next in
      let falls = h.guides.falls a.path a.left (label l) l.item w.inner l.world w.serves.at.passes w.asks in
      let same = ap steps e in
      let own = one_step t l.item in
      omega (arith, falls.0, left, same, own)

  module _ (m : Board) (q : Tree SignedId) (becomes : Becomes l.board m (record (spot_of l.board) { set = used_step t (label l) l.item w.inner (top u.labels) })) (e : q ≡ node (step_rule t l.item) (item_at t l.item) (more p none)) where
    pub step_closes : IsClosing t a.seed (aim.rank a.path a.left) l.frames.items m q
    step_closes = record {
      wide = (let wide = w.serves.at.wide in let bits = becomes.bits in omega arith);
      seed = w.serves.at.seed;
      spot = spot_of l.board;
      leads = w.serves.at.leads;
      closed = record {
        below = lower_of l.board m _ becomes;
        kept = kept_of l.board m _ becomes;
        rests = rests_as t (top m.labels) (used_step t (label l) l.item w.inner (top u.labels)) (label l) q (node (step_rule t l.item) (item_at t l.item) (more p none)) (set_of l.board m _ becomes) e step_rests;
      };
    }

    pub reopens_or_closes : {E : Type 0} (n : Level) (r : Result (Option (Tree SignedId)) E) → n.parent ≡ l.parent → IfOk r (Unwinds t l.frames.items m q n.frames.items n.board) →
        OnOk r (n.board.bits ≡ m.bits) → IfOk r (λ found. IfNone found (room n.board < room_below m.bits (spot_of m))) → IfOk r (λ found. fold_steps n.frames.items found ≤ max (most_steps l.frames.items) (steps q)) →
        steps p ≤ b.left → IfOk r (ReopensOrCloses t aim a l n)
    reopens_or_closes n (Err x) parent folds bits falls few left = tt
    reopens_or_closes n (Ok None) parent folds bits falls few left =
        let held = w.serves.steps in
        let own = steps_left left q e in
        let same : room_below m.bits (spot_of m) ≡ room_below l.board.bits (spot_of l.board) = (λ i. weights (becomes.bits i) (lower_of l.board m _ becomes i)) in
        (folds a.seed (aim.rank a.path a.left) step_closes, omega (arith, few, held, own), parent, omega (arith, falls, same))
    reopens_or_closes n (Ok (Some r)) parent folds bits falls few left =
        let held = w.serves.steps in
        let own = steps_left left q e in
        let wide = w.serves.at.wide in
        (omega (arith, bits, becomes.bits, wide), folds a.seed (aim.rank a.path a.left) step_closes, omega (arith, few, held, own))

-- what one level that falls comes to: the level below it is under work, or its seed is closed too
abbrev pub FallGoesOn : Table → Aim → Search → Search → Option (Tree SignedId) → Type 0
FallGoesOn t aim old new None = FallFits t aim old new None
FallGoesOn t aim old new (Some p) = IsFallen t aim new p × (fallen_room t aim.bound new ≤ fallen_room t aim.bound old)

room_opens : (held r b u x : ℕ) → r < b → 1 ≤ u → held + r * u < held + (b * u + x)
room_opens held r b u x l some = (let less : suc r * u ≤ b * u = mul-le-mul_right u l in omega (arith, less))

module _ (t : Table) (aim : Aim) (old s : Search) (p : Tree SignedId) (so_far : FallGoesOn t aim old s (Some p)) (ls : List Level) (l : Level) (below : s.below.items ≡ ls ++ l ∷ []) where
  abbrev h : IsFallen t aim s p
  h = so_far.0

  dropped : (a : Place) × Nested t aim (start aim) ls a × Waits t aim a l h.stands.place
  dropped = nested_off t aim ls l (start aim) h.stands.place (subst (λ ks. Nested t aim (start aim) ks h.stands.place) below h.stands.nested)

  pub step_closed : (a : Place) × (b : Place) × ClosesStep t aim a l b s.level.board p
  step_closed = (dropped.0, h.stands.place, record { guides = h.stands.guides; waits = dropped.2; closed = h.closed })

  cut_fragment : cut_to l.world s.fragment ≡ dropped.0.fragment
  cut_fragment = ap (cut_to l.world) h.stands.fragment ∙ dropped.2.serves.back

  held_is : fallen_room t aim.bound s ≡ held_room (item_count t) aim.bound ls + waiting_room (item_count t) (aim.bound - length ls) l
  held_is = ap (held_room (item_count t) aim.bound) below ∙ held_on (item_count t) aim.bound ls l

  -- the search n goes on at the level, with the fragment cut to its worlds
  module _ (n : Search) (e : n.below.items ≡ ls) (fragment : n.fragment ≡ cut_to l.world s.fragment) where
    abbrev stands : Stands t aim n.below.items n.fragment
    stands = record {
      guides = h.stands.guides;
      place = dropped.0;
      nested = subst (λ ks. Nested t aim (start aim) ks dropped.0) (sym e) dropped.1;
      is_place = dropped.2.serves.place;
      fragment = fragment ∙ cut_fragment;
    }

    opened : ReopensOrCloses t aim dropped.0 l n.level None → IsUnderWork t aim n
    opened opens = record { stands = stands; at = opens.0; steps = opens.1; parent = opens.2 ∙ dropped.2.serves.parent }

    opened_room : ReopensOrCloses t aim dropped.0 l n.level None → work_room t aim.bound n < fallen_room t aim.bound old
    opened_room opens =
        let k = aim.bound - length ls in
        let some = unit_is (item_count t) k in
        let new : work_room t aim.bound n ≡ held_room (item_count t) aim.bound ls + room n.level.board * unit (item_count t) k =
        (λ i. held_room (item_count t) aim.bound (e i) + room n.level.board * unit (item_count t) (aim.bound - length (e i))) in
        let less = room_opens (held_room (item_count t) aim.bound ls) (room n.level.board) (room_below l.board.bits (spot_of l.board)) (unit (item_count t) k) ((item_count t - (l.item + 1)) * child_room (item_count t) k) opens.3 (omega (arith, some)) in
        omega (arith, held_is, new, less, so_far.1)

    fallen : (q : Tree SignedId) → ReopensOrCloses t aim dropped.0 l n.level (Some q) → IsFallen t aim n q
    fallen q closes = record { stands = stands; wide = closes.0; closed = closes.1; steps = closes.2 }

    onward : (found : Option (Tree SignedId)) → ReopensOrCloses t aim dropped.0 l n.level found → FallGoesOn t aim old n found
    onward None opens = (opened opens, opened_room opens)
    onward (Some q) closes = (fallen q closes, (let same = ap (held_room (item_count t) aim.bound) e in omega (arith, held_is, same, so_far.1)))

    -- where closing its label came to that, whatever the search is after
    pub goes_on : (found : Option (Tree SignedId)) →
        ((aim : Aim) (a b : Place) → ClosesStep t aim a l b s.level.board p → steps p ≤ b.left → ReopensOrCloses t aim a l n.level found) → FallGoesOn t aim old n found
    unfolding dropped step_closed
    goes_on found closed = onward found (closed aim dropped.0 h.stands.place step_closed.2 h.steps)

-- no level is left: the first seed is closed
pub all_fallen : (t : Table) (aim : Aim) (s : Search) (p : Tree SignedId) → IsFallen t aim s p → s.below.items ≡ [] → Closes t aim.seed p × (steps p ≤ aim.bound)
all_fallen t aim s p h e =
    let at_start : start aim ≡ h.stands.place = subst (λ ls. Nested t aim (start aim) ls h.stands.place) e h.stands.nested in
    let left = ap (λ (x : Place). x.left) at_start in
    (subst (λ (X : Set ℕ). Closes t X p) (sym (ap (λ (x : Place). x.seed) at_start)) (seed_closed t h.stands.place.seed s.level.board p h.closed), (let few = h.steps in omega (arith, few, left)))
