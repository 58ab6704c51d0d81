-- The frames of a path taken off one by one.
use Rattle.std.proofs.Common.{◌≡◌, ℕ, ◌<◌, ◌≤◌, Bool, List, [], ◌∷◌, ◌++◌, sym, ap, subst, arith}
use Rattle.lw_pool.specs.declared.id.SignedId.{SignedId}
use Rattle.lw_proof.specs.System.{Set}
use Rattle.lw_proof.specs.Tree.{Tree}
use Rattle.lw_closure.specs.Table.{Table}
use Rattle.lw_sat.specs.declared.board.Board.{Board}
use Rattle.lw_sat.specs.declared.frame.Frame.{Frame}
use Rattle.lw_sat.specs.declared.frame.Folded.TheVariants.{Closed, Turned}
use Rattle.lw_sat.specs.Sets.{top, weights, lower}
use Rattle.lw_sat.specs.Closing.{Closes}
use Rattle.lw_sat.specs.SeedPath.{Spot, root, spot_of, Chain, ClosesAbove, FoldsTo, IsClosedAt, IsWide, Link, room_below}
use Rattle.lw_sat.specs.Saturated.{IsAt, IsClosing, room}
use Rattle.lw_sat.proofs.PathEnds.{chain_off, chain_on}
use Rattle.lw_sat.proofs.UsedItems.{rests_closes}

module _ (t : Table) (X : Set ℕ) (test : Set ℕ → Bool) where
  -- the last frame leads to what the proof closes
  pub last_link : (fs : List Frame) (f : Frame) (b : Board) (p : Tree SignedId) (h : IsClosing t X test (fs ++ f ∷ []) b p) →
      (a : Spot) × Chain t test (root X) fs a × Link t test a f h.spot
  last_link fs f b p h = chain_off t test fs f (root X) h.spot h.leads

  pub closes_above : (fs : List Frame) (f : Frame) (b : Board) (p : Tree SignedId) → IsClosing t X test (fs ++ f ∷ []) b p → ClosesAbove t f b p
  closes_above fs f b p h = let l = last_link fs f b p h in (test, l.0, h.spot, l.2, h.closed)

  module _ (fs : List Frame) (f : Frame) (b c : Board) (p : Tree SignedId) (h : IsClosing t X test (fs ++ f ∷ []) b p) (bits : c.bits ≡ b.bits) where
    still_wide : IsWide t c
    still_wide = let w = h.wide in omega arith

    -- a rule whose premises are closed
    pub folded_closed : (q : Tree SignedId) → ((a d : Spot) → Link t test a f d → IsClosedAt t d b p → FoldsTo t test a d c (Closed q)) → IsClosing t X test fs c q
    folded_closed q folds =
        let l = last_link fs f b p h in
        record { wide = still_wide; seed = h.seed; spot = l.0; leads = l.1; closed = (folds l.0 h.spot l.2 h.closed).0 }

    pub room_closed : (q : Tree SignedId) → ((a d : Spot) → Link t test a f d → IsClosedAt t d b p → FoldsTo t test a d c (Closed q)) → room_below c.bits (spot_of c) ≤ room_below b.bits (spot_of b)
    room_closed q folds =
        let l = last_link fs f b p h in
        let r = folds l.0 h.spot l.2 h.closed in
        let new : weights c.bits (lower c.labels) ≡ weights c.bits l.0.below = ap (weights c.bits) r.0.below in
        let old : weights b.bits (lower b.labels) ≡ weights c.bits h.spot.below = (λ i. weights (sym bits i) (h.closed.below i)) in
        omega (arith, r.1)

    -- a rule whose other premise is under work
    pub folded_turned : (g : Frame) → ((a d : Spot) → Link t test a f d → IsClosedAt t d b p → FoldsTo t test a d c (Turned g)) → IsAt t X test (fs ++ g ∷ []) c
    folded_turned g folds =
        let l = last_link fs f b p h in
        let r = folds l.0 h.spot l.2 h.closed in
        record { wide = still_wide; seed = h.seed; leads = chain_on t test fs g (root X) l.0 (spot_of c) l.1 r.link; passes = r.passes }

    pub room_turned : (g : Frame) → ((a d : Spot) → Link t test a f d → IsClosedAt t d b p → FoldsTo t test a d c (Turned g)) → room c < room_below b.bits (spot_of b)
    room_turned g folds =
        let l = last_link fs f b p h in
        let r = folds l.0 h.spot l.2 h.closed in
        let old : weights b.bits (lower b.labels) ≡ weights c.bits h.spot.below = (λ i. weights (sym bits i) (h.closed.below i)) in
        omega (arith, r.falls)

  -- with no frame left the proof closes the seed
  pub all_closed : (b : Board) (p : Tree SignedId) → IsClosing t X test [] b p → IsClosedAt t (root X) b p
  all_closed b p h = subst (λ s. IsClosedAt t s b p) (sym h.leads) h.closed

-- what closes the seed by some of its items closes it
pub seed_closed : (t : Table) (X : Set ℕ) (b : Board) (p : Tree SignedId) → IsClosedAt t (root X) b p → Closes t X p
seed_closed t X b p h = rests_closes t (top b.labels) X p h.rests
