-- Work on the last label: it is unclosed, or its seed is closed.
use Rattle.std.proofs.Common.{◌≡◌, ℕ, ◌+◌, ◌-◌, ◌*◌, ◌≤◌, Bool, Option, Some, None, Result, Ok, Err, IfOk, OnOk, List, [], ◌∷◌, length, refl, ◌∙◌, arith}
use Rattle.std.specs.Option.{IfNone}
use Rattle.std.proofs.Math.Nat.{mul-le-mul_right}
use Rattle.lw_pool.specs.declared.id.SignedId.{SignedId}
use Rattle.lw_proof.specs.System.{Set}
use Rattle.lw_proof.specs.Tree.{Tree}
use Rattle.lw_closure.specs.Table.{Table, item_count}
use Rattle.lw_sat.specs.declared.board.Board.{Board}
use Rattle.lw_sat.specs.declared.frame.Frame.{Frame}
use Rattle.lw_sat.specs.declared.frame.Frame.TheVariants.{Alone, First, Second}
use Rattle.lw_sat.specs.Course.{RunFits, Runs}
use Rattle.lw_sat.specs.SeedPath.{Spot, Chain, Link, most_steps, root, spot_of}
use Rattle.lw_sat.specs.Saturated.{every, fold_steps, room, IsAt, IsClosing}
use Rattle.lw_search.specs.declared.level.Level.{Level}
use Rattle.lw_search.specs.declared.level.Search.{Search}
use Rattle.lw_search.specs.Private.SearchLevels.{Aim, IsUnderWork, held_room, unit}
use Rattle.lw_search.specs.Private.SearchTurns.{WorkFits}

-- what a test tells of, the test of every set tells of
link_every : (t : Table) (test : Set ℕ → Bool) (f : Frame) (a b : Spot) → Link t test a f b → Link t every a f b
link_every t test (Alone rule item s) a b l = l
link_every t test (First rule item p q) a b l = (l.0, refl, l.2)
link_every t test (Second rule item p q proof) a b l = l

chain_every : (t : Table) (test : Set ℕ → Bool) (fs : List Frame) (a b : Spot) → Chain t test a fs b → Chain t every a fs b
chain_every t test [] a b h = h
chain_every t test (f ∷ fs) a b h = (h.0, link_every t test f a h.0 h.1, chain_every t test fs h.0 b h.2)

pub at_every : {t : Table} {X : Set ℕ} {test : Set ℕ → Bool} {fs : List Frame} {b : Board} → IsAt t X test fs b → IsAt t X every fs b
at_every {t} {X} {test} {fs} {b} h = record { wide = h.wide; seed = h.seed; leads = chain_every t test fs (root X) (spot_of b) h.leads; passes = refl }

pub closing_every : {t : Table} {X : Set ℕ} {test : Set ℕ → Bool} {fs : List Frame} {b : Board} {p : Tree SignedId} → IsClosing t X test fs b p → IsClosing t X every fs b p
closing_every {t} {X} {test} {fs} {b} {p} h =
    record { wide = h.wide; seed = h.seed; spot = h.spot; leads = chain_every t test fs (root X) h.spot h.leads; closed = h.closed }

-- from what a run of the last level's frames and board, which leaves the level n, ensures
module _ (t : Table) (aim : Aim) (s : Search) (h : IsUnderWork t aim s) (n : Level) (parent : n.parent ≡ s.level.parent) where
  no_more : (held a b u : ℕ) → a * u ≤ b * u → held + a * u ≤ held + b * u
  no_more held a b u less = omega arith

  fitting : (found : Option (Tree SignedId)) → Runs t s.level.frames.items s.level.board n.frames.items n.board found →
      RunFits t h.stands.place.seed (aim.rank h.stands.place.path h.stands.place.left) n.frames.items n.board found
  fitting found fits = fits h.stands.place.seed (aim.rank h.stands.place.path h.stands.place.left) (h.stands.guides.goes_on h.stands.place.path h.stands.place.left) h.at

  pub worked : {E : Type 0} (r : Result (Option (Tree SignedId)) E) → IfOk r (Runs t s.level.frames.items s.level.board n.frames.items n.board) →
      OnOk r (n.board.bits ≡ s.level.board.bits) → IfOk r (λ found. IfNone found (room n.board ≤ room s.level.board)) → IfOk r (λ found. fold_steps n.frames.items found ≤ most_steps s.level.frames.items) →
      IfOk r (WorkFits t aim s (record s { level = n }))
  worked (Err e) fits bits falls few = tt
  worked (Ok None) fits bits falls few = (
    record {
      stands = h.stands;
      at = (fitting None fits).0;
      steps = (let all = h.steps in omega arith);
      parent = parent ∙ h.parent;
    },
    (fitting None fits).1,
    let u = unit (item_count t) (aim.bound - length s.below.items) in
        no_more (held_room (item_count t) aim.bound s.below.items) (room n.board) (room s.level.board) u (mul-le-mul_right u falls),
  )
  worked (Ok (Some p)) fits bits falls few = (
    record {
      stands = h.stands;
      wide = (let wide = h.at.wide in omega arith);
      closed = fitting (Some p) fits;
      steps = (let all = h.steps in omega arith);
    },
    more (held_room (item_count t) aim.bound s.below.items) (room s.level.board * unit (item_count t) (aim.bound - length s.below.items)),
  ) where
    more : (held a : ℕ) → held ≤ held + a
    more held a = omega arith
