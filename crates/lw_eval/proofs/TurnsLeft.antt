-- What is left of statements and of turns, one by one.
use Rattle.std.proofs.Common.{◌≡◌, ℕ, zero, suc, ◌+◌, ◌-◌, ◌<◌, ◌≤◌, List, [], ◌∷◌, Some, drop, length, refl, sym, ap, subst, ◌∙◌, add-one, arith}
use Rattle.std.specs.Prelude.{slice_get}
use Rattle.lw_formula.specs.Formula.{Formula}
use Rattle.lw_pool.specs.declared.id.FormId.{FormId}
use Rattle.lw_pool.specs.Region.{Grows}
use Rattle.lw_ast.specs.Trees as tree
use Rattle.lw_ast.specs.Trees.{Statement, Statements, statement_count}
use Rattle.lw_ast.specs.ScriptViews.{statement_at}
use Rattle.lw_value.specs.Values.{Val, vals, number, empty, item, seen, seen_all, AreLive, AreItemsLive}
use Rattle.lw_value.specs.Evidence.{HasEvidence}
use Rattle.lw_value.proofs.GrowingPools.{seen_grows, live_grows}
use Rattle.lw_eval.specs.Runs.{numbers_from}
use Rattle.lw_eval.specs.Private.Sizes.{statement_size, statements_size}
use Rattle.lw_eval.specs.Private.Carried.{statements_from, HaveItemsEvidence}

-- the i-th statement stands before those that are left then
pub statement_left : (ss : Statements) (i : ℕ) (s : Statement) → statement_at ss i ≡ Some s → statements_from i ss ≡ tree.then s (statements_from (i + 1) ss)
statement_left ss i s is = rw add-one (by ss i is)
  where
    by : (ss : Statements) (i : ℕ) → statement_at ss i ≡ Some s → statements_from i ss ≡ tree.then s (statements_from (suc i) ss)
    by tree.over i is = absurd (cc)
    by (tree.then r rs) zero is = let e : r ≡ s = cc in ap (λ q. tree.then q rs) e
    by (tree.then r rs) (suc i) is = by rs i is

-- none is left
pub no_statement_left : (ss : Statements) (i : ℕ) → i ≡ statement_count ss → statements_from i ss ≡ tree.over
no_statement_left ss i is = ap (λ n. statements_from n ss) is ∙ by ss
  where
    by : (ss : Statements) → statements_from (statement_count ss) ss ≡ tree.over
    by tree.over = refl
    by (tree.then r rs) = by rs

-- the i-th statement is smaller than all together
pub statement_smaller : (ss : Statements) (i : ℕ) (s : Statement) → statement_at ss i ≡ Some s → statement_size s < statements_size ss
statement_smaller tree.over i s is = absurd (cc)
statement_smaller (tree.then r rs) zero s is = let e : r ≡ s = cc in omega (arith, ap statement_size e)
statement_smaller (tree.then r rs) (suc i) s is = omega (arith, statement_smaller rs i s is)

-- the number stands before those behind it
pub number_left : (m n : ℕ) → m ≤ n → numbers_from m (n + 1 - m) ≡ item (number m) (numbers_from (m + 1) (n + 1 - (m + 1)))
number_left m n le = let e : n + 1 - m ≡ suc (n + 1 - (m + 1)) = omega arith in ap (numbers_from m) e

pub last_number_left : (n : ℕ) → numbers_from n (n + 1 - n) ≡ item (number n) empty
last_number_left n = let e : n + 1 - n ≡ suc zero = omega arith in ap (numbers_from n) e

pub no_number_left : (m n : ℕ) → n < m → numbers_from m (n + 1 - m) ≡ empty
no_number_left m n lt = let e : n + 1 - m ≡ zero = omega arith in ap (numbers_from m) e

-- the i-th item stands before those that are left then
pub item_left : (ts : List Formula) (vs : List (Val FormId)) (i : ℕ) (v : Val FormId) → slice_get vs i ≡ Some v
    → seen_all ts (vals (drop i vs)) ≡ item (seen ts v) (seen_all ts (vals (drop (i + 1) vs)))
item_left ts vs i v is = rw add-one (by vs i is)
  where
    by : (vs : List (Val FormId)) (i : ℕ) → slice_get vs i ≡ Some v → seen_all ts (vals (drop i vs)) ≡ item (seen ts v) (seen_all ts (vals (drop (suc i) vs)))
    by [] i is = absurd (cc)
    by (w ∷ ws) zero is = let e : w ≡ v = cc in ap (λ u. item (seen ts u) (seen_all ts (vals ws))) e
    by (w ∷ ws) (suc i) is = by ws i is

pub no_item_left : (ts : List Formula) (vs : List (Val FormId)) (i : ℕ) → i ≡ length vs → seen_all ts (vals (drop i vs)) ≡ empty
no_item_left ts vs i is = ap (λ n. seen_all ts (vals (drop n vs))) is ∙ by vs
  where
    by : (vs : List (Val FormId)) → seen_all ts (vals (drop (length vs) vs)) ≡ empty
    by [] = refl
    by (w ∷ ws) = by ws

-- the i-th item is live, and has evidence, where all are and have
pub item_live : (ts : List Formula) (vs : List (Val FormId)) (i : ℕ) (v : Val FormId) → slice_get vs i ≡ Some v → AreItemsLive ts (vals vs) → AreLive ts v
item_live ts [] i v is live = absurd (cc)
item_live ts (w ∷ ws) zero v is live = let e : w ≡ v = cc in subst (AreLive ts) e live.0
item_live ts (w ∷ ws) (suc i) v is live = item_live ts ws i v is live.1

item_evidence : (ts : List Formula) (vs : List (Val FormId)) (i : ℕ) (v : Val FormId) → slice_get vs i ≡ Some v → HaveItemsEvidence (seen_all ts (vals vs)) → HasEvidence (seen ts v)
item_evidence ts [] i v is have = absurd (cc)
item_evidence ts (w ∷ ws) zero v is have = let e : w ≡ v = cc in subst (λ u. HasEvidence (seen ts u)) e have.0
item_evidence ts (w ∷ ws) (suc i) v is have = item_evidence ts ws i v is have.1

-- and so they are and have in a grown pool
pub item_live_then : (old new : List Formula) (vs : List (Val FormId)) (i : ℕ) (v : Val FormId) → Grows old new → slice_get vs i ≡ Some v → AreItemsLive old (vals vs) → AreLive new v
item_live_then old new vs i v g is live = live_grows old new v g (item_live old vs i v is live)

pub item_seen_then : (old new : List Formula) (vs : List (Val FormId)) (i : ℕ) (v : Val FormId) → Grows old new → slice_get vs i ≡ Some v → AreItemsLive old (vals vs) → seen new v ≡ seen old v
item_seen_then old new vs i v g is live = seen_grows old new v g (item_live old vs i v is live)

pub item_evidence_then : (old new : List Formula) (vs : List (Val FormId)) (i : ℕ) (v : Val FormId) → Grows old new → slice_get vs i ≡ Some v → AreItemsLive old (vals vs)
    → HaveItemsEvidence (seen_all old (vals vs)) → HasEvidence (seen new v)
item_evidence_then old new vs i v g is live have = subst HasEvidence (sym (item_seen_then old new vs i v g is live)) (item_evidence old vs i v is have)
