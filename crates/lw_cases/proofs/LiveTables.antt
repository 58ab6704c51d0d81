-- Tables of shared proofs whose ids a pool has.
use Rattle.std.proofs.Common.{◌≡◌, ℕ, ◌<◌, List, [], ◌∷◌, ◌++◌, length, sym, subst}
use Rattle.std.proofs.lemmas.List.Elements.{All-nil, All-cons, All-append, All-weaker}
use Rattle.lw_formula.specs.Formula.{Formula}
use Rattle.lw_pool.specs.declared.id.SignedId.{SignedId}
use Rattle.lw_pool.specs.Region.{Grows, IsLive}
use Rattle.lw_sets.specs.IdSets.{AreLive}
use Rattle.lw_sets.proofs.GrownPools.{IsLive_grows, AreLive_grows}
use Rattle.lw_share.specs.Lines.{Line}
use Rattle.lw_share.specs.Pooled.{line_of, IsLineLive, IsTableLive}

-- a line of the table
pub line_live : (ts : List Formula) (table : List (Line SignedId)) (i : ℕ) → IsTableLive ts table → i < length table → IsLineLive ts (line_of table i)
line_live ts table i live below = live i _ below

-- a set with one more member
pub member_live : (ts : List Formula) (old new : List SignedId) (x : SignedId) → new ≡ old ++ x ∷ [] → AreLive ts old → IsLive ts x.form → AreLive ts new
member_live ts old new x is live last = subst (AreLive ts) (sym is) (All-append (λ y. IsLive ts y.form) old (x ∷ []) live (All-cons (λ y. IsLive ts y.form) x [] last (All-nil (λ y. IsLive ts y.form))))

-- a table with one more line
pub last_live : (ts : List Formula) (old new : List (Line SignedId)) (line : Line SignedId) → new ≡ old ++ line ∷ [] → IsTableLive ts old → IsLineLive ts line → IsTableLive ts new
last_live ts old new line is live last = subst (IsTableLive ts) (sym is) (All-append (IsLineLive ts) old (line ∷ []) live (All-cons (IsLineLive ts) line [] last (All-nil (IsLineLive ts))))

-- the pool has them once it has grown
pub table_live_grows : (old new : List Formula) (table : List (Line SignedId)) → Grows old new → IsTableLive old table → IsTableLive new table
table_live_grows old new table g live =
    All-weaker (IsLineLive old) (IsLineLive new) (λ k h. (AreLive_grows old new g k.members h.0, IsLive_grows old new g k.principal.form h.1)) table live
