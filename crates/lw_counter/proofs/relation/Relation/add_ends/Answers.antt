use Rattle.std.proofs.Common.{◌+◌, refl, sym, subst}
use Rattle.std.proofs.lemmas.Bool.{false≢true}
use Rattle.lw_counter.specs.Private.BuiltRelation.{SetsBits}
use Rattle.lw_counter.proofs.BitSquares.{Ends, ends_more, ends_skip}
use Rattle.lw_counter.proofs.relation.Relation.add_ends.Goals as goal
use Rattle.lw_counter.proofs.relation.Relation.add_ends.Goals.{then-not-has_any, else-not-has_any}

pub loop-at-preserved : goal.loop-at-preserved
loop-at-preserved c =
    let s = c.args.self.now in
    let t = c.loop-at.self in
    let at = c.loop-at.at in
    record {
      end = c.loop-at.invariant.end;
      set = elim c.if-not-has_any.branch [
        | then-not-has_any w ↦
            subst (λ u. SetsBits s u (Ends s (at + 1))) (sym w.self-is)
            (ends_more s t w.add.new.self at c.loop-at.invariant.set (λ some. false≢true (w.if-not-has_any.ensures.1 some)) w.add.ensures)
        | else-not-has_any w ↦
            subst (λ u. SetsBits s u (Ends s (at + 1))) (sym w.self-is) (ends_skip s t at c.loop-at.invariant.set (w.if-not-has_any.ensures.0 refl))
      ];
    }
