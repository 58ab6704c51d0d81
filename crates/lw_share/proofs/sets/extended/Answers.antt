use Rattle.std.proofs.Common.{◌∙◌, List, ap, subst, sym}
use Rattle.lw_formula.specs.Formula.{Formula}
use Rattle.lw_proof.specs.System.{trees}
use Rattle.lw_proof.specs.Derivation.{side, plus}
use Rattle.lw_sets.specs.IdSets.{set_of, side_at, AreLive}
use Rattle.lw_sets.proofs.SetMembers.{set_of_side, added_live}
use Rattle.lw_share.proofs.CollectedSets.{both_live}
use Rattle.lw_share.proofs.sets.extended.Goals as goal

pub returns-clause-set : goal.returns-clause-set
returns-clause-set c = λ (ts : List Formula).
    set_of_side ts c.in_ok-set.set c.add_side.new.items c.args.side c.in_ok-add_side.ensures
    ∙ ap (plus trees (side_at ts c.args.side)) (c.in_ok-set.ensures.set ts ∙ ap (set_of ts) c.as_slice.ensures.items)

pub returns-clause-live : goal.returns-clause-live
returns-clause-live c = λ (ts : List Formula) l b.
    added_live ts c.in_ok-set.set c.add_side.new.items (side c.args.side.0 c.args.side.1) c.in_ok-add_side.ensures
    (c.in_ok-set.ensures.live ts (subst (AreLive ts) (sym c.as_slice.ensures.items) l))
    (both_live ts c.args.side b)
