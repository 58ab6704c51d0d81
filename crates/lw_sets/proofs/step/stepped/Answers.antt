use Rattle.std.proofs.Common.{◌∙◌, List, sym, ap}
use Rattle.lw_formula.specs.Signed.{Signed}
use Rattle.lw_pool.specs.Region.{signed_at}
use Rattle.lw_pool.proofs.RegionGrowth.{Grows-trans}
use Rattle.lw_proof.specs.System.{trees}
use Rattle.lw_proof.specs.Derivation.{side, added, plus}
use Rattle.lw_sets.specs.IdSets.{set_of}
use Rattle.lw_sets.proofs.GrownPools.{IsLive_grows, AreLive_grows}
use Rattle.lw_sets.proofs.SetMembers.{set_of_side, side_parts, added_live}
use Rattle.lw_sets.proofs.KeptMembers.{side_live}
use Rattle.lw_sets.proofs.step.stepped.Goals as goal

pub returns-clause-set : goal.returns-clause-set
returns-clause-set c = λ ts g.
    set_of_side ts c.in_ok-left.left c.add_side.new.items (c.args.part, c.in_ok-companion.companion) c.in_ok-add_side.ensures
    ∙ ap (λ (cs : List Signed). plus trees cs (set_of ts c.in_ok-left.left))
    (side_parts ts c.args.part c.in_ok-companion.companion ∙ sym (c.in_ok-companion.ensures.added ts (signed_at ts c.args.part) g))
    ∙ ap (plus trees (added trees c.args.logic (signed_at ts c.args.item) (signed_at ts c.args.part)))
    (c.in_ok-left.ensures.kept ts (Grows-trans c.args.pool.now c.companion.new.pool ts c.companion.ensures.grows g))

pub returns-clause-live : goal.returns-clause-live
returns-clause-live c =
    let grows = c.companion.ensures.grows in
    added_live c.companion.new.pool c.in_ok-left.left c.add_side.new.items (side c.args.part c.in_ok-companion.companion) c.in_ok-add_side.ensures
    (AreLive_grows c.args.pool.now c.companion.new.pool grows c.in_ok-left.left c.in_ok-left.ensures.live)
    (side_live c.companion.new.pool c.args.part c.in_ok-companion.companion
    (IsLive_grows c.args.pool.now c.companion.new.pool grows c.args.part.form c.requires.part)
    c.in_ok-companion.ensures.live)
