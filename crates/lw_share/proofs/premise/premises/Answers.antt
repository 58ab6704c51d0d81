use Rattle.std.proofs.Common.{◌∙◌, map, ap, sym}
use Rattle.lw_formula.specs.Components.{parts_of}
use Rattle.lw_pool.specs.Region.{signed_at}
use Rattle.lw_proof.specs.System.{trees}
use Rattle.lw_proof.specs.Derivation.{premises}
use Rattle.lw_sets.specs.IdSets.{set_of}
use Rattle.lw_share.proofs.PremiseSets.{one_premise, refl_premise}
use Rattle.lw_share.proofs.premise.premises.Goals as goal

pub returns-in_ok-vec-in-One-One-clause-sets : goal.returns-in_ok-vec-in-One-One-clause-sets
returns-in_ok-vec-in-One-One-clause-sets c = λ ts g.
    ap (map (set_of ts)) c.in_ok-vec-in-One-One.ensures.items
    ∙ one_premise c.args.logic c.args.pool.now ts g c.args.item c.requires.item c.args.items.now c.in-One-One.first c.in-One-One.second
    c.in-One-One.ensures.live c.in-One-One.ensures.parts c.in_ok-set-in-One-One.set (c.in_ok-set-in-One-One.ensures.set ts)
    ∙ ap (λ r. premises trees c.args.logic r (signed_at ts c.args.item) (parts_of (signed_at ts c.args.item)) (set_of ts c.args.items.now)) (sym c.in-One-One.is-0)

pub returns-in_ok-vec-in-Refl-Nu-clause-sets : goal.returns-in_ok-vec-in-Refl-Nu-clause-sets
returns-in_ok-vec-in-Refl-Nu-clause-sets c = λ ts g.
    ap (map (set_of ts)) c.in_ok-vec-in-Refl-Nu.ensures.items
    ∙ refl_premise c.args.logic c.args.pool.now ts g c.args.item c.requires.item c.args.items.now c.in-Refl-Nu.part
    c.in-Refl-Nu.ensures.live c.in-Refl-Nu.ensures.parts c.in_ok-set-in-Refl-Nu.set (c.in_ok-set-in-Refl-Nu.ensures.set ts)
    ∙ ap (λ r. premises trees c.args.logic r (signed_at ts c.args.item) (parts_of (signed_at ts c.args.item)) (set_of ts c.args.items.now)) (sym c.in-Refl-Nu.is-0)
