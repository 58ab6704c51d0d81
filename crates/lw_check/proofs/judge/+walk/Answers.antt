use Rattle.std.proofs.Common.{◌≡◌, ◌∷◌, [], List, length, sym, ap, subst, ◌∙◌, arith, rules}
use Rattle.std.proofs.lemmas.List.Elements.{All-same}
use Rattle.std.proofs.lemmas.Result.{IfOk-weaker}
use Rattle.lw_formula.specs.Formula.{Formula}
use Rattle.lw_formula.specs.Signed.{SignedSet}
use Rattle.lw_pool.specs.declared.id.SignedId.{SignedId}
use Rattle.lw_pool.specs.Region.{IsLive, Grows}
use Rattle.lw_proof.specs.Tree.{subs_of}
use Rattle.lw_proof.specs.System.{trees}
use Rattle.lw_proof.specs.Derivation.{kept}
use Rattle.lw_proof.specs.Break.{arity}
use Rattle.lw_check.specs.declared.premise.Left.TheVariants.{Nothing, One, Two, Stepped, Kept}
use Rattle.lw_check.specs.declared.walked.Walked.TheVariants.{Through}
use Rattle.lw_sets.specs.IdSets.{set_of, with_side, step_set}
use Rattle.lw_check.specs.Private.LeftSets.{with_each}
use Rattle.lw_check.specs.Private.ProofWalk.{Tells, TellsAll}
use Rattle.lw_pool.proofs.RegionGrowth.{Grows-same, Grows-trans}
use Rattle.lw_sets.proofs.GrownPools.{IsProofLive_grows, AreLive_grows, AreBothBelow_grows}
use Rattle.lw_sets.proofs.SetMembers.{set_of_side}
use Rattle.lw_proof.proofs.FirstSubproofs.{second_member}
use Rattle.lw_check.proofs.WalkOutcomes.{tells_same, tells_refused, tells_kept, tells_none, tells_one, tells_both, tells_broken}
use Rattle.lw_check.proofs.judge.+walk.Goals as goal

pub extended-returns-clause-told : goal.extended-returns-clause-told
extended-returns-clause-told t c =
    tells_same c.args.logic c.walk.new.pool c.args.cuts.now
    (λ ts. set_of ts c.add_side.new.items) (with_side c.args.items.now c.args.side)
    c.args.proof.now c.args.step c.in_ok-walked.walked
    (λ ts g. set_of_side ts c.args.items.now c.add_side.new.items c.args.side c.in_ok-add_side.ensures)
    c.in_ok-walked.ensures.told

pub split-extended-requires-in-Through : goal.split-extended-requires-in-Through
split-extended-requires-in-Through t c =
    let grows : Grows c.args.pool.now c.extended.new.pool = c.extended.ensures.grows in (
      search rules,
      (
        All-same (λ (x : SignedId). IsLive c.extended.new.pool x.form) c.extended.new.items c.args.items.now c.in_ok-next.ensures.same
            (AreLive_grows c.args.pool.now c.extended.new.pool grows c.args.items.now c.requires.items),
        (
          AreBothBelow_grows c.args.pool.now c.extended.new.pool grows c.args.sides.1 c.requires.other,
          c.sub-in-Through.ensures.live c.extended.new.pool (IsProofLive_grows c.args.pool.now c.extended.new.pool grows c.args.proof.now c.requires.proof),
        ),
      ),
    )

pub split-returns-in-Through-clause-told : goal.split-returns-in-Through-clause-told
split-returns-in-Through-clause-told t c =
    let one : List Formula → SignedSet = with_side c.args.items.now c.args.sides.0 in
    let other : List Formula → SignedSet = with_side c.args.items.now c.args.sides.1 in
    let kept_items : List Formula → SignedSet = with_side c.extended.new.items c.args.sides.1 in
    let first : Tells c.args.logic c.extended.new.pool c.args.cuts.now one c.sub.result.now c.args.step (Through c.in-Through.next) =
    subst (Tells c.args.logic c.extended.new.pool c.args.cuts.now one c.sub.result.now c.args.step) c.in-Through.is c.in_ok-next.ensures.told
    in
    IfOk-weaker c.extended-in-Through.result
    (Tells c.args.logic c.extended-in-Through.new.pool c.args.cuts.now kept_items c.sub-in-Through.result.now c.in-Through.next)
    (TellsAll c.args.logic c.extended-in-Through.new.pool c.args.cuts.now (λ ts. one ts ∷ other ts ∷ []) c.args.proof.now c.args.step)
    (λ outcome told.
    tells_both c.args.logic c.args.cuts.now one other c.args.proof.now c.sub.result.now c.sub-in-Through.result.now c.requires.count c.sub.ensures.sub
    c.extended.new.pool c.extended-in-Through.new.pool c.args.step c.in-Through.next outcome c.extended-in-Through.ensures.grows c.sub-in-Through.ensures.sub first
    (tells_same c.args.logic c.extended-in-Through.new.pool c.args.cuts.now kept_items other c.sub-in-Through.result.now c.in-Through.next outcome
    (λ ts g. ap (λ (xs : List SignedId). with_side xs c.args.sides.1 ts) c.in_ok-next.ensures.same) told))
    c.extended-in-Through.ensures.told

pub split-returns-in-Broken-clause-told : goal.split-returns-in-Broken-clause-told
split-returns-in-Broken-clause-told t c =
    let one : List Formula → SignedSet = with_side c.args.items.now c.args.sides.0 in
    let other : List Formula → SignedSet = with_side c.args.items.now c.args.sides.1 in
    let second = second_member (subs_of c.args.proof.now) c.requires.count in
    tells_broken c.args.logic c.args.cuts.now one other c.args.proof.now c.sub.result.now second.0 c.requires.count c.sub.ensures.sub
    c.extended.new.pool c.args.step c.in-Broken.step c.in-Broken.why second.1
    (subst (Tells c.args.logic c.extended.new.pool c.args.cuts.now one c.sub.result.now c.args.step) c.in-Broken.is c.in_ok-next.ensures.told)

pub walk-walk-requires : goal.walk-walk-requires
walk-walk-requires t c = (
  search rules,
  (
    c.in_ok-seen-in-Stepped.ensures.live,
    c.sub-in-Stepped.ensures.live c.stepped.new.pool (IsProofLive_grows c.args.pool.now c.stepped.new.pool c.stepped.ensures.grows c.args.proof.now c.requires.proof),
  ),
)

pub walk-returns-in-Some-clause-told : goal.walk-returns-in-Some-clause-told
walk-returns-in-Some-clause-told t c =
    tells_refused c.args.logic c.args.pool.now c.args.cuts.now c.args.items.now c.args.proof.now c.requires.items c.requires.proof c.args.step c.in-Some.why
    c.in-Some.ensures.reason

pub walk-returns-in-Nothing-clause-told : goal.walk-returns-in-Nothing-clause-told
walk-returns-in-Nothing-clause-told t c =
    let count : length (subs_of c.args.proof.now) ≡ 0 = c.in_default.ensures.arity ∙ ap arity (sym c.rule.ensures) ∙ sym c.in-Nothing.ensures.count in
    tells_kept c.args.logic c.args.pool.now c.args.cuts.now c.args.items.now c.args.proof.now c.requires.items c.requires.proof
    c.rule.result c.principal.result c.rule.ensures c.principal.ensures c.args.pool.now Nothing c.args.step c.saturating_add-next.result (Through c.saturating_add-next.result)
    (Grows-same c.args.pool.now) c.in_default.ensures.reason c.in-Nothing.ensures.sets
    (λ n e. omega (arith, e, c.saturating_add-next.ensures))
    (tells_none c.args.logic c.args.pool.now c.args.cuts.now c.args.proof.now c.saturating_add-next.result count)

pub walk-returns-in-One-clause-told : goal.walk-returns-in-One-clause-told
walk-returns-in-One-clause-told t c =
    let count : length (subs_of c.args.proof.now) ≡ 1 = c.in_default.ensures.arity ∙ ap arity (sym c.rule.ensures) ∙ sym c.in-One.ensures.count in
    let larger : List Formula → SignedSet = with_side c.args.items.now c.in-One.side in
    IfOk-weaker c.extended.result
    (Tells c.args.logic c.extended.new.pool c.args.cuts.now larger c.sub.result.now c.saturating_add-next.result)
    (Tells c.args.logic c.extended.new.pool c.args.cuts.now (λ ts. set_of ts c.args.items.now) c.args.proof.now c.args.step)
    (λ outcome told.
    tells_kept c.args.logic c.args.pool.now c.args.cuts.now c.args.items.now c.args.proof.now c.requires.items c.requires.proof
    c.rule.result c.principal.result c.rule.ensures c.principal.ensures c.extended.new.pool (One c.in-One.side) c.args.step c.saturating_add-next.result outcome
    c.extended.ensures.grows c.in_default.ensures.reason c.in-One.ensures.sets
    (λ n e. omega (arith, e, c.saturating_add-next.ensures))
    (tells_one c.args.logic c.extended.new.pool c.args.cuts.now larger c.args.proof.now c.sub.result.now c.saturating_add-next.result outcome count c.sub.ensures.sub told))
    c.extended.ensures.told

pub walk-returns-in-Two-clause-told : goal.walk-returns-in-Two-clause-told
walk-returns-in-Two-clause-told t c =
    IfOk-weaker c.split.result
    (TellsAll c.args.logic c.split.new.pool c.args.cuts.now (with_each c.args.items.now (c.in-Two.one, c.in-Two.other)) c.args.proof.now c.saturating_add-next.result)
    (Tells c.args.logic c.split.new.pool c.args.cuts.now (λ ts. set_of ts c.args.items.now) c.args.proof.now c.args.step)
    (λ outcome told.
    tells_kept c.args.logic c.args.pool.now c.args.cuts.now c.args.items.now c.args.proof.now c.requires.items c.requires.proof
    c.rule.result c.principal.result c.rule.ensures c.principal.ensures c.split.new.pool (Two c.in-Two.one c.in-Two.other) c.args.step c.saturating_add-next.result outcome
    c.split.ensures.grows c.in_default.ensures.reason c.in-Two.ensures.sets
    (λ n e. omega (arith, e, c.saturating_add-next.ensures))
    told)
    c.split.ensures.told

pub walk-returns-in_ok-seen-in-Stepped-clause-told : goal.walk-returns-in_ok-seen-in-Stepped-clause-told
walk-returns-in_ok-seen-in-Stepped-clause-told t c =
    let count : length (subs_of c.args.proof.now) ≡ 1 = c.in_default.ensures.arity ∙ ap arity (sym c.rule.ensures) ∙ sym c.in-Stepped.ensures.count in
    let seen : List Formula → SignedSet = step_set c.args.logic c.principal.result c.in-Stepped.part c.args.items.now in
    IfOk-weaker c.walk.result
    (Tells c.args.logic c.walk.new.pool c.args.cuts.now (λ ts. set_of ts c.in_ok-seen-in-Stepped.seen) c.sub-in-Stepped.result.now c.saturating_add-next.result)
    (Tells c.args.logic c.walk.new.pool c.args.cuts.now (λ ts. set_of ts c.args.items.now) c.args.proof.now c.args.step)
    (λ outcome told.
    tells_kept c.args.logic c.args.pool.now c.args.cuts.now c.args.items.now c.args.proof.now c.requires.items c.requires.proof
    c.rule.result c.principal.result c.rule.ensures c.principal.ensures c.walk.new.pool (Stepped c.in-Stepped.part) c.args.step c.saturating_add-next.result outcome
    (Grows-trans c.args.pool.now c.stepped.new.pool c.walk.new.pool c.stepped.ensures.grows c.walk.ensures.grows) c.in_default.ensures.reason c.in-Stepped.ensures.sets
    (λ n e. omega (arith, e, c.saturating_add-next.ensures))
    (tells_one c.args.logic c.walk.new.pool c.args.cuts.now seen c.args.proof.now c.sub-in-Stepped.result.now c.saturating_add-next.result outcome count c.sub-in-Stepped.ensures.sub
    (tells_same c.args.logic c.walk.new.pool c.args.cuts.now (λ ts. set_of ts c.in_ok-seen-in-Stepped.seen) seen c.sub-in-Stepped.result.now c.saturating_add-next.result outcome
    (λ ts g.
    c.in_ok-seen-in-Stepped.ensures.set ts (Grows-trans c.stepped.new.pool c.walk.new.pool ts c.walk.ensures.grows g)
    ∙ ap (λ (x : SignedId). step_set c.args.logic x c.in-Stepped.part c.args.items.now ts) (c.principal-in-Stepped.ensures ∙ sym c.principal.ensures))
    told)))
    c.walk.ensures.told

pub walk-returns-in_ok-kept-in-Kept-clause-told : goal.walk-returns-in_ok-kept-in-Kept-clause-told
walk-returns-in_ok-kept-in-Kept-clause-told t c =
    let count : length (subs_of c.args.proof.now) ≡ 1 = c.in_default.ensures.arity ∙ ap arity (sym c.rule.ensures) ∙ sym c.in-Kept.ensures.count in
    let alone : List Formula → SignedSet = (λ ts. kept trees c.args.logic (set_of ts c.args.items.now)) in
    IfOk-weaker c.walk-in-Kept.result
    (Tells c.args.logic c.walk-in-Kept.new.pool c.args.cuts.now (λ ts. set_of ts c.in_ok-kept-in-Kept.kept) c.sub-in-Kept.result.now c.saturating_add-next.result)
    (Tells c.args.logic c.walk-in-Kept.new.pool c.args.cuts.now (λ ts. set_of ts c.args.items.now) c.args.proof.now c.args.step)
    (λ outcome told.
    tells_kept c.args.logic c.args.pool.now c.args.cuts.now c.args.items.now c.args.proof.now c.requires.items c.requires.proof
    c.rule.result c.principal.result c.rule.ensures c.principal.ensures c.walk-in-Kept.new.pool Kept c.args.step c.saturating_add-next.result outcome
    c.walk-in-Kept.ensures.grows c.in_default.ensures.reason c.in-Kept.ensures.sets
    (λ n e. omega (arith, e, c.saturating_add-next.ensures))
    (tells_one c.args.logic c.walk-in-Kept.new.pool c.args.cuts.now alone c.args.proof.now c.sub-in-Kept.result.now c.saturating_add-next.result outcome count c.sub-in-Kept.ensures.sub
    (tells_same c.args.logic c.walk-in-Kept.new.pool c.args.cuts.now (λ ts. set_of ts c.in_ok-kept-in-Kept.kept) alone c.sub-in-Kept.result.now c.saturating_add-next.result outcome
    (λ ts g. c.in_ok-kept-in-Kept.ensures.kept ts (Grows-trans c.args.pool.now c.walk-in-Kept.new.pool ts c.walk-in-Kept.ensures.grows g))
    told)))
    c.walk-in-Kept.ensures.told
