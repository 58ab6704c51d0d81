use Rattle.std.proofs.Common.{◌≡◌, arith}
use Rattle.lw_formula.specs.declared.parts.Parts.TheVariants.{One, Two, Nu, Pi}
use Rattle.lw_proof.specs.Tree.{subs_of}
use Rattle.std.proofs.Common.{length, refl}
use Rattle.lw_interp.proofs.ShapedProofs.{parts_counted}
use Rattle.lw_interp.proofs.WalkSteps.{one_goes_on, two_goes_on, nu_goes_on, pi_goes_on}
use Rattle.lw_interp.proofs.walk.Walk.enter.Goals as goal

pub sub-requires : goal.sub-requires
sub-requires c =
    let n : length (subs_of c.args.proof.now) ≡ 1 =
    parts_counted c.args.pool.now c.args.proof.now c.rule.result c.principal-item.result (One c.in-One.first c.in-One.second) c.requires.proof.1 c.rule.ensures c.principal-item.ensures c.in-One.ensures.parts
    in
    omega arith

pub sub-requires-in-Two : goal.sub-requires-in-Two
sub-requires-in-Two c =
    let n : length (subs_of c.args.proof.now) ≡ 2 =
    parts_counted c.args.pool.now c.args.proof.now c.rule.result c.principal-item.result (Two c.in-Two.one c.in-Two.other) c.requires.proof.1 c.rule.ensures c.principal-item.ensures c.in-Two.ensures.parts
    in
    omega arith

pub sub-requires-in-Nu : goal.sub-requires-in-Nu
sub-requires-in-Nu c =
    let n : length (subs_of c.args.proof.now) ≡ 1 =
    parts_counted c.args.pool.now c.args.proof.now c.rule.result c.principal-item.result (Nu c.in-Nu.part) c.requires.proof.1 c.rule.ensures c.principal-item.ensures c.in-Nu.ensures.parts
    in
    omega arith

pub sub-requires-in-Pi : goal.sub-requires-in-Pi
sub-requires-in-Pi c =
    let n : length (subs_of c.args.proof.now) ≡ 1 =
    parts_counted c.args.pool.now c.args.proof.now c.rule.result c.principal-item.result (Pi c.in-Pi.part) c.requires.proof.1 c.rule.ensures c.principal-item.ensures c.in-Pi.ensures.parts
    in
    omega arith

pub returns-in_ok-extend-in-One : goal.returns-in_ok-extend-in-One
returns-in_ok-extend-in-One c =
    one_goes_on c.args.logic c.args.pool.now c.args.self.now c.extend.new.self c.args.proof.now c.sub.result c.rule.result c.principal-item.result c.place-place.result
    (One c.in-One.first c.in-One.second) c.requires.ready c.requires.proof c.rule.ensures c.principal-item.ensures c.place-place.ensures c.in-One.ensures.parts c.in-One.ensures.live
    c.sub.ensures.sub c.in-One.first c.in-One.second refl c.in_ok-extend-in-One.ensures

pub returns-in_ok-split-in-Two : goal.returns-in_ok-split-in-Two
returns-in_ok-split-in-Two c =
    two_goes_on c.args.logic c.args.pool.now c.args.self.now c.split.new.self c.args.proof.now c.sub-in-Two-2.result c.rule.result c.principal-item.result c.place-place.result
    (Two c.in-Two.one c.in-Two.other) c.requires.ready c.requires.proof c.rule.ensures c.principal-item.ensures c.place-place.ensures c.in-Two.ensures.parts c.in-Two.ensures.live
    c.sub-in-Two-2.ensures.sub c.in-Two.one c.in-Two.other refl c.sub-in-Two.result
    (parts_counted c.args.pool.now c.args.proof.now c.rule.result c.principal-item.result (Two c.in-Two.one c.in-Two.other) c.requires.proof.1 c.rule.ensures c.principal-item.ensures c.in-Two.ensures.parts)
    c.sub-in-Two.ensures.sub c.in_ok-split-in-Two.ensures

pub returns-in_ok-extend-in-Nu : goal.returns-in_ok-extend-in-Nu
returns-in_ok-extend-in-Nu c =
    nu_goes_on c.args.logic c.args.pool.now c.args.self.now c.extend-in-Nu.new.self c.args.proof.now c.sub-in-Nu.result c.rule.result c.principal-item.result c.place-place.result
    (Nu c.in-Nu.part) c.requires.ready c.requires.proof c.rule.ensures c.principal-item.ensures c.place-place.ensures c.in-Nu.ensures.parts c.in-Nu.ensures.live
    c.sub-in-Nu.ensures.sub c.in-Nu.part refl c.in_ok-extend-in-Nu.ensures

pub returns-in_ok-step-in-Pi : goal.returns-in_ok-step-in-Pi
returns-in_ok-step-in-Pi c =
    pi_goes_on c.args.logic c.args.pool.now c.args.self.now c.step.new.self c.args.proof.now c.sub-in-Pi.result c.rule.result c.principal-item.result c.place-place.result
    (Pi c.in-Pi.part) c.requires.ready c.requires.proof c.rule.ensures c.principal-item.ensures c.place-place.ensures c.in-Pi.ensures.parts c.in-Pi.ensures.live
    c.sub-in-Pi.ensures.sub c.in-Pi.part refl c.companion.result c.requires.logic c.companion.ensures.added c.companion.ensures.same c.in_ok-step-in-Pi.ensures
