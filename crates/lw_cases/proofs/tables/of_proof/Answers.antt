use Rattle.std.proofs.Common.{sym, subst}
use Rattle.lw_sets.proofs.GrownPools.{IsProofLive_grows}
use Rattle.lw_check.specs.Judgement.{IsAccepted}
use Rattle.lw_cases.proofs.Accepted.{proves_later}
use Rattle.lw_cases.proofs.tables.of_proof.Goals as goal

pub of_accepted-requires-clause-proof : goal.of_accepted-requires-clause-proof
of_accepted-requires-clause-proof c = IsProofLive_grows c.args.pool.now c.check.new.pool c.check.ensures.grows c.args.proof.now c.requires.proof

pub of_accepted-requires-clause-proved : goal.of_accepted-requires-clause-proved
of_accepted-requires-clause-proved c =
    proves_later c.args.logic c.args.pool.now c.check.new.pool c.args.proof.now c.args.goal c.check.ensures.grows c.requires.proof c.requires.goal
    (c.in_ok-check.ensures.accepted.0 (subst IsAccepted (sym c.in-Accepted.is) tt))
