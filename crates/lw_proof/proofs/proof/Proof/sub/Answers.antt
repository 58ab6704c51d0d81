use Rattle.std.proofs.Common.{rules}
use Rattle.lw_pool.specs.declared.id.SignedId.{SignedId}
use Rattle.lw_pool.specs.Region.{IsLive}
use Rattle.lw_proof.proofs.ListedTrees.{sub_below, sub_is}
use Rattle.lw_proof.proofs.FirstSubproofs.{sub_smaller, each_sub}
use Rattle.lw_proof.proofs.proof.Proof.sub.Goals as goal

pub index-requires : goal.index-requires
index-requires c =
    search (rules, sub_below c.self.inside.rule c.self.inside.principal c.self.inside.subs.items c.args.self.now c.args.i c.self.view_is c.requires)

pub returns-clause-sub : goal.returns-clause-sub
returns-clause-sub c =
    sub_is c.self.inside.rule c.self.inside.principal c.self.inside.subs.items c.args.self.now c.args.i c.index.result.now c.self.view_is c.requires c.index.ensures

pub returns-clause-smaller : goal.returns-clause-smaller
returns-clause-smaller c = sub_smaller c.args.self.now c.args.i c.index.result.now (returns-clause-sub c)

pub returns-clause-live : goal.returns-clause-live
returns-clause-live c = λ ts. each_sub (λ (s : SignedId). IsLive ts s.form) c.args.self.now c.args.i c.index.result.now (returns-clause-sub c)
