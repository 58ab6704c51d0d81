use Rattle.std.proofs.Common.{rules}
use Rattle.lw_proof.proofs.ListedTrees.{subs_seen}
use Rattle.lw_proof.proofs.proof.Proof.count.Goals as goal

pub returns : goal.returns
returns c = rw (subs_seen c.self.inside.rule c.self.inside.principal c.self.inside.subs.items c.args.self.now c.self.view_is) (search rules)
