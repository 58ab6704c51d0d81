use Rattle.lw_proof.proofs.SignedIdLists.{found_exactly}
use Rattle.lw_proof.proofs.signed_ids.SignedIds.has.Goals as goal

pub returns : goal.returns
returns c = found_exactly c.self.inside.ids.keys c.args.self.now c.args.item c.self.view_is c.contains.result c.contains.ensures
