use Rattle.lw_proof.proofs.SignedIdLists.{inserted_adds}
use Rattle.lw_proof.proofs.signed_ids.SignedIds.add.Goals as goal

pub returns-clause-added : goal.returns-clause-added
returns-clause-added c =
    inserted_adds c.self.inside.ids.keys c.args.self.now c.args.item c.self.view_is c.insert.new.self.keys c.in_ok-insert.ensures.keys
