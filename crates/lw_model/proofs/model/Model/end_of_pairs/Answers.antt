use Rattle.lw_model.proofs.model.Model.end_of_pairs.Goals as goal

pub returns : goal.returns
returns c = rw (← c.self.view_is) c.end.ensures
