use Rattle.lw_model.proofs.model.Model.successors.Goals as goal

pub returns-clause-exact : goal.returns-clause-exact
returns-clause-exact c = rw (← c.self.view_is) c.row.ensures.exact
