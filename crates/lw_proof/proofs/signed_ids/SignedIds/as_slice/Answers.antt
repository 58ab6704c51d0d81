use Rattle.std.proofs.Common.{subst}
use Rattle.std.proofs.lemmas.Map.Made.{AllPairs-from_IsDistinct}
use Rattle.lw_formula.specs.FiniteModel.{AreDistinct}
use Rattle.lw_proof.proofs.SignedIdLists.{id_eq-Decides}
use Rattle.lw_proof.proofs.signed_ids.SignedIds.as_slice.Goals as goal

pub returns-clause-distinct : goal.returns-clause-distinct
returns-clause-distinct c = subst AreDistinct c.self.view_is (AllPairs-from_IsDistinct id_eq-Decides c.self.inside.ids.keys c.as_slice.ensures.unique)
