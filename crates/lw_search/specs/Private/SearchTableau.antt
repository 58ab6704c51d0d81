-- What a search works by.
use Rattle.std.specs.Prelude.{◌≡◌, false}
use Rattle.lw_formula.specs.declared.logic.Logic.{Logic}
use Rattle.lw_proof.specs.Derivation.{has_cut}
use Rattle.lw_closure.specs.Table.{Table, IsTable}

-- the table is one of the logic L, which has no cuts
pub record IsTableau (L : Logic) (t : Table) : Type 0 where
  pub table : IsTable t
  pub logic : t.logic ≡ L
  pub uncut : has_cut t.logic ≡ false
