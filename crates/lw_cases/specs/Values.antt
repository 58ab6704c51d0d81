-- Values of a table.
use Rattle.std.specs.Prelude.{List}
use Rattle.lw_formula.specs.Formula.{Formula}
use Rattle.lw_pool.specs.declared.id.FormId.{FormId}
use Rattle.lw_value.specs.Values.{Val, Vals, AreLive, AreItemsLive}
use Rattle.lw_value.specs.Evidence.{HasWorlds, HaveWorlds}

-- the pool has the value's ids, and the world of each certificate in it is one of its model's
pub record CanBeWritten (ts : List Formula) (v : Val FormId) : Type 0 where
  pub live : AreLive ts v
  pub worlds : HasWorlds v

-- so it is with each of the values
pub record CanAllBeWritten (ts : List Formula) (vs : Vals FormId) : Type 0 where
  pub live : AreItemsLive ts vs
  pub worlds : HaveWorlds vs
