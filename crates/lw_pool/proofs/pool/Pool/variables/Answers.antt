use Rattle.std.proofs.Common.{◌≡◌, ◌<◌, length, get_or, refl, arith}
use Rattle.std.proofs.lemmas.List.Elements.{Contains-get_or}
use Rattle.lw_pool.proofs.VariablesMet.{names_step, names_done}
use Rattle.lw_pool.proofs.pool.Pool.variables.Goals as goal

pub node-requires : goal.node-requires
node-requires c =
    let l : c.loop-part.part-index < length c.deref-part-items.result.now = omega arith in
    ((c.loop-part.invariant.0.exact (get_or c.deref-part-items.result.now c.loop-part.part-index (record { 0 = 0 }))).0
    (Contains-get_or c.deref-part-items.result.now c.loop-part.part-index (record { 0 = 0 }) l)).0

pub loop-part-preserved : goal.loop-part-preserved
loop-part-preserved c = (
  c.loop-part.invariant.0,
  names_step c.args.self.now c.deref-part-items.result.now c.loop-part.part-index c.node.result.now
      (get_or c.deref-part-items.result.now c.loop-part.part-index (record { 0 = 0 })) c.loop-part.names.items c.add_variable.new.names.items
      refl c.node.ensures.tree c.loop-part.invariant.1 c.in_ok-add_variable.ensures,
)

pub returns : goal.returns
returns c =
    let l : c.loop-part.part-index ≡ length c.deref-part-items.result.now = omega arith in
    names_done c.args.self.now c.args.id c.deref-part-items.result.now c.loop-part.part-index c.loop-part.names.items c.loop-part.invariant.0 l c.loop-part.invariant.1
