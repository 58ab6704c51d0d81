use Rattle.std.proofs.Common.{◌≡◌, length, sym, ◌∙◌, arith}
use Rattle.std.proofs.lemmas.Bool.{false≢true}
use Rattle.lw_pool.specs.Region.{tree_at}
use Rattle.lw_fix.specs.Outermost.{outermost}
use Rattle.lw_fix.proofs.BareOccurrences.{stands_bare-Decides}
use Rattle.lw_fix.proofs.in_gl.fixed_point.Goals as goal

pub returns-then-bare-clause-refused : goal.returns-then-bare-clause-refused
returns-then-bare-clause-refused c =
    (stands_bare-Decides c.args.name.now (tree_at c.args.pool.now c.args.formula)).0 (sym c.in_ok-bare.ensures ∙ c.if-bare.true)

pub returns-then-count-gt-BOX_LIMIT-clause-refused : goal.returns-then-count-gt-BOX_LIMIT-clause-refused
returns-then-count-gt-BOX_LIMIT-clause-refused c =
    let own = outermost c.args.name.now (tree_at c.args.pool.now c.args.formula) in
    let count : c.len-count.result ≡ length own = omega (arith, c.len-count.ensures, c.in_ok-boxes.boxes.ok, c.in_ok-boxes.ensures.count) in (
      λ bare. false≢true (sym c.if-bare.false ∙ c.in_ok-bare.ensures ∙ (stands_bare-Decides c.args.name.now (tree_at c.args.pool.now c.args.formula)).1 bare),
      count,
      c.if-count-gt-BOX_LIMIT.true,
    )

pub returns-clause-allowed : goal.returns-clause-allowed
returns-clause-allowed c =
    let own = outermost c.args.name.now (tree_at c.args.pool.now c.args.formula) in
    let count : c.len-count.result ≡ length own = omega (arith, c.len-count.ensures, c.in_ok-boxes.boxes.ok, c.in_ok-boxes.ensures.count) in (
      λ bare. false≢true (sym c.if-bare.false ∙ c.in_ok-bare.ensures ∙ (stands_bare-Decides c.args.name.now (tree_at c.args.pool.now c.args.formula)).1 bare),
      omega (arith, count, c.if-count-gt-BOX_LIMIT.false),
    )
