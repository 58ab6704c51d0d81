use Rattle.std.proofs.Common.{ap, ◌∙◌, eqb}
use Rattle.std.proofs.lemmas.Bool.Decides.{same_from_decides, Decides-like, Decides-eqb}
use Rattle.std.specs.List.{slice_index_or}
use Rattle.lw_formula.specs.Formula.{falsum, same_formula}
use Rattle.lw_formula.proofs.SameFormulas.{same_formula-Decides}
use Rattle.lw_pool.specs.Region.{tree_at}
use Rattle.lw_normal.proofs.simplification.is_same.Goals as goal

pub returns : goal.returns
returns c =
    let ts = c.args.pool.now in
    let x = c.args.x in
    let y = c.args.y in
    c.eq.ensures ∙ same_from_decides (eqb x.0 y.0) (same_formula (tree_at ts x) (tree_at ts y))
    (Decides-like (eqb x.0 y.0) (λ same. ap (λ k. slice_index_or ts k falsum) same) (λ same. ap (λ id. id.0) (c.count.ensures.ids x y c.requires.x c.requires.y same)) (Decides-eqb x.0 y.0))
    (same_formula-Decides (tree_at ts x) (tree_at ts y))
