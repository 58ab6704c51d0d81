use Rattle.std.proofs.Common.{◌≡◌, ℕ, List, [], ◌∙◌, map, MatchOption}
use Rattle.std.specs.declared.alloc.Global.{Global}
use Rattle.std.specs.declared.vec.Vec.{Vec}
use Rattle.lw_formula.specs.Formula.{Formula}
use Rattle.lw_cert.specs.declared.stage.Stage.TheVariants as stage
use Rattle.lw_cert.specs.Private.StageViews.{IsNext, Concludes, grown, ruled}
use Rattle.lw_cert.proofs.WordReaders.{same-bytes, ok-more}
use Rattle.lw_cert.proofs.LastLines.{next-proved}
use Rattle.lw_cert.proofs.next.proved.Goals as goal

pub returns-then-eq : goal.returns-then-eq
returns-then-eq c =
    ok-more (λ o. MatchOption o (grown (map ruled c.args.steps.items) [] ≡ []) (Concludes c.args.head c.args.steps.items))
    (λ next. (all : Vec ℕ Global) → all.items ≡ [] → (ts : List Formula) → IsNext c.args.line.now ts (stage.Proving c.args.head all c.args.steps) ts next)
    (λ o m all none ts. next-proved ts c.args.line.now c.args.head all c.args.steps o none (same-bytes _ _ c.if-eq.ensures ∙ c.as_slice.ensures) m)
    c.concluded.result c.concluded.ensures
