-- How many constructs are unfinished on a stack, and that a state of the program is never astray.
use Rattle.std.proofs.Common.{◌≡◌, ◌≢◌, ◌+◌, List, [], ◌∷◌, map, sum_by, refl, ap, ◌∙◌, arith}
use Rattle.std.proofs.lemmas.List.{reverse-append}
use Rattle.std.proofs.lemmas.List.Sums.{sum_by-append, sum_by-cons}
use Rattle.lw_ast.specs.declared.construct.Unfinished.{Unfinished}
use Rattle.lw_ast.specs.declared.state.Progress.{Progress}
use Rattle.lw_ast.specs.declared.state.Progress.TheVariants as progress
use Rattle.lw_ast.specs.Private.ScriptMachine.{Astray, weight}
use Rattle.lw_ast.specs.Private.ReaderViews.{frame, frames, state_of}

pub frames-weight : (us : List Unfinished) → sum_by weight (frames us) ≡ sum_by (λ u. weight (frame u)) us
frames-weight [] = refl
frames-weight (u ∷ us) =
    let last : sum_by weight (frames (u ∷ us)) ≡ sum_by weight (frames us) + sum_by weight (frame u ∷ []) =
    ap (sum_by weight) (reverse-append (frame u ∷ []) (map frame us)) ∙ sum_by-append weight (frames us) (frame u ∷ []) in
    let one : sum_by weight (frame u ∷ []) ≡ weight (frame u) + 0 = sum_by-cons weight (frame u) [] in
    let more = sum_by-cons (λ u. weight (frame u)) u us in
    let rest = frames-weight us in
    last ∙ (omega arith)

pub afoot : (p : Progress) → state_of p ≢ Astray
afoot (progress.Needed stack setting) is = cc
afoot (progress.Operand a stack setting) is = cc
afoot (progress.Calling f stack setting) is = cc
afoot (progress.Between bs ss) is = cc
afoot (progress.Named x line bs ss) is = cc
afoot (progress.Looping line bs ss) is = cc
afoot (progress.LoopNamed x line bs ss) is = cc
afoot (progress.Over ss) is = cc
