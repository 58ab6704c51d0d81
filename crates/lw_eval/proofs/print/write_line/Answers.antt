use Rattle.std.proofs.Common.{◌<◌, ◌≤◌, refl, sym, subst, arith}
use Rattle.lw_read.specs.declared.pool_printer.TheConstants.{LONGEST_TEXT}
use Rattle.lw_value.specs.ValueTexts.{line_measure, IsLineOf}
use Rattle.lw_eval.specs.Private.Given.{all_shown_in}
use Rattle.lw_eval.specs.Private.Carried.{OrCut}
use Rattle.lw_eval.specs.Runs.{Prints}
use Rattle.lw_eval.proofs.RunsCarried.{carries_memory, carries_trouble, carries_printed, carries_part}
use Rattle.lw_eval.proofs.print.write_line.Goals as goal

pub returns-in_default-clause-run : goal.returns-in_default-clause-run
returns-in_default-clause-run g c = λ env k. carries_memory _ env env k k _ OrCut.cut_first refl

pub returns-then-measure-gt-LONGEST_TEXT-clause-run : goal.returns-then-measure-gt-LONGEST_TEXT-clause-run
returns-then-measure-gt-LONGEST_TEXT-clause-run g c =
    let long : LONGEST_TEXT < line_measure (all_shown_in c.args.pool.now c.args.values.now) = omega (arith, c.in-Ok.ensures) in
    λ env k. carries_trouble _ env env k k c.args.line _ _ (OrCut.does (Prints.too_long long)) refl

pub returns-in_default-line_text-clause-run : goal.returns-in_default-line_text-clause-run
returns-in_default-line_text-clause-run g c = λ env k. carries_memory _ env env k k _ OrCut.cut_first refl

pub returns-in-Ok-write_text-clause-run : goal.returns-in-Ok-write_text-clause-run
returns-in-Ok-write_text-clause-run g c =
    let short : line_measure (all_shown_in c.args.pool.now c.args.values.now) ≤ LONGEST_TEXT = omega (arith, c.in-Ok.ensures) in
    λ env k. carries_printed c.args.line (all_shown_in c.args.pool.now c.args.values.now) c.as_slice.result.now env k _ _ short
    (subst (IsLineOf (all_shown_in c.args.pool.now c.args.values.now)) (sym c.as_slice.ensures.value) c.in-Ok-line_text.ensures) c.in-Ok-write_text.ensures.whole

pub returns-clause-run : goal.returns-clause-run
returns-clause-run g c =
    let short : line_measure (all_shown_in c.args.pool.now c.args.values.now) ≤ LONGEST_TEXT = omega (arith, c.in-Ok.ensures) in
    λ env k. carries_part c.args.line (all_shown_in c.args.pool.now c.args.values.now) c.as_slice.result.now env k _ _ short
    (subst (IsLineOf (all_shown_in c.args.pool.now c.args.values.now)) (sym c.as_slice.ensures.value) c.in-Ok-line_text.ensures) c.in-Err.ensures.part
