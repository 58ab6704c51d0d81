use Rattle.std.proofs.Common.{List, refl, sym, subst}
use Rattle.lw_pool.specs.declared.id.FormId.{FormId}
use Rattle.lw_ast.specs.ScriptViews.{expressions}
use Rattle.lw_value.specs.Values.{Val, vals, seen_all}
use Rattle.lw_value.specs.Evidence.{HaveWorlds}
use Rattle.lw_value.specs.Assignments.{variables_seen}
use Rattle.lw_value.proofs.EvidenceSeen.{evidence_have_worlds}
use Rattle.lw_eval.specs.Expressions.{Evals}
use Rattle.lw_eval.specs.Runs.{With, Prints}
use Rattle.lw_eval.specs.Private.Carried.{Carries, OrCut}
use Rattle.lw_eval.proofs.EvidenceKept.{evals_evident}
use Rattle.lw_eval.proofs.TroublesAtLines.{fault_given}
use Rattle.lw_eval.proofs.RunsCarried.{carries_fault, carries_value_or_cut}
use Rattle.lw_eval.proofs.print.print_values.Goals as goal

pub write_line-requires-clause-worlds : goal.write_line-requires-clause-worlds
write_line-requires-clause-worlds g c = subst (λ (vs : List (Val FormId)). HaveWorlds (vals vs)) (sym c.as_slice.ensures)
    (evidence_have_worlds c.eval_all.new.pool (vals c.in-Ok.values) (evals_evident _ (expressions c.args.exprs.now) _ c.requires.evidence c.in-Ok.ensures.value))

pub returns-in-Ok-clause-run : goal.returns-in-Ok-clause-run
returns-in-Ok-clause-run g c = λ k. carries_value_or_cut c.args.line (λ env. Evals env (expressions c.args.exprs.now)) (Prints c.args.line) (seen_all c.eval_all.new.pool (vals c.in-Ok.values))
    _ _ _ k k _ _ _ c.in-Ok.ensures.value refl
    (subst (λ (vs : List (Val FormId)). Carries (OrCut (Prints c.args.line (seen_all c.eval_all.new.pool (vals vs)))) (variables_seen c.args.pool.now c.args.env.now) k
    (variables_seen c.args.pool.now c.args.env.now) k (g.K.Sink.written c.args.sink.now) (g.K.Sink.written c.write_line.new.sink) c.write_line.result)
    c.as_slice.ensures (c.write_line.ensures.run (variables_seen c.args.pool.now c.args.env.now) k))

pub returns-in-Err-clause-run : goal.returns-in-Err-clause-run
returns-in-Err-clause-run g c = λ k. carries_fault _ _ _ k k c.args.line (Evals (variables_seen c.args.pool.now c.args.env.now) (expressions c.args.exprs.now)) c.at_line.result _
    OrCut.cut_first (λ t gives. OrCut.does (With.trouble gives)) refl (fault_given c.args.line (Evals (variables_seen c.args.pool.now c.args.env.now) (expressions c.args.exprs.now)) _ _ c.in-Err.ensures.value c.at_line.ensures)
