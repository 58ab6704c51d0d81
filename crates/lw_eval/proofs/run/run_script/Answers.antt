use Rattle.lw_ast.specs.ScriptViews.{statements}
use Rattle.lw_eval.proofs.EvidenceKept.{run_keeps}
use Rattle.lw_eval.proofs.run.run_script.Goals as goal

pub returns-clause-evidence : goal.returns-clause-evidence
returns-clause-evidence g c = run_keeps (statements c.args.script.now.body) _ _ _ _ _ _ c.run_block.ensures.run.run c.requires.evidence
