-- A command whose script never stops isn't answered with the status of a fault.
use Rattle.std.proofs.Common.{◌≡◌, ℕ, List, Option, Some, None, sym, ◌∙◌, subst, arith}
use Rattle.std.proofs.lemmas.Option.{same_Some}
use Rattle.lw_io.specs.Files.{Files}
use Rattle.lw_ast.specs.declared.fault.ScriptFault.TheVariants.{Syntax, Memory}
use Rattle.lw_ast.specs.declared.fault.SyntaxWhy.{SyntaxWhy}
use Rattle.lw_ast.specs.ScriptLexemes.{ScriptLexeme}
use Rattle.lw_ast.specs.ScriptFaults.{HasOneScript, HasOneScriptAnswer}
use Rattle.lw_eval.specs.Runs.{Stopped}
use Rattle.lw_eval.specs.Outputs.{Allows}
use Rattle.lw_cli.specs.declared.asked.Command.{Command}
use Rattle.lw_cli.specs.declared.asked.Command.TheVariants.{Run, Check, Gen}
use Rattle.lw_cli.proofs.AskedCommands.{one_command}
use Rattle.lw_cli.specs.RunOutcomes as run
use Rattle.lw_cli.specs.RunOutcomes.{RunOutcome}
use Rattle.lw_cli.specs.Headline.{AsksFor, Answers}
use Rattle.lw_cli.specs.Completeness.{IsSoundScript, RunsSoundScript}

syntax_or_memory : (line column : ℕ) (why : SyntaxWhy) → Syntax line column why ≡ Memory → ⊥
syntax_or_memory line column why is = absurd (cc)

-- such a script has no other outcome
sound_is_done : ((ts : List ScriptLexeme) → HasOneScript ts) → ((text : List ℕ) → HasOneScriptAnswer text) → (bytes out : List ℕ) (status : ℕ) → IsSoundScript bytes → RunOutcome bytes out status → status ≡ 1 → ⊥
sound_is_done one_script one_answer bytes _ _ sound (run.too_long long) one = let short = sound.short in omega (arith, long, short)
sound_is_done one_script one_answer bytes _ _ sound (run.refused line column why short told) one = syntax_or_memory line column why (one_answer bytes sound.script (Syntax line column why) sound.reads told)
sound_is_done one_script one_answer bytes _ _ sound (run.done s out short reads allows) one = omega (arith, one)
sound_is_done one_script one_answer bytes _ _ sound (run.stopped s out line t short reads allows) one =
    sound.never out line t (subst (λ s. Allows s out (Stopped line t)) (one_script _ s sound.script reads.1 sound.reads.1) allows)

sound_is_answered : ((ts : List ScriptLexeme) → HasOneScript ts) → ((text : List ℕ) → HasOneScriptAnswer text) → (command : Command) (holds : Option Files) (before now : Option (List ℕ)) (status : ℕ) → RunsSoundScript holds command
    → Answers command holds before now status → status ≡ 1 → ⊥
sound_is_answered one_script one_answer (Run file) None before now status runs answers one = absurd runs
sound_is_answered one_script one_answer (Run file) (Some files) before now status runs answers one =
    sound_is_done one_script one_answer runs.0 answers.out status runs.2
    (subst (λ bytes. RunOutcome bytes answers.out status) (same_Some _ _ (sym answers.output.read ∙ runs.1)) answers.output.outcome) one
sound_is_answered one_script one_answer (Check file) holds before now status runs answers one = absurd runs
sound_is_answered one_script one_answer (Gen n) holds before now status runs answers one = absurd runs

-- so a command that runs it isn't answered with 1
pub sound_is_carried : ((ts : List ScriptLexeme) → HasOneScript ts) → ((text : List ℕ) → HasOneScriptAnswer text) → (words : List (List ℕ)) (holds : Option Files) (before now : Option (List ℕ)) (status : ℕ) → AsksFor words (RunsSoundScript holds)
    → (status ≡ 1 → AsksFor words (λ command. Answers command holds before now status)) → status ≡ 1 → ⊥
sound_is_carried one_script one_answer words holds before now status asks answered one =
    let other = answered one in
    sound_is_answered one_script one_answer other.0 holds before now status (subst (RunsSoundScript holds) (one_command words asks.0 other.0 asks.1 other.1) asks.2) other.2 one
