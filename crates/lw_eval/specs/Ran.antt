-- What an answer of the program says of a run.
use Rattle.std.specs.Prelude.{◌≡◌, ℕ, List, Option, Result, Ok, Err, ⊤}
use Rattle.lw_io.specs.Output.{Adds}
use Rattle.lw_eval.specs.declared.run_fault.RunFault.{RunFault}
use Rattle.lw_eval.specs.declared.run_fault.RunFault.TheVariants as fault
use Rattle.lw_eval.specs.Expressions.{Variables}
use Rattle.lw_eval.specs.Runs.{Act, End, Done, Stopped, Cut}

-- the end of a run that the answer tells: a sink that failed and want of memory cut it
abbrev pub IsEnd : Result ⊤ RunFault → End → Type 0
IsEnd (Ok _) end = end ≡ Done
IsEnd (Err (fault.Stopped line t)) end = end ≡ Stopped line t
IsEnd (Err fault.SinkFailed) end = end ≡ Cut
IsEnd (Err fault.Memory) end = end ≡ Cut

-- there is a run from the variables before and no steps to the variables after, with the end that the answer tells; what
-- was written before, where it is told, has grown by what the run writes
pub record Ran (act : Act) (before after : Variables) (written now : Option (List ℕ)) (result : Result ⊤ RunFault) : Type 0 where
  pub steps : ℕ
  pub out : List ℕ
  pub end : End
  pub run : act before 0 after steps out end
  pub adds : Adds written now out
  pub ends : IsEnd result end
