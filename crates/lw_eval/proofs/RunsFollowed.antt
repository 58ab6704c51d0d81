-- Runs that follow one another, that are cut, and that have no step left.
use Rattle.std.proofs.Common.{◌≡◌, ℕ, List, ◌++◌, refl, sym, ap, ◌∙◌, append_assoc, arith}
use Rattle.lw_ast.specs.Trees as tree
use Rattle.lw_ast.specs.Trees.{Statements, followed}
use Rattle.lw_eval.specs.Expressions.{Variables}
use Rattle.lw_eval.specs.Runs.{Act, End, Done, Nothing, Then, Step, DoesStep, Run}
use Rattle.lw_eval.specs.Laws.{RunGoesOn, RunFallsApart, RunMayBeCut, StepsEnd}
use Rattle.lw_eval.proofs.RunsCarried.{cut_not_done}

pub goes_on : RunGoesOn
goes_on tree.over ts env env1 env2 k k1 k2 out more end Nothing.nothing run = run
goes_on (tree.then s ss) ts env env1 env2 k k1 k2 out more end (Then.stops first early) run = absurd (early refl)
goes_on (tree.then s ss) ts env env1 env2 k k1 k2 out more end (Then.goes {before = before} {after = after} first rest both) run =
    Then.goes first (goes_on ss ts _ env1 env2 _ k1 k2 after more end rest run) (ap (λ o. o ++ more) both ∙ append_assoc before after more)

-- a part in front is carried out
behind : (first second third : Act) (env env1 env2 : Variables) (k k1 k2 : ℕ) (before after out : List ℕ) (end : End) →
    first env k env1 k1 before Done → out ≡ before ++ after → Then second third env1 k1 env2 k2 after end →
    Then (Then first second) third env k env2 k2 out end
behind first second third env env1 env2 k k1 k2 before after out end run both (Then.stops rest early) = Then.stops (Then.goes run rest both) early
behind first second third env env1 env2 k k1 k2 before after out end run both (Then.goes {before = b} {after = a} rest last parts) =
    Then.goes (Then.goes run rest refl) last (both ∙ ap (λ o. before ++ o) parts ∙ sym (append_assoc before b a))

pub falls_apart : RunFallsApart
falls_apart tree.over ts env env2 k k2 out end run = Then.goes Nothing.nothing run refl
falls_apart (tree.then s ss) ts env env2 k k2 out end (Then.stops first early) = Then.stops (Then.stops first early) early
falls_apart (tree.then s ss) ts env env2 k k2 out end (Then.goes {env1 = env1} {k1 = k1} {before = before} {after = after} first rest both) =
    behind (DoesStep s) (Run ss) (Run ts) env env1 env2 k k1 k2 before after out end first both (falls_apart ss ts env1 env2 k1 k2 after end rest)

pub may_be_cut : RunMayBeCut
may_be_cut tree.over ts (tree.at line kind) env env1 k k1 out Nothing.nothing = Then.stops Step.cut cut_not_done
may_be_cut (tree.then s ss) ts next env env1 k k1 out (Then.stops first early) = absurd (early refl)
may_be_cut (tree.then s ss) ts next env env1 k k1 out (Then.goes {after = after} first rest both) =
    Then.goes first (may_be_cut ss ts next _ env1 _ k1 after rest) both

pub steps_over : StepsEnd
steps_over line kind ss env env2 k k2 out end all (Then.stops Step.cut early) whole = absurd (whole refl)
steps_over line kind ss env env2 k k2 out end all (Then.stops (Step.limit taken) early) whole = (refl, refl, refl, refl)
steps_over line kind ss env env2 k k2 out end all (Then.stops (Step.step below run) early) whole = let bad : ⊥ = omega (arith, all, below) in absurd bad
steps_over line kind ss env env2 k k2 out end all (Then.goes (Step.step below run) rest both) whole = let bad : ⊥ = omega (arith, all, below) in absurd bad
