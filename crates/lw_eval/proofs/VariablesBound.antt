-- What a script variable has, as it is seen.
use Rattle.std.proofs.Common.{◌≡◌, ◌∙◌, ap, sym, ℕ, List, Some, None}
use Rattle.lw_formula.specs.Formula.{Formula}
use Rattle.lw_pool.specs.declared.id.FormId.{FormId}
use Rattle.lw_value.specs.Values.{Val, seen}
use Rattle.lw_value.specs.Assignments.{value_at, variables_seen}
use Rattle.lw_value.proofs.VariablesSeen.{value_at_found, value_at_unbound}
use Rattle.lw_eval.specs.declared.trouble.Trouble.TheVariants.{Unbound}
use Rattle.lw_eval.specs.Evaluations.{Got, Fails, found_or}

pub found : (ts : List Formula) (ps : List (List ℕ × Val FormId)) (x : List ℕ) (v w : Val FormId) → Some v ≡ value_at ps x → w ≡ v →
    Got (seen ts w) ≡ found_or (Unbound x) (value_at (variables_seen ts ps) x)
found ts ps x v w p q = ap (λ u. Got (seen ts u)) q ∙ ap (found_or (Unbound x)) (sym (value_at_found ts ps x v (sym p)))

pub unbound : (ts : List Formula) (ps : List (List ℕ × Val FormId)) (x y : List ℕ) → None ≡ value_at ps x → y ≡ x →
    Fails (Unbound y) ≡ found_or (Unbound x) (value_at (variables_seen ts ps) x)
unbound ts ps x y p q = ap (λ z. Fails (Unbound z)) q ∙ ap (found_or (Unbound x)) (sym (value_at_unbound ts ps x (sym p)))
