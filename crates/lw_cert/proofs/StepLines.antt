-- The subproofs of a proof's first step, and the lines of its steps.
use Rattle.std.proofs.Common.{◌≡◌, ℕ, zero, suc, ◌+◌, ◌≤◌, List, [], ◌∷◌, ◌++◌, length, drop, Some, refl, sym, ◌∙◌, ap, add-one}
use Rattle.std.specs.List.{slice_get}
use Rattle.std.proofs.lemmas.List.{drop_all}
use Rattle.std.proofs.lemmas.Option.{none-some}
use Rattle.lw_formula.specs.Formula.{Formula}
use Rattle.lw_pool.specs.declared.id.SignedId.{SignedId}
use Rattle.lw_pool.specs.Region.{signed_at}
use Rattle.lw_proof.specs.Pooled.{proof_at}
use Rattle.lw_proof.specs.Tree.{Tree, Forest, node, none, more, forest, listed, subs_of, rule_of, principal_of, map_forest}
use Rattle.lw_cert.specs.Lines.{Line, step_is}
use Rattle.lw_cert.specs.Sheet.{steps, all_steps}
use Rattle.lw_cert.specs.Written.{text_of_lines}
use Rattle.lw_cert.specs.Private.LineWriting.{Writes, Leaves, left_steps}

forest-listed : {A : Type 0} (f : Forest A) → forest (listed f) ≡ f
forest-listed none = refl
forest-listed (more t ts) = ap (more t) (forest-listed ts)

drop-at : {X : Type 0} (xs : List X) (i : ℕ) (x : X) → slice_get xs i ≡ Some x → drop i xs ≡ x ∷ drop (suc i) xs
drop-at [] i x e = absurd (none-some x e)
drop-at (y ∷ ys) zero x e = let s : y ≡ x = cc in ap (λ z. z ∷ ys) s
drop-at (y ∷ ys) (suc i) x e = drop-at ys i x e

-- the steps of a proof are its first and those of its subproofs
pub steps-begun : (ts : List Formula) (P : Tree SignedId) (d : ℕ) (rest : List Line) → steps d (proof_at ts P) rest ≡ step_is d (rule_of P) (signed_at ts (principal_of P)) ∷ left_steps ts P 0 d rest
steps-begun ts (node r x f) d rest = ap (λ g. step_is d r (signed_at ts x) ∷ all_steps (suc d) (map_forest (signed_at ts) g) rest) (sym (forest-listed f))

-- the line of the first step was written
pub steps-first : (ts : List Formula) (P : Tree SignedId) (d : ℕ) (a b : List ℕ) → Writes a b (λ rest. step_is d (rule_of P) (signed_at ts (principal_of P)) ∷ rest) → Leaves a b (steps d (proof_at ts P)) (left_steps ts P 0 d)
steps-first ts P d a b first = λ rest. first (left_steps ts P 0 d rest) ∙ ap (λ ls. a ++ text_of_lines ls) (sym (steps-begun ts P d rest))

-- the next subproof was written
pub steps-next : (ts : List Formula) (P u : Tree SignedId) (i d : ℕ) (old a b : List ℕ) (whole : List Line → List Line) → slice_get (subs_of P) i ≡ Some u
    → Leaves old a whole (left_steps ts P i d) → Writes a b (steps (suc d) (proof_at ts u)) → Leaves old b whole (left_steps ts P (i + 1) d)
steps-next ts P u i d old a b whole at leaves next = λ rest.
    ap (λ j. b ++ text_of_lines (left_steps ts P j d rest)) (add-one i)
    ∙ next (left_steps ts P (suc i) d rest)
    ∙ ap (λ us. a ++ text_of_lines (all_steps (suc d) (map_forest (signed_at ts) (forest us)) rest)) (sym (drop-at (subs_of P) i u at))
    ∙ leaves rest

-- no subproof is left
pub steps-over : (ts : List Formula) (P : Tree SignedId) (i d : ℕ) (old a : List ℕ) (whole : List Line → List Line) → length (subs_of P) ≤ i → Leaves old a whole (left_steps ts P i d) → Writes old a whole
steps-over ts P i d old a whole over leaves = λ rest.
    sym (ap (λ us. a ++ text_of_lines (all_steps (suc d) (map_forest (signed_at ts) (forest us)) rest)) (drop_all i (subs_of P) over)) ∙ leaves rest
