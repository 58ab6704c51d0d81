-- The seeds of children, and the proof that a closed child makes.
use Rattle.std.proofs.Common.{◌≡◌, ℕ, ◌<◌, true, false, ◌&&◌, eqb, nat_eq, List, [], ◌∷◌, ◌++◌, refl, sym, ap, subst, ◌∙◌}
use Rattle.std.specs.List.{list_any}
use Rattle.std.proofs.lemmas.Bool.{eq-eqb, or_left, or_right}
use Rattle.lw_formula.specs.declared.logic.Logic.{Logic}
use Rattle.lw_formula.specs.declared.logic.Logic.TheVariants.{S5}
use Rattle.lw_formula.specs.declared.parts.Parts.TheVariants.{Pi}
use Rattle.lw_pool.specs.declared.id.SignedId.{SignedId}
use Rattle.lw_proof.specs.declared.rule.Rule.{Rule}
use Rattle.lw_proof.specs.Derivation.{added, is_modal_part, is_pi, kept, plus, premises, ClosedAll}
use Rattle.lw_proof.specs.Lean.{GrowAll}
use Rattle.lw_proof.specs.System.{Set, IsWithin}
use Rattle.lw_proof.specs.Tree.{Tree, node, none, more}
use Rattle.lw_closure.specs.Table.{Table, entry_at, item_at, item_count}
use Rattle.lw_closure.specs.Items.{cuts, items}
use Rattle.lw_sat.specs.Closing.{Closes}
use Rattle.lw_sat.specs.Sets.{adding, among}
use Rattle.lw_sat.proofs.SaturationCourse.{seed_more}
use Rattle.lw_search.specs.Step.{seed}

-- the modal items of a set
abbrev pub modal_of : Table → Set ℕ → Set ℕ
modal_of t R i = is_modal_part (entry_at t i).parts && R i

-- the modal items of the root's label and the component are the seed of a step in S5
pub seed_listed : (t : Table) (R : Set ℕ) (item c : ℕ) (xs : List ℕ) → t.logic ≡ S5 → among xs ≡ modal_of t R → among (xs ++ c ∷ []) ≡ seed t R item c
seed_listed t R item c xs logic e =
    let P : Logic → Type 0 = λ L. adding (c ∷ []) (modal_of t R) ≡ plus (items t) (added (items t) L item c) (kept (items t) L R) in
    sym (seed_more xs c) ∙ ap (adding (c ∷ [])) e ∙ subst P (sym logic) refl

-- the seed has what the step keeps
pub seed_keeps : (t : Table) (R : Set ℕ) (item c : ℕ) → IsWithin (kept (items t) t.logic R) (seed t R item c)
seed_keeps t R item c i e = or_right (list_any (λ d. nat_eq d i) (added (items t) t.logic item c)) (kept (items t) t.logic R i) e

-- in S5 it has the component
pub seed_begins : (t : Table) (R : Set ℕ) (item c : ℕ) → t.logic ≡ S5 → seed t R item c c ≡ true
seed_begins t R item c logic =
    let P : Logic → Type 0 = λ L. plus (items t) (added (items t) L item c) (kept (items t) L R) c ≡ true in
    subst P (sym logic) (or_left (among (c ∷ []) c) (modal_of t R c) (or_left (eqb c c) false (eq-eqb c c refl)))

-- a proof that closes the seed of a step closes with the Step what the step began from
pub step_closes : (t : Table) (R : Set ℕ) (item c : ℕ) (p : Tree SignedId) → item < item_count t → R item ≡ true → (entry_at t item).parts ≡ Pi c →
    Closes t (seed t R item c) p → Closes t R (node Rule.Step (item_at t item) (more p none))
step_closes t R item c p below there parts h = record {
  tree = node Rule.Step item (more h.tree none);
  named = ap (λ q. node Rule.Step (item_at t item) (more q none)) h.named;
  principals = (below, (h.principals, tt));
  closes = (
    (subst (λ r. is_pi r ≡ true) (sym parts) refl, there),
    subst (λ r. ClosedAll (items t) (cuts t) t.logic (premises (items t) t.logic Rule.Step item r R) (more h.tree none)) (sym parts) (h.closes, tt),
  );
  grows = (tt, subst (λ r. GrowAll (items t) t.logic (premises (items t) t.logic Rule.Step item r R) (more h.tree none)) (sym parts) (h.grows, tt));
}
