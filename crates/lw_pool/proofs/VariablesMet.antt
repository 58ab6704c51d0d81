-- The variables of a formula, met among its subformulas.
use Rattle.std.proofs.Common.{◌≡◌, ◌↔◌, ℕ, ◌+◌, ◌<◌, ◌⊎◌, inl, inr, ⊎_elim, List, [], length, get_or, sym, ap, subst, ◌∙◌, arith, Contains}
use Rattle.std.proofs.lemmas.Bool.{cases_order}
use Rattle.std.proofs.lemmas.List.{get_or_default}
use Rattle.std.proofs.lemmas.List.Elements.{Contains-get_or}
use Rattle.lw_formula.specs.Formula.{Formula, letter, falsum, verum, neg, conj, disj, impl, equi, nec, poss, IsSubformula}
use Rattle.lw_formula.specs.Variables.{Occurs, AreInByteOrder, AreVariables}
use Rattle.lw_formula.proofs.ListMembers.{Contains-nil}
use Rattle.lw_pool.specs.declared.id.FormId.{FormId}
use Rattle.lw_pool.specs.declared.node.Node.{Node}
use Rattle.lw_pool.specs.declared.node.Node.TheVariants.{Var, Bot, Top, Not, And, Or, Imp, Iff, Nec, Poss}
use Rattle.lw_pool.specs.Region.{tree_at, tree_of_node, AreSubformulas}
use Rattle.lw_pool.specs.Private.IdWalk.{IsVariable, AddsOwnName}

within_one : (p : List ℕ) (a f : Formula) → (letter p ≡ f → ⊥) → Occurs p a ↔ IsSubformula (letter p) a → Occurs p a ↔ ((letter p ≡ f) ⊎ IsSubformula (letter p) a)
within_one p a f ne h = (λ o. inr (h.0 o), λ s. ⊎_elim (λ e. absurd (ne e)) (λ t. h.1 t) s)

within_two : (p : List ℕ) (a b f : Formula) → (letter p ≡ f → ⊥) → Occurs p a ↔ IsSubformula (letter p) a → Occurs p b ↔ IsSubformula (letter p) b →
    (Occurs p a ⊎ Occurs p b) ↔ ((letter p ≡ f) ⊎ (IsSubformula (letter p) a ⊎ IsSubformula (letter p) b))
within_two p a b f ne h k = (
  λ o. inr (⊎_elim (λ l. inl (h.0 l)) (λ r. inr (k.0 r)) o),
  λ s. ⊎_elim (λ e. absurd (ne e)) (λ t. ⊎_elim (λ l. inl (h.1 l)) (λ r. inr (k.1 r)) t) s,
)

-- a variable of a formula is a subformula
pub occurs_within : (p : List ℕ) (a : Formula) → Occurs p a ↔ IsSubformula (letter p) a
occurs_within p (letter q) = (λ e. ap letter e, λ e. cc)
occurs_within p falsum = (λ h. absurd h, λ e. cc)
occurs_within p verum = (λ h. absurd h, λ e. cc)
occurs_within p (neg a) = within_one p a (neg a) (λ e. cc) (occurs_within p a)
occurs_within p (conj a b) = within_two p a b (conj a b) (λ e. cc) (occurs_within p a) (occurs_within p b)
occurs_within p (disj a b) = within_two p a b (disj a b) (λ e. cc) (occurs_within p a) (occurs_within p b)
occurs_within p (impl a b) = within_two p a b (impl a b) (λ e. cc) (occurs_within p a) (occurs_within p b)
occurs_within p (equi a b) = within_two p a b (equi a b) (λ e. cc) (occurs_within p a) (occurs_within p b)
occurs_within p (nec a) = within_one p a (nec a) (λ e. cc) (occurs_within p a)
occurs_within p (poss a) = within_one p a (poss a) (λ e. cc) (occurs_within p a)

-- a node is a variable where its formula is
pub variable_node : (ts : List Formula) (p : List ℕ) (n : Node) → IsVariable p n ↔ (tree_of_node ts n ≡ letter p)
variable_node ts p (Var q) = (λ e. ap letter (sym e), λ e. cc)
variable_node ts p Bot = (λ h. absurd h, λ e. cc)
variable_node ts p Top = (λ h. absurd h, λ e. cc)
variable_node ts p (Not a) = (λ h. absurd h, λ e. cc)
variable_node ts p (And a b) = (λ h. absurd h, λ e. cc)
variable_node ts p (Or a b) = (λ h. absurd h, λ e. cc)
variable_node ts p (Imp a b) = (λ h. absurd h, λ e. cc)
variable_node ts p (Iff a b) = (λ h. absurd h, λ e. cc)
variable_node ts p (Nec a) = (λ h. absurd h, λ e. cc)
variable_node ts p (Poss a) = (λ h. absurd h, λ e. cc)

-- one of the first i ids is the variable's
abbrev pub IsMet : List Formula → List FormId → ℕ → List ℕ → Type 0
IsMet ts ids i p = (k : ℕ) × (k < i) × (tree_at ts (get_or ids k (record { 0 = 0 })) ≡ letter p)

-- the names are the variables among the first i ids
pub record AreNamesSoFar (ts : List Formula) (ids : List FormId) (i : ℕ) (names : List (List ℕ)) : Type 0 where
  pub met : (p : List ℕ) → Contains names p ↔ IsMet ts ids i p
  pub ordered : AreInByteOrder names

pub no_names : (ts : List Formula) (ids : List FormId) → AreNamesSoFar ts ids 0 []
no_names ts ids = record {
  met = λ p. (λ h. absurd (Contains-nil p h), λ h. absurd (omega (arith, h.1)));
  ordered = λ i j d l m. absurd (omega arith);
}

pub names_step : (ts : List Formula) (ids : List FormId) (i : ℕ) (n : Node) (b : FormId) (old new : List (List ℕ)) → b ≡ get_or ids i (record { 0 = 0 }) → tree_of_node ts n ≡ tree_at ts b →
    AreNamesSoFar ts ids i old → AddsOwnName n old new → AreNamesSoFar ts ids (i + 1) new
names_step ts ids i n b old new e t h a =
    let same : tree_of_node ts n ≡ tree_at ts (get_or ids i (record { 0 = 0 })) = t ∙ ap (tree_at ts) e in
    record {
      met = λ p. (
        λ m. elim ((a.names p).0 m) [
          | inl o ↦ (let k = (h.met p).0 o in (k.0, omega (arith, k.1), k.2))
          | inr v ↦ (i, omega arith, sym same ∙ (variable_node ts p n).0 v)
        ],
        λ m. elim (cases_order m.0 i) [
          | inl f ↦ (a.names p).1 (inr ((variable_node ts p n).1 (same ∙ ap (λ (k : ℕ). tree_at ts (get_or ids k (record { 0 = 0 }))) (sym f) ∙ m.2)))
          | inr q ↦ elim q [ inl l ↦ (a.names p).1 (inl ((h.met p).1 (m.0, l, m.2))) | inr l ↦ absurd (omega (arith, m.1)) ]
        ],
      );
      ordered = a.ordered;
    }

pub names_done : (ts : List Formula) (a : FormId) (ids : List FormId) (i : ℕ) (names : List (List ℕ)) → AreSubformulas ts a ids → i ≡ length ids → AreNamesSoFar ts ids i names → AreVariables (tree_at ts a) names
names_done ts a ids i names s e h = record {
  variables = λ p. (
    λ m.
        let k = (h.met p).0 m in
        let l : k.0 < length ids = omega (arith, k.1) in
        let part : IsSubformula (tree_at ts (get_or ids k.0 (record { 0 = 0 }))) (tree_at ts a) = ((s.exact (get_or ids k.0 (record { 0 = 0 }))).0 (Contains-get_or ids k.0 (record { 0 = 0 }) l)).1 in
        (occurs_within p (tree_at ts a)).1 (subst (λ (u : Formula). IsSubformula u (tree_at ts a)) k.2 part),
    λ o.
        let b = s.each (letter p) ((occurs_within p (tree_at ts a)).0 o) in
        let place : Contains ids b.0 = b.1 in
        let there : get_or ids place.0 (record { 0 = 0 }) ≡ b.0 = get_or_default ids place.0 (record { 0 = 0 }) b.0 place.1 ∙ place.2 in
        (h.met p).1 (place.0, omega (arith, place.1), ap (tree_at ts) there ∙ b.2),
  );
  ordered = h.ordered;
}
