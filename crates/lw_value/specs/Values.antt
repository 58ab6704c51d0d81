-- Values of scripts. What stands at a formula is left open: an id of a pool in programs, the formula itself for readers.
use Rattle.std.specs.Prelude.{ℕ, zero, suc, ◌+◌, Bool, List, [], ◌∷◌, Option, None, Some, ⊤}
use Rattle.lw_formula.specs.declared.sign.Sign.{Sign}
use Rattle.lw_formula.specs.declared.logic.Logic.{Logic}
use Rattle.lw_formula.specs.FiniteModel.{FiniteModel}
use Rattle.lw_formula.specs.Formula.{Formula}
use Rattle.lw_pool.specs.declared.id.FormId.{FormId}
use Rattle.lw_pool.specs.Region.{tree_at, IsLive}
use Rattle.lw_proof.specs.Tree.{Tree, map_tree, EachPrincipal}

-- what a certificate shows of its formula: a proof, or a model and a world of it
pub data Evidence (A : Type 0) : Type 0 where
  proved : Tree (Sign × A) → Evidence A
  refuted : FiniteModel → ℕ → Evidence A

mutual
  -- a value, by its kind
  pub data Val (A : Type 0) : Type 0 where
    formula : A → Val A
    truth : Bool → Val A
    number : ℕ → Val A
    text : List ℕ → Val A
    items : Vals A → Val A
    logic : Logic → Val A
    certificate : Logic → A → Evidence A → Val A
    naught : Val A

  -- values in order
  pub data Vals (A : Type 0) : Type 0 where
    empty : Vals A
    item : Val A → Vals A → Vals A

-- the values of a list, in its order
abbrev pub vals : {A : Type 0} → List (Val A) → Vals A
vals [] = empty
vals (v ∷ vs) = item v (vals vs)

-- the n-th item, from 1, if there is one
abbrev pub item_at : {A : Type 0} → Vals A → ℕ → Option (Val A)
item_at empty n = None
item_at (item v vs) zero = None
item_at (item v vs) (suc zero) = Some v
item_at (item v vs) (suc (suc n)) = item_at vs (suc n)

-- the items with one more behind them
abbrev pub with_last : {A : Type 0} → Vals A → Val A → Vals A
with_last empty v = item v empty
with_last (item w ws) v = item w (with_last ws v)

-- 1, and for a list 1 more than the weights of its items
abbrev mutual
  pub weight : {A : Type 0} → Val A → ℕ
  weight (formula a) = 1
  weight (truth b) = 1
  weight (number n) = 1
  weight (text bytes) = 1
  weight (items vs) = weights vs + 1
  weight (logic l) = 1
  weight (certificate l a e) = 1
  weight naught = 1

  pub weights : {A : Type 0} → Vals A → ℕ
  weights empty = 0
  weights (item v vs) = weight v + weights vs

-- the same evidence with f of each formula
abbrev pub shown_by : {A B : Type 0} → (A → B) → Evidence A → Evidence B
shown_by f (proved t) = proved (map_tree (λ s. (s.0, f s.1)) t)
shown_by f (refuted m w) = refuted m w

-- the same value with f of each formula
abbrev mutual
  pub shown : {A B : Type 0} → (A → B) → Val A → Val B
  shown f (formula a) = formula (f a)
  shown f (truth b) = truth b
  shown f (number n) = number n
  shown f (text bytes) = text bytes
  shown f (items vs) = items (shown_all f vs)
  shown f (logic l) = logic l
  shown f (certificate l a e) = certificate l (f a) (shown_by f e)
  shown f naught = naught

  pub shown_all : {A B : Type 0} → (A → B) → Vals A → Vals B
  shown_all f empty = empty
  shown_all f (item v vs) = item (shown f v) (shown_all f vs)

-- P holds of each formula in the evidence
abbrev pub EachShown : {A : Type 0} → (A → Type 0) → Evidence A → Type 0
EachShown P (proved t) = EachPrincipal (λ s. P s.1) t
EachShown P (refuted m w) = ⊤

-- P holds of each formula in the value
abbrev mutual
  pub EachFormula : {A : Type 0} → (A → Type 0) → Val A → Type 0
  EachFormula P (formula a) = P a
  EachFormula P (truth b) = ⊤
  EachFormula P (number n) = ⊤
  EachFormula P (text bytes) = ⊤
  EachFormula P (items vs) = EachOfItems P vs
  EachFormula P (logic l) = ⊤
  EachFormula P (certificate l a e) = P a × EachShown P e
  EachFormula P naught = ⊤

  pub EachOfItems : {A : Type 0} → (A → Type 0) → Vals A → Type 0
  EachOfItems P empty = ⊤
  EachOfItems P (item v vs) = EachFormula P v × EachOfItems P vs

-- the value with the formulas of its ids
abbrev pub seen : List Formula → Val FormId → Val Formula
seen ts v = shown (tree_at ts) v

-- the pool has each id of the value
abbrev pub AreLive : List Formula → Val FormId → Type 0
AreLive ts v = EachFormula (IsLive ts) v

-- the values with the formulas of their ids
abbrev pub seen_all : List Formula → Vals FormId → Vals Formula
seen_all ts vs = shown_all (tree_at ts) vs

-- the pool has each id of the values
abbrev pub AreItemsLive : List Formula → Vals FormId → Type 0
AreItemsLive ts vs = EachOfItems (IsLive ts) vs
