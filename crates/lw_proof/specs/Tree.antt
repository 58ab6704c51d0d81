-- Proof trees. What the principals are is left open: signed formulas in the calculus, ids or numbers in programs.
use Rattle.std.specs.Prelude.{ℕ, ◌+◌, max, List, [], ◌∷◌, ⊤}
use Rattle.lw_proof.specs.declared.rule.Rule.{Rule}

mutual
  -- a step: its rule, its principal, and a subproof for each premise
  pub data Tree (A : Type 0) : Type 0 where
    node : Rule → A → Forest A → Tree A

  -- proofs in order
  pub data Forest (A : Type 0) : Type 0 where
    none : Forest A
    more : Tree A → Forest A → Forest A

-- how many proofs there are
abbrev pub count_of : {A : Type 0} → Forest A → ℕ
count_of none = 0
count_of (more t ts) = count_of ts + 1

-- the number of steps
abbrev mutual
  pub lines : {A : Type 0} → Tree A → ℕ
  lines (node r x ts) = lines_all ts + 1

  pub lines_all : {A : Type 0} → Forest A → ℕ
  lines_all none = 0
  lines_all (more t ts) = lines t + lines_all ts

-- the number of steps on the longest path
abbrev mutual
  pub depth : {A : Type 0} → Tree A → ℕ
  depth (node r x ts) = depth_all ts + 1

  pub depth_all : {A : Type 0} → Forest A → ℕ
  depth_all none = 0
  depth_all (more t ts) = max (depth t) (depth_all ts)

-- the rule of the first step
abbrev pub rule_of : {A : Type 0} → Tree A → Rule
rule_of (node r x ts) = r

-- what the first step is used on
abbrev pub principal_of : {A : Type 0} → Tree A → A
principal_of (node r x ts) = x

-- the proofs of a list, in its order
abbrev pub forest : {A : Type 0} → List (Tree A) → Forest A
forest [] = none
forest (t ∷ ts) = more t (forest ts)

-- the list of the proofs, in their order
abbrev pub listed : {A : Type 0} → Forest A → List (Tree A)
listed none = []
listed (more t ts) = t ∷ listed ts

-- the subproofs of the first step
abbrev pub subs_of : {A : Type 0} → Tree A → List (Tree A)
subs_of (node r x ts) = listed ts

-- the same proof with f of each principal
abbrev mutual
  pub map_tree : {A B : Type 0} → (A → B) → Tree A → Tree B
  map_tree f (node r x ts) = node r (f x) (map_forest f ts)

  pub map_forest : {A B : Type 0} → (A → B) → Forest A → Forest B
  map_forest f none = none
  map_forest f (more t ts) = more (map_tree f t) (map_forest f ts)

-- P holds of each principal
abbrev mutual
  pub EachPrincipal : {A : Type 0} → (A → Type 0) → Tree A → Type 0
  EachPrincipal P (node r x ts) = P x × EachOfAll P ts

  pub EachOfAll : {A : Type 0} → (A → Type 0) → Forest A → Type 0
  EachOfAll P none = ⊤
  EachOfAll P (more t ts) = EachPrincipal P t × EachOfAll P ts
