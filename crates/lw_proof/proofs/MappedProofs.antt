-- The maps of a proof: one after another, no more Steps than before, and what holds of each principal.
use Rattle.std.proofs.Common.{◌≡◌, ◌+◌, max, refl, ap}
use Rattle.lw_proof.specs.Tree.{Tree, Forest, node, none, more, map_tree, map_forest, EachPrincipal, EachOfAll}
use Rattle.lw_proof.specs.Lean.{own_steps, steps, steps_all}

mutual
  pub twice_mapped : {A B C : Type 0} (f : A → B) (g : B → C) (p : Tree A) → map_tree g (map_tree f p) ≡ map_tree (λ a. g (f a)) p
  twice_mapped f g (node r x ps) = ap (node r (g (f x))) (all_twice_mapped f g ps)

  all_twice_mapped : {A B C : Type 0} (f : A → B) (g : B → C) (ps : Forest A) → map_forest g (map_forest f ps) ≡ map_forest (λ a. g (f a)) ps
  all_twice_mapped f g none = refl
  all_twice_mapped f g (more p ps) = λ i. more (twice_mapped f g p i) (all_twice_mapped f g ps i)

mutual
  pub steps_mapped : {A B : Type 0} (f : A → B) (p : Tree A) → steps (map_tree f p) ≡ steps p
  steps_mapped f (node r x ps) = ap (λ k. own_steps r + k) (all_steps_mapped f ps)

  all_steps_mapped : {A B : Type 0} (f : A → B) (ps : Forest A) → steps_all (map_forest f ps) ≡ steps_all ps
  all_steps_mapped f none = refl
  all_steps_mapped f (more p ps) = λ i. max (steps_mapped f p i) (all_steps_mapped f ps i)

mutual
  pub each_mapped : {A B : Type 0} (f : A → B) (P : A → Type 0) (Q : B → Type 0) → ((a : A) → P a → Q (f a)) → (p : Tree A) → EachPrincipal P p → EachPrincipal Q (map_tree f p)
  each_mapped f P Q h (node r x ps) e = (h x e.0, each_of_all_mapped f P Q h ps e.1)

  each_of_all_mapped : {A B : Type 0} (f : A → B) (P : A → Type 0) (Q : B → Type 0) → ((a : A) → P a → Q (f a)) → (ps : Forest A) → EachOfAll P ps → EachOfAll Q (map_forest f ps)
  each_of_all_mapped f P Q h none e = tt
  each_of_all_mapped f P Q h (more p ps) e = (each_mapped f P Q h p e.0, each_of_all_mapped f P Q h ps e.1)
