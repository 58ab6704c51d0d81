-- The subproofs of a proof's first step.
use Rattle.std.proofs.Common.{◌≡◌, ℕ, ◌+◌, ◌<◌, ◌≤◌, suc, zero, List, [], ◌∷◌, length, map, Some, refl, ap, subst, arith}
use Rattle.std.specs.List.{slice_get}
use Rattle.std.proofs.lemmas.Option.{none-some}
use Rattle.lw_proof.specs.Tree.{Tree, Forest, node, none, more, forest, listed, subs_of, principal_of, count_of, lines, lines_all, map_tree, map_forest, EachPrincipal, EachOfAll}

lines_among : {A : Type 0} (f : Forest A) (i : ℕ) (u : Tree A) → slice_get (listed f) i ≡ Some u → lines u ≤ lines_all f
lines_among none i u e = absurd (none-some u e)
lines_among (more t ts) zero u e = let s : t ≡ u = cc in let n : lines t ≡ lines u = ap lines s in omega arith
lines_among (more t ts) (suc i) u e = let h : lines u ≤ lines_all ts = lines_among ts i u e in omega arith

-- a subproof has fewer steps
pub sub_smaller : {A : Type 0} (t : Tree A) (i : ℕ) (u : Tree A) → slice_get (subs_of t) i ≡ Some u → lines u < lines t
sub_smaller (node r x f) i u e = let h : lines u ≤ lines_all f = lines_among f i u e in omega arith

each_among : {A : Type 0} (P : A → Type 0) (f : Forest A) (i : ℕ) (u : Tree A) → slice_get (listed f) i ≡ Some u → EachOfAll P f → EachPrincipal P u
each_among P none i u e h = absurd (none-some u e)
each_among P (more t ts) zero u e h = let s : t ≡ u = cc in subst (EachPrincipal P) s h.0
each_among P (more t ts) (suc i) u e h = each_among P ts i u e h.1

-- what holds of each principal of a proof holds of each of a subproof
pub each_sub : {A : Type 0} (P : A → Type 0) (t : Tree A) (i : ℕ) (u : Tree A) → slice_get (subs_of t) i ≡ Some u → EachPrincipal P t → EachPrincipal P u
each_sub P (node r x f) i u e h = each_among P f i u e h.1

-- and of the first principal
pub each_first : {A : Type 0} (P : A → Type 0) (t : Tree A) → EachPrincipal P t → P (principal_of t)
each_first P (node r x f) h = h.0

pub count_mapped : {A B : Type 0} (g : A → B) (f : Forest A) → count_of (map_forest g f) ≡ length (listed f)
count_mapped g none = refl
count_mapped g (more t ts) = let h : count_of (map_forest g ts) ≡ length (listed ts) = count_mapped g ts in omega arith

pub forest_mapped : {A B : Type 0} (g : A → B) (f : Forest A) → map_forest g f ≡ forest (map (λ t. map_tree g t) (listed f))
forest_mapped g none = refl
forest_mapped g (more t ts) = ap (more (map_tree g t)) (forest_mapped g ts)

mutual
  pub lines_mapped : {A B : Type 0} (g : A → B) (t : Tree A) → lines (map_tree g t) ≡ lines t
  lines_mapped g (node r x f) = ap (λ k. k + 1) (lines_all_mapped g f)

  lines_all_mapped : {A B : Type 0} (g : A → B) (f : Forest A) → lines_all (map_forest g f) ≡ lines_all f
  lines_all_mapped g none = refl
  lines_all_mapped g (more t ts) = λ i. lines_mapped g t i + lines_all_mapped g ts i

lines_listed : {A : Type 0} (f : Forest A) → lines_all (forest (listed f)) ≡ lines_all f
lines_listed none = refl
lines_listed (more t ts) = ap (λ k. lines t + k) (lines_listed ts)

-- the steps of a proof are its first and those of its subproofs
pub lines_first : {A : Type 0} (t : Tree A) → lines t ≡ lines_all (forest (subs_of t)) + 1
lines_first (node r x f) = let h : lines_all (forest (listed f)) ≡ lines_all f = lines_listed f in omega arith

pub no_member : {X : Type 0} (us : List X) → length us ≡ 0 → us ≡ []
no_member [] e = refl
no_member (u ∷ us) e = absurd (omega arith)

pub one_member : {X : Type 0} (us : List X) (u : X) → length us ≡ 1 → slice_get us 0 ≡ Some u → us ≡ u ∷ []
one_member [] u e a = absurd (omega arith)
one_member (x ∷ xs) u e a = let s : x ≡ u = cc in let n : length xs ≡ 0 = omega arith in λ i. s i ∷ no_member xs n i

pub two_members : {X : Type 0} (us : List X) (u v : X) → length us ≡ 2 → slice_get us 0 ≡ Some u → slice_get us 1 ≡ Some v → us ≡ u ∷ v ∷ []
two_members [] u v e a b = absurd (omega arith)
two_members (x ∷ xs) u v e a b = let s : x ≡ u = cc in let n : length xs ≡ 1 = omega arith in λ i. s i ∷ one_member xs v n b i

pub second_member : {X : Type 0} (us : List X) → length us ≡ 2 → (v : X) × (slice_get us 1 ≡ Some v)
second_member [] e = absurd (omega arith)
second_member (x ∷ []) e = absurd (omega arith)
second_member (x ∷ v ∷ vs) e = (v, refl)
