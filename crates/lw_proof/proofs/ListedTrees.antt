-- Trees whose subproofs are a list, as the program has them, and what a loop over the list adds up.
use Rattle.std.proofs.Common.{◌≡◌, ℕ, ◌+◌, ◌<◌, max, List, [], ◌∷◌, ◌++◌, length, get_or, take, Some, refl, ap, subst, arith}
use Rattle.std.specs.List.{slice_get}
use Rattle.std.proofs.lemmas.List.{take_more}
use Rattle.std.proofs.lemmas.Option.{slice_get_read}
use Rattle.lw_proof.specs.declared.rule.Rule.{Rule}
use Rattle.lw_proof.specs.Tree.{Tree, node, forest, listed, subs_of, lines, lines_all, depth, depth_all}

listed-forest : {A : Type 0} (ts : List (Tree A)) → listed (forest ts) ≡ ts
listed-forest [] = refl
listed-forest (t ∷ ts) = ap (λ us. t ∷ us) (listed-forest ts)

-- the subproofs of the tree that a proof is seen as
pub subs_seen : {A : Type 0} (r : Rule) (x : A) (ts : List (Tree A)) (t : Tree A) → node r x (forest ts) ≡ t → subs_of t ≡ ts
subs_seen r x ts t e = subst (λ u. subs_of u ≡ ts) e (listed-forest ts)

-- a place among the tree's subproofs is one in the list
pub sub_below : {A : Type 0} (r : Rule) (x : A) (ts : List (Tree A)) (t : Tree A) (i : ℕ) → node r x (forest ts) ≡ t → i < length (subs_of t) → i < length ts
sub_below r x ts t i e h = subst (λ us. i < length us) (subs_seen r x ts t e) h

-- and has the list's proof
pub sub_is : {A : Type 0} (r : Rule) (x : A) (ts : List (Tree A)) (t : Tree A) (i : ℕ) (u : Tree A) → node r x (forest ts) ≡ t → i < length (subs_of t) →
    u ≡ get_or ts i u → slice_get (subs_of t) i ≡ Some u
sub_is r x ts t i u e h is = rw (subs_seen r x ts t e) (slice_get_read ts (length ts) i u refl (sub_below r x ts t i e h) is)

lines_push : {A : Type 0} (ts : List (Tree A)) (t : Tree A) → lines_all (forest (ts ++ t ∷ [])) ≡ lines_all (forest ts) + lines t
lines_push [] t = omega arith
lines_push (u ∷ us) t = omega (arith, lines_push us t)

depth_push : {A : Type 0} (ts : List (Tree A)) (t : Tree A) → depth_all (forest (ts ++ t ∷ [])) ≡ max (depth_all (forest ts)) (depth t)
depth_push [] t = omega arith
depth_push (u ∷ us) t = omega (arith, depth_push us t)

-- one more proof has its lines
pub lines_more : {A : Type 0} (ts : List (Tree A)) (i : ℕ) (d : Tree A) → i < length ts →
    lines_all (forest (take (i + 1) ts)) ≡ lines_all (forest (take i ts)) + lines (get_or ts i d)
lines_more ts i d h = rw (take_more ts i d h) (lines_push (take i ts) (get_or ts i d))

-- and may be deeper than those before
pub depth_more : {A : Type 0} (ts : List (Tree A)) (i : ℕ) (d : Tree A) → i < length ts →
    depth_all (forest (take (i + 1) ts)) ≡ max (depth_all (forest (take i ts))) (depth (get_or ts i d))
depth_more ts i d h = rw (take_more ts i d h) (depth_push (take i ts) (get_or ts i d))
