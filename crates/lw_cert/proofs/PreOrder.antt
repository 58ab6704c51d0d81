-- The proofs that steps in pre-order make, read back from the lines of a proof.
use Rattle.std.proofs.Common.{◌≡◌, ℕ, zero, suc, ◌+◌, List, [], ◌∷◌, ◌++◌, length, map, take, drop, reverse, refl, sym, ◌∙◌, ap, add-one}
use Rattle.std.proofs.lemmas.List.{map-append, reverse-append, take-map, take_at, drop_at, drop-drop}
use Rattle.lw_formula.specs.Formula.{Formula}
use Rattle.lw_formula.specs.Signed.{Signed}
use Rattle.lw_pool.specs.declared.id.SignedId.{SignedId}
use Rattle.lw_pool.specs.Region.{IsLive, signed_at}
use Rattle.lw_proof.specs.declared.rule.Rule.{Rule}
use Rattle.lw_proof.specs.Tree.{Tree, Forest, node, none, more, forest, listed, count_of, map_tree, map_forest, EachPrincipal, EachOfAll}
use Rattle.lw_proof.specs.Break.{arity}
use Rattle.lw_cert.specs.declared.stage.Step.{Step}
use Rattle.lw_cert.specs.Lines.{Line}
use Rattle.lw_cert.specs.Sheet.{steps, all_steps, IsFull, AreFull}
use Rattle.lw_cert.specs.Private.StageViews.{grown, shown, ruled, steps_in, AreLiveSteps}

pub moved-some : {A : Type 0} (old new : List A) (x : A) → old ≡ new ++ x ∷ [] → (x ∷ [] ≡ take 1 (reverse old)) × (reverse new ≡ drop 1 (reverse old))
moved-some old new x popped =
    let top : reverse old ≡ x ∷ reverse new = ap reverse popped ∙ reverse-append new (x ∷ []) in
    (sym (ap (take 1) top), sym (ap (drop 1) top))

take-one : {A : Type 0} (k : ℕ) (xs : List A) → take (suc k) xs ≡ take k xs ++ take 1 (drop k xs)
take-one zero [] = refl
take-one zero (x ∷ xs) = refl
take-one (suc k) [] = refl
take-one (suc k) (x ∷ xs) = ap (λ ys. x ∷ ys) (take-one k xs)

pub taken-step : {A : Type 0} (k : ℕ) (all subs subs' rest rest' : List A) → subs ≡ take k all → rest ≡ drop k all → subs' ≡ subs ++ take 1 rest → rest' ≡ drop 1 rest → (subs' ≡ take (k + 1) all) × (rest' ≡ drop (k + 1) all)
taken-step k all subs subs' rest rest' is left put gone = (
  put ∙ (λ i. is i ++ take 1 (left i)) ∙ sym (take-one k all) ∙ ap (λ n. take n all) (sym (add-one k)),
  gone ∙ ap (drop 1) left ∙ drop-drop 1 k all,
)

pub grown-append : {A : Type 0} (qs ps : List (Rule × A)) (ts : List (Tree A)) → grown (qs ++ ps) ts ≡ grown qs (grown ps ts)
grown-append [] ps ts = refl
grown-append (q ∷ qs) ps ts = ap (λ us. node q.0 q.1 (forest (take (arity q.0) us)) ∷ drop (arity q.0) us) (grown-append qs ps ts)

pub grown-pop : (steps rest : List Step) (s : Step) (ts us : List (Tree SignedId)) → steps ≡ rest ++ s ∷ [] → us ≡ node s.rule s.principal (forest (take (arity s.rule) ts)) ∷ drop (arity s.rule) ts → grown (map ruled rest) us ≡ grown (map ruled steps) ts
grown-pop steps rest s ts us is put =
    ap (grown (map ruled rest)) put
    ∙ sym (grown-append (map ruled rest) (ruled s ∷ []) ts)
    ∙ ap (λ qs. grown qs ts) (sym (map-append ruled rest (s ∷ [])))
    ∙ ap (λ xs. grown (map ruled xs) ts) (sym is)

map_forest-forest : {A B : Type 0} (f : A → B) (ts : List (Tree A)) → map_forest f (forest ts) ≡ forest (map (map_tree f) ts)
map_forest-forest f [] = refl
map_forest-forest f (t ∷ ts) = ap (more (map_tree f t)) (map_forest-forest f ts)

drop-map : {A B : Type 0} (f : A → B) (n : ℕ) (xs : List A) → drop n (map f xs) ≡ map f (drop n xs)
drop-map f zero xs = refl
drop-map f (suc n) [] = refl
drop-map f (suc n) (x ∷ xs) = drop-map f n xs

-- the proofs of renamed steps are renamed
pub grown-map : (ts : List Formula) (ss : List Step) → grown (map (shown ts) ss) [] ≡ map (map_tree (signed_at ts)) (grown (map ruled ss) [])
grown-map ts [] = refl
grown-map ts (s ∷ ss) =
    let us = grown (map ruled ss) [] in
    let n = arity s.rule in
    let f = map_tree (signed_at ts) in
    ap (λ vs. node s.rule (signed_at ts s.principal) (forest (take n vs)) ∷ drop n vs) (grown-map ts ss)
    ∙ (λ i. node s.rule (signed_at ts s.principal) (forest (take-map f n us i)) ∷ drop-map f n us i)
    ∙ ap (λ vs. node s.rule (signed_at ts s.principal) vs ∷ map f (drop n us)) (sym (map_forest-forest (signed_at ts) (take n us)))

forest-listed : {A : Type 0} (ts : Forest A) → forest (listed ts) ≡ ts
forest-listed none = refl
forest-listed (more t ts) = ap (more t) (forest-listed ts)

length-listed : {A : Type 0} (ts : Forest A) → length (listed ts) ≡ count_of ts
length-listed none = refl
length-listed (more t ts) = ap suc (length-listed ts) ∙ sym (add-one (count_of ts))

-- the lines of a full proof make it again
mutual
  pub grown-steps : (d : ℕ) (t : Tree Signed) (rest : List Line) → IsFull t → grown (steps_in (steps d t rest)) [] ≡ t ∷ grown (steps_in rest) []
  grown-steps d (node r s ts) rest full =
      let us = grown (steps_in rest) [] in
      let count : length (listed ts) ≡ arity r = length-listed ts ∙ full.0 in
      ap (λ vs. node r s (forest (take (arity r) vs)) ∷ drop (arity r) vs) (grown-all (suc d) ts rest full.1)
      ∙ (λ i. node r s (forest (take_at (listed ts) us (arity r) count i)) ∷ drop_at (listed ts) us (arity r) count i)
      ∙ ap (λ vs. node r s vs ∷ us) (forest-listed ts)

  grown-all : (d : ℕ) (ts : Forest Signed) (rest : List Line) → AreFull ts → grown (steps_in (all_steps d ts rest)) [] ≡ listed ts ++ grown (steps_in rest) []
  grown-all d none rest full = refl
  grown-all d (more t ts) rest full = grown-steps d t (all_steps d ts rest) full.0 ∙ ap (λ us. t ∷ us) (grown-all d ts rest full.1)

-- the pool has the principals of the proofs
abbrev pub AreLiveTrees : List Formula → List (Tree SignedId) → Type 0
AreLiveTrees ts [] = Unit {0}
AreLiveTrees ts (P ∷ Ps) = EachPrincipal (λ s. IsLive ts s.form) P × AreLiveTrees ts Ps

live-taken : (ts : List Formula) (n : ℕ) (Ps : List (Tree SignedId)) → AreLiveTrees ts Ps → EachOfAll (λ (s : SignedId). IsLive ts s.form) (forest (take n Ps))
live-taken ts zero Ps live = tt
live-taken ts (suc n) [] live = tt
live-taken ts (suc n) (P ∷ Ps) live = (live.0, live-taken ts n Ps live.1)

live-left : (ts : List Formula) (n : ℕ) (Ps : List (Tree SignedId)) → AreLiveTrees ts Ps → AreLiveTrees ts (drop n Ps)
live-left ts zero Ps live = live
live-left ts (suc n) [] live = tt
live-left ts (suc n) (P ∷ Ps) live = live-left ts n Ps live.1

pub live-grown : (ts : List Formula) (ss : List Step) → AreLiveSteps ts ss → AreLiveTrees ts (grown (map ruled ss) [])
live-grown ts [] live = tt
live-grown ts (s ∷ ss) live =
    let us = live-grown ts ss live.1 in
    ((live.0, live-taken ts (arity s.rule) (grown (map ruled ss) []) us), live-left ts (arity s.rule) (grown (map ruled ss) []) us)
