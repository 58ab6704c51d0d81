-- The members of a list, and lists in which no element stands twice.
use Rattle.std.proofs.Common.{◌≡◌, ◌≢◌, ◌<◌, suc, zero, Bool, true, false, cond, List, [], ◌∷◌, ◌++◌, get_or, ◌⊎◌, inl, inr, ⊎_elim, refl, subst, sym, arith}
use Rattle.std.specs.List.{All, Contains, filter}
use Rattle.std.proofs.lemmas.List.Elements.{All-contains, All-filter, All-contains_itself, filter_passes, Contains-push_cases, Contains-append_cases, Contains-append_right, Contains-get_or}
use Rattle.std.proofs.lemmas.List.Kept.{AllPairs-cons, AllPairs-filter}
use Rattle.lw_formula.specs.FiniteModel.{AreDistinct}

-- the empty list has no member
pub Contains-nil : {X : Type 0} (x : X) → Contains [] x → ⊥
Contains-nil x h = let bad : h.0 < 0 = h.1 in omega arith

-- the first element is a member
pub Contains-head : {X : Type 0} (x : X) (xs : List X) → Contains (x ∷ xs) x
Contains-head x xs = (0, omega arith, refl)

-- a member of the rest is a member
pub Contains-tail : {X : Type 0} (y : X) (xs : List X) (x : X) → Contains xs x → Contains (y ∷ xs) x
Contains-tail y xs x h = Contains-append_right (y ∷ []) xs x h

-- a member is the first element or a member of the rest
pub Contains-cons_cases : {X : Type 0} (y : X) (xs : List X) (x : X) → Contains (y ∷ xs) x → (y ≡ x) ⊎ Contains xs x
Contains-cons_cases y xs x (zero, l, e) = inl e
Contains-cons_cases y xs x (suc k, l, e) = inr (k, omega arith, e)

-- what the rest of a list has by itself holds of each member
pub All-members : {X : Type 0} (P : X → Type 0) (xs : List X) → ((x : X) → Contains xs x → P x) → All P xs
All-members P xs all = λ k d l. all (get_or xs k d) (Contains-get_or xs k d l)

-- what passes a filter is a member that passes the test
pub Contains-filter_cases : {X : Type 0} (p : X → Bool) (xs : List X) (x : X) → Contains (filter p xs) x → Contains xs x × (p x ≡ true)
Contains-filter_cases p xs x h = (
  All-contains (Contains xs) (filter p xs) x (All-filter p (Contains xs) xs (All-contains_itself xs)) h,
  All-contains (λ y. p y ≡ true) (filter p xs) x (filter_passes p xs) h,
)

-- a member that passes the test passes the filter
pub Contains-filter : {X : Type 0} (p : X → Bool) (xs : List X) (x : X) → Contains xs x → p x ≡ true → Contains (filter p xs) x
Contains-filter p [] x h e = absurd (Contains-nil x h)
Contains-filter p (y ∷ ys) x h e = kept p y ys x (Contains-cons_cases y ys x h) e (λ h'. Contains-filter p ys x h' e) (p y) refl
  where
    kept : {X : Type 0} (p : X → Bool) (y : X) (ys : List X) (x : X) → (y ≡ x) ⊎ Contains ys x → p x ≡ true → (Contains ys x → Contains (filter p ys) x) → (b : Bool) → p y ≡ b → Contains (cond b (y ∷ filter p ys) (filter p ys)) x
    kept p y ys x (inl e) t rest true q = subst (Contains (y ∷ filter p ys)) e (Contains-head y (filter p ys))
    kept p y ys x (inl e) t rest false q = let bad : false ≡ true = cc in cc
    kept p y ys x (inr h) t rest true q = Contains-tail y (filter p ys) x (rest h)
    kept p y ys x (inr h) t rest false q = rest h

-- nothing stands twice in the empty list
pub AreDistinct-nil : {X : Type 0} → AreDistinct {X = X} []
AreDistinct-nil i j d l h = absurd (Contains-nil d (j, h, refl))

-- a new element before distinct ones
pub AreDistinct-cons : {X : Type 0} (x : X) (xs : List X) → ¬ Contains xs x → AreDistinct xs → AreDistinct (x ∷ xs)
AreDistinct-cons x xs new apart = AllPairs-cons (λ y z. y ≢ z) x xs (All-members (λ y. x ≢ y) xs (λ y h e. new (subst (Contains xs) (sym e) h))) apart

-- the first of distinct elements isn't among the rest
pub AreDistinct-head : {X : Type 0} (x : X) (xs : List X) → AreDistinct (x ∷ xs) → ¬ Contains xs x
AreDistinct-head x xs apart h = apart 0 (suc h.0) x (omega arith) (omega (arith, h.1)) (sym h.2)

-- the rest of distinct elements are distinct
pub AreDistinct-tail : {X : Type 0} (x : X) (xs : List X) → AreDistinct (x ∷ xs) → AreDistinct xs
AreDistinct-tail x xs apart = λ i j d l h. apart (suc i) (suc j) d (omega arith) (omega arith)

-- what is left by a filter of distinct elements is distinct
pub AreDistinct-filter : {X : Type 0} (p : X → Bool) (xs : List X) → AreDistinct xs → AreDistinct (filter p xs)
AreDistinct-filter p xs = AllPairs-filter (λ y z. y ≢ z) p xs

-- two lists of distinct elements with no common member, one after the other
pub AreDistinct-append : {X : Type 0} (xs ys : List X) → AreDistinct xs → AreDistinct ys → ((x : X) → Contains xs x → Contains ys x → ⊥) → AreDistinct (xs ++ ys)
AreDistinct-append [] ys first second apart = second
AreDistinct-append (x ∷ xs) ys first second apart =
    AreDistinct-cons x (xs ++ ys)
    (λ h. ⊎_elim (λ left. AreDistinct-head x xs first left) (λ right. apart x (Contains-head x xs) right) (Contains-append_cases xs ys x h))
    (AreDistinct-append xs ys (AreDistinct-tail x xs first) second (λ y left right. apart y (Contains-tail x xs y left) right))

-- a new element behind distinct ones
pub AreDistinct-push : {X : Type 0} (xs : List X) (x : X) → AreDistinct xs → ¬ Contains xs x → AreDistinct (xs ++ x ∷ [])
AreDistinct-push xs x apart new =
    AreDistinct-append xs (x ∷ []) apart
    (AreDistinct-cons x [] (Contains-nil x) AreDistinct-nil)
    (λ y left right. ⊎_elim (λ none. Contains-nil y none) (λ e. new (subst (Contains xs) (sym e) left)) (Contains-push_cases [] x y right))
