-- Lists of the values of a function.
use Rattle.std.proofs.Common.{◌≡◌, ℕ, zero, suc, ◌+◌, Bool, true, false, ◌||◌, cond, List, [], ◌∷◌, map, ⊎_elim, refl, ap, ◌∙◌, subst}
use Rattle.std.specs.List.{Contains, filter, zip, list_any, enumerate_from, range_with_len}
use Rattle.lw_formula.proofs.ListMembers.{Contains-nil, Contains-head, Contains-tail, Contains-cons_cases}

-- a member's value is among the values
pub map-Contains : {X Y : Type 0} (f : X → Y) (xs : List X) (x : X) → Contains xs x → Contains (map f xs) (f x)
map-Contains f [] x h = absurd (Contains-nil x h)
map-Contains f (y ∷ ys) x h =
    ⊎_elim
    (λ e. subst (λ z. Contains (map f (y ∷ ys)) (f z)) e (Contains-head (f y) (map f ys)))
    (λ rest. Contains-tail (f y) (map f ys) (f x) (map-Contains f ys x rest))
    (Contains-cons_cases y ys x h)

-- and what is among them is a member's value
pub map-Contains_cases : {X Y : Type 0} (f : X → Y) (xs : List X) (y : Y) → Contains (map f xs) y → (x : X) × Contains xs x × (f x ≡ y)
map-Contains_cases f [] y h = absurd (Contains-nil y h)
map-Contains_cases f (x ∷ xs) y h =
    ⊎_elim
    (λ e. (x, Contains-head x xs, e))
    (λ rest. let some = map-Contains_cases f xs y rest in (some.0, Contains-tail x xs some.0 some.1, some.2))
    (Contains-cons_cases (f x) (map f xs) y h)

-- functions that agree on the members give one list of values
pub map-same : {X Y : Type 0} (f g : X → Y) (xs : List X) → ((x : X) → Contains xs x → f x ≡ g x) → map f xs ≡ map g xs
map-same f g [] same = refl
map-same f g (x ∷ xs) same = λ i. same x (Contains-head x xs) i ∷ map-same f g xs (λ y h. same y (Contains-tail x xs y h)) i

-- a test of some value
pub list_any-map : {X Y : Type 0} (p : Y → Bool) (f : X → Y) (xs : List X) → list_any p (map f xs) ≡ list_any (λ x. p (f x)) xs
list_any-map p f [] = refl
list_any-map p f (x ∷ xs) = ap (λ b. p (f x) || b) (list_any-map p f xs)

-- values of pairs of values
pub map-zip : {X Y Z : Type 0} (f g : X → Y) (h : Y × Y → Z) (xs : List X) → map h (zip (map f xs) (map g xs)) ≡ map (λ x. h (f x, g x)) xs
map-zip f g h [] = refl
map-zip f g h (x ∷ xs) = ap (λ zs. h (f x, g x) ∷ zs) (map-zip f g h xs)

places_by_test : {Y : Type 0} (b : Bool) (a : ℕ) (y : Y) (xs : List (ℕ × Y)) →
    map (λ x. x.0) (cond b ((a, y) ∷ xs) xs) ≡ cond b (a ∷ map (λ x. x.0) xs) (map (λ x. x.0) xs)
places_by_test true a y xs = refl
places_by_test false a y xs = refl

-- the places of the values that pass a test
pub places-filter : {Y : Type 0} (f : ℕ → Y) (p : Y → Bool) (a n : ℕ) →
    map (λ x. x.0) (filter (λ x. p x.1) (enumerate_from a (map f (range_with_len a n)))) ≡ filter (λ k. p (f k)) (range_with_len a n)
places-filter f p a zero = refl
places-filter f p a (suc n) =
    places_by_test (p (f a)) a (f a) (filter (λ x. p x.1) (enumerate_from (a + 1) (map f (range_with_len (a + 1) n))))
    ∙ ap (λ ks. cond (p (f a)) (a ∷ ks) ks) (places-filter f p (a + 1) n)
