-- Fragments with a world or a link more, and what a cut leaves of them.
use Rattle.std.proofs.Common.{◌≡◌, ℕ, nat_eq, ◌+◌, ◌<◌, ◌≤◌, Bool, true, false, Option, List, [], ◌∷◌, ◌++◌, length, take, ltb, cond, ◌⊎◌, inl, inr, refl, sym, ap, ◌∙◌, arith}
use Rattle.std.specs.List.{All, filter, list_any}
use Rattle.std.proofs.lemmas.Bool.{and_from, and_left, and_parts, lt-ltb, le-ltb, ltb-true, cases_Bool, cases_lt}
use Rattle.std.proofs.lemmas.List.{append-nil, take-append-le, take-take, take_all, length_push}
use Rattle.std.proofs.lemmas.List.Elements.{All-head, All-tail, filter-append}
use Rattle.lw_counter.specs.Fragment.{World, Fragment, IsFormed, world_at, items_of, is_below, cut_to, with_world, with_link}
use Rattle.lw_counter.proofs.WellFormedFragments.{new_world, old_world, kept_world}

-- two fragments of the same worlds and links are one
same_fragment : (ws vs : List World) (ls ks : List (ℕ × ℕ)) → ws ≡ vs → ls ≡ ks → (let a : Fragment = record { worlds = ws; links = ls } in a) ≡ record { worlds = vs; links = ks }
same_fragment ws vs ls ks e f = λ i. record { worlds = e i; links = f i }

filter_all : (p : ℕ × ℕ → Bool) (xs : List (ℕ × ℕ)) → All (λ x. p x ≡ true) xs → filter p xs ≡ xs
filter_all p [] h = refl
filter_all p (x ∷ xs) h =
    let here : p x ≡ true = All-head (λ y. p y ≡ true) x xs h in
    let rest : filter p xs ≡ xs = filter_all p xs (All-tail (λ y. p y ≡ true) x xs h) in
    rw (here, rest) refl

pub cut_self : (f : Fragment) → IsFormed f → cut_to (length f.worlds) f ≡ f
cut_self f h =
    same_fragment (take (length f.worlds) f.worlds) f.worlds (filter (is_below (length f.worlds)) f.links) f.links (take_all (length f.worlds) f.worlds (omega arith))
    (filter_all (is_below (length f.worlds)) f.links (λ i d l. let both = h.linked i d l in and_from _ _ (lt-ltb _ _ both.0) (lt-ltb _ _ both.1)))

pub cut_push : (n : ℕ) (f : Fragment) (parent : Option ℕ) (label : List ℕ) → n ≤ length f.worlds → cut_to n (with_world f parent label) ≡ cut_to n f
cut_push n f parent label l =
    same_fragment (take n (f.worlds ++ (record { label = label; parent = parent }) ∷ [])) (take n f.worlds) (filter (is_below n) f.links) (filter (is_below n) f.links)
    (take-append-le n f.worlds ((record { label = label; parent = parent }) ∷ []) l) refl

filter_last : (p : ℕ × ℕ → Bool) (xs : List (ℕ × ℕ)) (x : ℕ × ℕ) → p x ≡ false → filter p (xs ++ x ∷ []) ≡ filter p xs
filter_last p xs x e =
    let none : filter p (x ∷ []) ≡ [] = rw e refl in
    filter-append p xs (x ∷ []) ∙ ap (λ ys. filter p xs ++ ys) none ∙ append-nil (filter p xs)

pub cut_link : (n : ℕ) (f : Fragment) (from to : ℕ) → n ≤ from → cut_to n (with_link f from to) ≡ cut_to n f
cut_link n f from to l =
    same_fragment (take n f.worlds) (take n f.worlds) (filter (is_below n) (f.links ++ (from, to) ∷ [])) (filter (is_below n) f.links) refl
    (filter_last (is_below n) f.links (from, to) (and_left (ltb from n) (ltb to n) (le-ltb from n l)))

below_more : (m n : ℕ) (l : ℕ × ℕ) → m ≤ n → is_below m l ≡ true → is_below n l ≡ true
below_more m n l h e =
    let both = and_parts (ltb l.0 m) (ltb l.1 m) e in
    let from : l.0 < m = ltb-true l.0 m both.0 in
    let to : l.1 < m = ltb-true l.1 m both.1 in
    and_from (ltb l.0 n) (ltb l.1 n) (lt-ltb l.0 n (omega arith)) (lt-ltb l.1 n (omega arith))

filter_twice : (m n : ℕ) (xs : List (ℕ × ℕ)) → m ≤ n → filter (is_below m) (filter (is_below n) xs) ≡ filter (is_below m) xs
filter_twice m n [] h = refl
filter_twice m n (x ∷ xs) h =
    let rest : filter (is_below m) (filter (is_below n) xs) ≡ filter (is_below m) xs = filter_twice m n xs h in
    elim (cases_Bool (is_below m x)) [
      | inl e ↦ (let in_ : is_below n x ≡ true = below_more m n x h e in
          kept_first m n x xs e in_ ∙ ap (λ ys. x ∷ ys) rest ∙ sym (kept_one m x xs e))
      | inr e ↦ elim (cases_Bool (is_below n x)) [
        | inl in_ ↦ ap (filter (is_below m)) (kept_one n x xs in_) ∙ left_one m x (filter (is_below n) xs) e ∙ rest ∙ sym (left_one m x xs e)
        | inr out ↦ ap (filter (is_below m)) (left_one n x xs out) ∙ rest ∙ sym (left_one m x xs e)
      ]
    ]
  where
    kept_one : (k : ℕ) (y : ℕ × ℕ) (ys : List (ℕ × ℕ)) → is_below k y ≡ true → filter (is_below k) (y ∷ ys) ≡ y ∷ filter (is_below k) ys
    kept_one k y ys e = ap (λ b. cond b (y ∷ filter (is_below k) ys) (filter (is_below k) ys)) e

    left_one : (k : ℕ) (y : ℕ × ℕ) (ys : List (ℕ × ℕ)) → is_below k y ≡ false → filter (is_below k) (y ∷ ys) ≡ filter (is_below k) ys
    left_one k y ys e = ap (λ b. cond b (y ∷ filter (is_below k) ys) (filter (is_below k) ys)) e

    kept_first : (j k : ℕ) (y : ℕ × ℕ) (ys : List (ℕ × ℕ)) → is_below j y ≡ true → is_below k y ≡ true → filter (is_below j) (filter (is_below k) (y ∷ ys)) ≡ y ∷ filter (is_below j) (filter (is_below k) ys)
    kept_first j k y ys e f = ap (filter (is_below j)) (kept_one k y ys f) ∙ kept_one j y (filter (is_below k) ys) e

pub cut_twice : (m n : ℕ) (f : Fragment) → m ≤ n → cut_to m (cut_to n f) ≡ cut_to m f
cut_twice m n f l =
    same_fragment (take m (take n f.worlds)) (take m f.worlds) (filter (is_below m) (filter (is_below n) f.links)) (filter (is_below m) f.links)
    (take-take m n f.worlds l) (filter_twice m n f.links l)

pub length_with : (f : Fragment) (parent : Option ℕ) (label : List ℕ) → length (with_world f parent label).worlds ≡ length f.worlds + 1
length_with f parent label = length_push f.worlds (record { label = label; parent = parent })

-- labels as sets
pub old_items : (f : Fragment) (parent : Option ℕ) (label : List ℕ) (w : ℕ) → w < length f.worlds → items_of (with_world f parent label) w ≡ items_of f w
old_items f parent label w l = ap (λ (x : World). λ (i : ℕ). list_any (λ j. nat_eq j i) x.label) (old_world f parent label w l)

pub new_items : (f : Fragment) (parent : Option ℕ) (label : List ℕ) → items_of (with_world f parent label) (length f.worlds) ≡ (λ i. list_any (λ j. nat_eq j i) label)
new_items f parent label = ap (λ (x : World). λ (i : ℕ). list_any (λ j. nat_eq j i) x.label) (new_world f parent label)

pub old_parent : (f : Fragment) (parent : Option ℕ) (label : List ℕ) (w : ℕ) → w < length f.worlds → (world_at (with_world f parent label) w).parent ≡ (world_at f w).parent
old_parent f parent label w l = ap (λ (x : World). x.parent) (old_world f parent label w l)

pub new_parent : (f : Fragment) (parent : Option ℕ) (label : List ℕ) → (world_at (with_world f parent label) (length f.worlds)).parent ≡ parent
new_parent f parent label = ap (λ (x : World). x.parent) (new_world f parent label)

pub kept_items : (n : ℕ) (f : Fragment) (w : ℕ) → w < n → items_of (cut_to n f) w ≡ items_of f w
kept_items n f w l = ap (λ (x : World). λ (i : ℕ). list_any (λ j. nat_eq j i) x.label) (kept_world n f w l)

-- a world of the new fragment is old, or the new one
pub world_cases : (f : Fragment) (parent : Option ℕ) (label : List ℕ) (w : ℕ) → w < length (with_world f parent label).worlds → (w < length f.worlds) ⊎ (w ≡ length f.worlds)
world_cases f parent label w l =
    elim (cases_lt w (length f.worlds)) [ inl old ↦ inl old | inr past ↦ inr (omega (arith, length_with f parent label)) ]
