-- Sums over lists: one item more at the end.
use Rattle.std.proofs.Common.{◌≡◌, ◌<◌, ◌+◌, ℕ, suc, List, [], ◌∷◌, ◌++◌, length, take, get_or, sym, subst, arith}
use Rattle.std.proofs.lemmas.List.{take_more}
use Rattle.lw_gen.specs.Counts.{Sums, CountsValid, numbers_to}
use Rattle.lw_gen.specs.Counts.Sums.{none, more}

pub Sums-push : {A : Type 0} {Counts : A → ℕ → Type 0} (xs : List A) (x : A) (n m : ℕ) → Sums Counts xs n → Counts x m → Sums Counts (xs ++ x ∷ []) (n + m)
Sums-push {Counts = Counts} _ x _ m none c = let e : m + 0 ≡ 0 + m = omega arith in subst (Sums Counts (x ∷ [])) e (more c none)
Sums-push {Counts = Counts} _ x _ m (more {x = y} {xs = ys} {m = k} {n = r} d rest) c =
    let e : k + (r + m) ≡ k + r + m = omega arith in
    subst (Sums Counts (y ∷ ys ++ x ∷ [])) e (more d (Sums-push ys x r m rest c))

-- one item more of a list's first ones
pub Sums-take : {A : Type 0} {Counts : A → ℕ → Type 0} (xs : List A) (i : ℕ) (d : A) (n m : ℕ) → i < length xs
    → Sums Counts (take i xs) n → Counts (get_or xs i d) m → Sums Counts (take (i + 1) xs) (n + m)
Sums-take {Counts = Counts} xs i d n m l sums c =
    subst (λ ys. Sums Counts ys (n + m)) (sym (take_more xs i d l)) (Sums-push (take i xs) (get_or xs i d) n m sums c)

-- one number more
pub Sums-next : (i n m : ℕ) → Sums CountsValid (numbers_to i) n → CountsValid (i + 1) m → Sums CountsValid (numbers_to (i + 1)) (n + m)
Sums-next i n m sums c =
    let e : i + 1 ≡ suc i = omega arith in
    subst (λ k. Sums CountsValid (numbers_to k) (n + m)) (sym e)
    (Sums-push (numbers_to i) (suc i) n m sums (subst (λ k. CountsValid k m) e c))
